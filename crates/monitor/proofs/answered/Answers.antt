-- `answered` meets its contract: a listing, or another call served. Assumes nothing.
use native.Mathlib.Omega.{arith}
use mathlib.Core.Path.{sym, subst}
use Rattle.listing.specs.Rows.{ServesListing}
use Rattle.table.proofs.LegalFits.{sound_legal}
use Rattle.monitor.proofs.CallEnds.{walked_served, walked_listed}
use Rattle.monitor.proofs.answered.Goals as goal

pub list-requires : goal.list-requires
list-requires c = sound_legal c.requires

pub returns-then-call-eq-LIST : goal.returns-then-call-eq-LIST
returns-then-call-eq-LIST c = walked_listed c.requires c.if-call-eq-LIST.true
    (subst (ServesListing _ _ _ _) (sym c.quiet.ensures.answer) c.list.ensures) c.quiet.ensures.walk

pub serve-requires : goal.serve-requires
serve-requires c = (sound_legal c.requires, c.if-call-eq-LIST.false)

pub returns : goal.returns
returns c = walked_served c.requires c.if-call-eq-LIST.false (c.serve.ensures.serves_walked _)

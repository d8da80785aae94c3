-- The last clause of `events`, which is told by what it isn't. Assumes nothing.
use mathlib.Core.Path.{◌≡◌, refl}
use native.Mathlib.Omega.{arith}
use Rattle.why.specs.Clause.{clause_of, BufferOff}
use Rattle.why.proofs.Looks.{looks}
use Rattle.why.proofs.clauses.events.Goals as goal

pub buffer_links-requires : goal.buffer_links-requires
unfolding clause_of
buffer_links-requires c = let e : c.args.c ≡ 29 = omega arith in (c.requires.0.ready.sized (omega arith), rw e at c.requires.0.is)

pub returns-in_default : goal.returns-in_default
unfolding clause_of
returns-in_default c = let e : c.args.c ≡ 29 = omega arith in looks 29 BufferOff refl e c.buffer_links.ensures

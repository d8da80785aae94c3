-- `take_out` meets its contract: p is behind the place that was found, or isn't there. Assumes nothing.
use mathlib.Core.Path.{refl, sym, ap, ◌∙◌}
use Rattle.delays.specs.declared.list.Spot.{Spot}
use Rattle.delays.proofs.Reading.{gone_not, gone_there}
use Rattle.delays.proofs.list.take_out.Goals as goal

pub returns-in-Some : goal.returns-in-Some
returns-in-Some c =
    let s = c.in-Some.ensures in
    c.unlink.ensures ∙ gone_there _ _ (ap (λ (y : Spot). y.before) s.0) (sym s.1.0) refl

pub returns-in_default : goal.returns-in_default
returns-in_default c = gone_not _ _ refl refl c.in_default.ensures

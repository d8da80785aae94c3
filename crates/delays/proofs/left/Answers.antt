-- `left` meets its contract: waiting, and not waiting. Assumes nothing.
use mathlib.Core.Path.{◌≡◌, refl, sym, ap, ap₂, ◌∙◌}
use Rattle.delays.specs.Words.{sum, sought, difference}
use Rattle.delays.specs.declared.list.Spot.{Spot}
use Rattle.delays.proofs.Reading.{unless_passed, left_not, left_there}
use Rattle.delays.proofs.left.Goals as goal

pub returns-in-Some : goal.returns-in-Some
returns-in-Some c =
    let n = c.in_ok-admitted.ensures.number in
    let s = c.in-Some.ensures in
    let e : c.sum.result ≡ sum (sought c.args.t.now c.args.p).time (difference c.args.t.now c.args.p) =
    c.sum.ensures ∙ ap₂ sum (ap (λ (y : Spot). y.time) s.0) c.difference.ensures in
    record { number = n; time = e ∙ left_there _ _ (ap (λ (y : Spot). y.before) s.0) (sym s.1.0) refl ∙ unless_passed _ _ _ (sym n) }

pub returns-in-None : goal.returns-in-None
returns-in-None c =
    let n = c.in_ok-admitted.ensures.number in
    record { number = n; time = left_not _ _ refl refl c.in-None.ensures ∙ unless_passed _ _ _ (sym n) }

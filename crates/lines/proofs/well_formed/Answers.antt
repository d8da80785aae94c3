-- `well_formed` meets its contract: what each call uses. Assumes nothing.
use mathlib.Core.Bool.{and_assoc, and-true}
use mathlib.Core.Logic.{⊎_elim}
use native.Mathlib.Omega.{arith}
use lib.Dec.{eqb}
use mathlib.Core.Path.{◌≡◌, refl, sym}
use borrow.Author.Tests.{ne_eqb}
use Rattle.lines.specs.Line.{well_formed}
use Rattle.lines.proofs.well_formed.Goals as goal

pub returns-in-1 : goal.returns-in-1
unfolding well_formed
returns-in-1 c = ⊎_elim (λ e. rw e (sym (and-true _))) (λ e. rw e (sym (and-true _))) c.in-1.is

pub returns-in-5 : goal.returns-in-5
unfolding well_formed
returns-in-5 c = rw c.in-5.is c.all_zero-zeros.ensures

pub returns-in-9 : goal.returns-in-9
unfolding well_formed
returns-in-9 c = rw (c.in-9.is, c.all_zero-zeros.ensures) (and_assoc (eqb c.args.call.a 0) (eqb c.args.call.b 0) _)

pub returns-in_default : goal.returns-in_default
unfolding well_formed
returns-in_default c =
    let k = c.args.call.number in
    let first : k ≡ 1 → ⊥ = λ e. grind arith in
    let fourth : k ≡ 4 → ⊥ = λ e. grind arith in
    let fifth : k ≡ 5 → ⊥ = λ e. grind arith in
    let ninth : k ≡ 9 → ⊥ = λ e. grind arith in
    rw (c.all_zero-zeros.ensures, ne_eqb k 1 first, ne_eqb k 4 fourth, ne_eqb k 5 fifth, ne_eqb k 9 ninth) refl

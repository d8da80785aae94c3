-- `sound::devices::devices` meets its contract: nobody is named, or the loop's invariant: the devices passed, four a pass, are in order. Assumes nothing.
use mathlib.Core.Path.{◌≡◌, sym, ◌∙◌}
use mathlib.Core.Bool.{Bool, true, false, ◌&&◌, true≢false, and-eq-true_iff}
use Prim.Native.Nat.{ℕ, ◌+◌, ◌*◌, ◌≤◌}
use native.Mathlib.Omega.{arith}
use Rattle.lists.proofs.Tells.{all_holds}
use Rattle.lists.specs.Counts.{all}
use Rattle.lists.proofs.Tests.{is_false}
use Rattle.lists.proofs.Counting.{all_none, all_more}
use Rattle.sound.proofs.Idle.{named_none}
use Rattle.sound.proofs.devices.devices.Goals as goal

abbrev four : (ℕ → Bool) → ℕ → Bool
four f k = f (4 * k + 1) && (f (4 * k + 2) && (f (4 * k + 3) && f (4 * k + 4)))

-- four more, and four of which one fails
four_more : (f : ℕ → Bool) (k : ℕ) → all f (4 * k) ≡ true → four f k ≡ true → all f (4 * (k + 1)) ≡ true
four_more f k a t =
    let h = (and-eq-true_iff (f (4 * k + 1)) _).0 t in
    let i = (and-eq-true_iff (f (4 * k + 2)) _).0 h.1 in
    let j = (and-eq-true_iff (f (4 * k + 3)) (f (4 * k + 4))).0 i.1 in
    let e₂ : 4 * k + 1 + 1 ≡ 4 * k + 2 = omega arith in
    let e₃ : 4 * k + 2 + 1 ≡ 4 * k + 3 = omega arith in
    let e₄ : 4 * k + 3 + 1 ≡ 4 * k + 4 = omega arith in
    let e : 4 * (k + 1) ≡ 4 * k + 4 = omega arith in
    let a₁ : all f (4 * k + 1) ≡ true = all_more f (4 * k) a h.0 in
    let a₂ : all f (4 * k + 2) ≡ true = rw e₂ at (all_more f (4 * k + 1) a₁ (rw e₂ i.0)) in
    let a₃ : all f (4 * k + 3) ≡ true = rw e₃ at (all_more f (4 * k + 2) a₂ (rw e₃ j.0)) in
    rw e (rw e₄ at (all_more f (4 * k + 3) a₃ (rw e₄ j.1)))

four_fails : (f : ℕ → Bool) (k n : ℕ) → 4 * k + 4 ≤ n → four f k ≡ false → all f n ≡ false
four_fails f k n l t = is_false (all f n) (λ a. true≢false (sym (four_true a) ∙ t))
  where
    four_true : all f n ≡ true → four f k ≡ true
    four_true a =
        rw (
          all_holds f n a (4 * k + 1) (omega arith) (omega arith),
          all_holds f n a (4 * k + 2) (omega arith) (omega arith),
          all_holds f n a (4 * k + 3) (omega arith) (omega arith),
          all_holds f n a (4 * k + 4) (omega arith) (omega arith),
        )

pub returns-then-named-eq0 : goal.returns-then-named-eq0
returns-then-named-eq0 c = named_none _ 64 (sym c.named.ensures ∙ c.if-named-eq0.true)

pub loop-fours-init : goal.loop-fours-init
loop-fours-init c = all_none _

pub returns-then-not-four : goal.returns-then-not-four
returns-then-not-four c = sym (four_fails _ _ 64 (omega arith) (sym c.four.ensures ∙ c.if-not-four.true))

pub loop-fours-preserved : goal.loop-fours-preserved
loop-fours-preserved c = four_more _ _ c.loop-fours.invariant (sym c.four.ensures ∙ c.if-not-four.false)

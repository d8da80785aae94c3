-- Tests taken apart: both ways out of one, and the rows of a table of refusals all passed. Assumes nothing.
use Prim.Native.Nat.{ℕ}
use native.Mathlib.Omega.{arith}
use mathlib.Core.Bool.{Bool, true, false, ◌&&◌, ◌||◌}
use mathlib.Core.List.{List, [], ◌∷◌}
use mathlib.Core.Path.{◌≡◌, refl, sym, ◌∙◌}
use lib.Dec.{eqb}
use borrow.Author.Tests.{ne_eqb, eqb-false, le-ltb, ltb-false}
use Rattle.machine.specs.Queue.{if, Range}
use Rattle.machine.specs.Refusal.{Row, ◌when◌, first, outside}

-- what holds of both ways out of a test holds of the test
pub either : {A : Type 0} (C : A → Type 0) (t : Bool) {a b : A} → (t ≡ true → C a) → (t ≡ false → C b) → C (if t a b)
either C true f g = f refl
either C false f g = g refl

pub tested : {C : Type 0} (t : Bool) → (t ≡ true → C) → (t ≡ false → C) → C
tested true f g = f refl
tested false f g = g refl

pub differ : true ≡ false → ⊥
differ e = let z : ◌≡◌ {A = ℕ} 0 1 = cc in omega arith

pub and_true : {a b : Bool} → (a && b) ≡ true → (a ≡ true) × (b ≡ true)
and_true {a = true} e = (refl, e)
and_true {a = false} e = absurd (differ (sym e))

pub or_false : {a b : Bool} → (a || b) ≡ false → (a ≡ false) × (b ≡ false)
or_false {a = true} e = absurd (differ e)
or_false {a = false} e = (refl, e)

pub second : {a b : Bool} → (a || (b || false)) ≡ true → a ≡ false → b ≡ true
second {a = true} {b = true} e f = refl
second {a = true} {b = false} e f = absurd (differ f)
second {a = false} {b = true} e f = refl
second {a = false} {b = false} e f = e

pub inside : (n x : ℕ) → outside x n ≡ false → Range n x
inside n x e = let h = or_false {a = eqb x 0} e in (omega (arith, eqb-false x 0 h.0), ltb-false n x h.1)

-- what isn't false is true, and what isn't true is false
pub not_so : (t : Bool) → (t ≡ false → ⊥) → t ≡ true
not_so true h = refl
not_so false h = absurd (h refl)

pub is_false : (t : Bool) → (t ≡ true → ⊥) → t ≡ false
is_false true h = absurd (h refl)
is_false false h = refl

pub outside_true : (n x : ℕ) → (Range n x → ⊥) → outside x n ≡ true
outside_true n x h = not_so (outside x n) (λ e. h (inside n x e))

pub outside_false : (n x : ℕ) → Range n x → outside x n ≡ false
outside_false n x h = rw (ne_eqb x 0 (omega arith), le-ltb n x h.1)

-- what a call of `outside` found, of a number that is n
pub found_outside : (x : ℕ) {r t : Bool} {k n : ℕ} → k ≡ n → r ≡ outside x k → r ≡ t → outside x n ≡ t
found_outside x e f g = rw (← e) (sym f ∙ g)

-- the tests of the rows, all passed
abbrev pub RowsPass : List Row → Type 0
RowsPass [] = Unit {0}
RowsPass ((n when t) ∷ l) = (t ≡ false) × RowsPass l

abbrev pub Sure : List Row → Type 0
Sure [] = Unit {0}
Sure ((n when t) ∷ l) = (n ≡ 0 → ⊥) × Sure l

pub passes : (l : List Row) → Sure l → first l ≡ 0 → RowsPass l
unfolding first
passes [] s e = tt
passes ((n when true) ∷ l) s e = absurd (s.0 e)
passes ((n when false) ∷ l) s e = (refl, passes l s.1 e)

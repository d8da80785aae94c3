-- The value of a chain of tests, from what each test found: `search found`. Assumes nothing.
use mathlib.Core.Path.{◌≡◌, refl, sym, ◌∙◌}
use mathlib.Core.Bool.{Bool, true, false, not, ◌&&◌, ◌||◌}
use Prim.Native.Nat.{ℕ}
use lib.Dec.{leb}
use borrow.Author.Tests.{eq-eqb, ne_eqb, le-leb, lt-leb, lt-ltb, le-ltb, not-true, not-false}
use Rattle.machine.specs.Queue.{if}
use Rattle.lists.specs.Counts.{bit}
use Rattle.sound.specs.Queues.{failed}

-- ---- connectives
pub and_no : (a b : Bool) → a ≡ false → false ≡ (a && b)
and_no a b e = rw e refl

pub and_yes : (a b r : Bool) → a ≡ true → r ≡ b → r ≡ (a && b)
and_yes a b r e f = rw e f

pub or_yes : (a b : Bool) → a ≡ true → true ≡ (a || b)
or_yes a b e = rw e refl

pub or_no : (a b r : Bool) → a ≡ false → r ≡ b → r ≡ (a || b)
or_no a b r e f = rw e f

pub if_yes : {A : Type 0} (a : Bool) (x y r : A) → a ≡ true → r ≡ x → r ≡ if a x y
if_yes a x y r e f = rw e f

pub if_no : {A : Type 0} (a : Bool) (x y r : A) → a ≡ false → r ≡ y → r ≡ if a x y
if_no a x y r e f = rw e f

pub and_both : (a b c d : Bool) → a ≡ c → b ≡ d → (a && b) ≡ (c && d)
and_both a b c d e f = rw (e, f) refl

pub leb_at : (x y z : ℕ) → y ≡ z → leb x y ≡ leb x z
leb_at x y z e = rw e refl

pub bit_yes : (a : Bool) → a ≡ true → 1 ≡ bit a
bit_yes a e = rw e refl

pub bit_no : (a : Bool) → a ≡ false → 0 ≡ bit a
bit_no a e = rw e refl

-- ---- a number where a test holds, else failed
pub counts : (a : Bool) (n r : ℕ) → true ≡ a → r ≡ n → r ≡ if a n failed
counts a n r e f = rw (← e) f

pub fails : (a : Bool) (n : ℕ) → false ≡ a → failed ≡ if a n failed
fails a n e = rw (← e) refl

pub counted : (a : Bool) (n r : ℕ) → r ≡ if a n failed → (r ≡ failed → ⊥) → (a ≡ true) × (r ≡ n)
counted true n r e f = (refl, e)
counted false n r e f = absurd (f e)

pub failing : (a : Bool) (n r : ℕ) → r ≡ if a n failed → r ≡ failed → (a ≡ true → n ≡ failed → ⊥) → a ≡ false
failing true n r e f g = absurd (g refl (sym e ∙ f))
failing false n r e f g = refl

-- ---- what a call gave, asked by `if f()` or by `if !f()`
pub is_yes : {r b : Bool} → r ≡ b → r ≡ true → true ≡ b
is_yes e t = sym t ∙ e

pub is_no : {r b : Bool} → r ≡ b → r ≡ false → false ≡ b
is_no e t = sym t ∙ e

pub call_yes : {r b : Bool} → r ≡ b → r ≡ true → b ≡ true
call_yes e t = sym e ∙ t

pub call_no : {r b : Bool} → r ≡ b → r ≡ false → b ≡ false
call_no e t = sym e ∙ t

pub not_call_yes : {r b : Bool} → r ≡ b → not r ≡ true → b ≡ false
not_call_yes e t = sym e ∙ not-true _ t

pub not_call_no : {r b : Bool} → r ≡ b → not r ≡ false → b ≡ true
not_call_no e t = sym e ∙ not-false _ t

pub ruleset found = (
  and_no,
  and_yes,
  or_yes,
  or_no,
  if_yes,
  if_no,
  and_both,
  leb_at,
  bit_yes,
  bit_no,
  counts,
  fails,
  is_yes,
  is_no,
  call_yes,
  call_no,
  not_call_yes,
  not_call_no,
  eq-eqb,
  ne_eqb,
  le-leb,
  lt-leb,
  lt-ltb,
  le-ltb,
)

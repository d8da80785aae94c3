-- The bytes after so many lines, a byte at a time. Assumes nothing.
use mathlib.Core.List.{List, []}
use mathlib.Core.Path.{◌≡◌, refl, sym, ap, ◌∙◌}
use Prim.Native.Nat.{ℕ, zero, suc, ◌+◌, ◌-◌, ◌≤◌, ◌<◌}
use native.Mathlib.Numerals.{add-one}
use native.Mathlib.Omega.{arith}
use lib.ListN.{length, drop, get_or, drop_of_length-le}
use lib.Seq.{drop-cons}
use borrow.Author.Tests.{eq-eqb, ne_eqb}
use Rattle.compare.specs.Differing.{after}
use Rattle.compare.specs.Common.{Behind}

-- the bytes after n lines are those after `left` lines of what begins at i
pub record Cutting (log : List ℕ) (n i left : ℕ) : Type 0 where
  pub some : 0 < left
  pub goes : after n log ≡ after left (drop i log)

module _ (log : List ℕ) where
  pub cutting_none : Behind log 0 0
  unfolding after
  cutting_none = record { in_log = omega arith; bytes = refl }

  -- a byte that ends a line, and one that doesn't
  after_end : (k i : ℕ) → i < length log → get_or log i 0 ≡ 0x0A → after (suc k) (drop i log) ≡ after k (drop (i + 1) log)
  unfolding after
  after_end k i h e = rw (drop-cons log i 0 h, eq-eqb (get_or log i 0) 0x0A e, add-one)

  after_other : (k i : ℕ) → i < length log → (get_or log i 0 ≡ 0x0A → ⊥) → after (suc k) (drop i log) ≡ after (suc k) (drop (i + 1) log)
  unfolding after
  after_other k i h e = rw (drop-cons log i 0 h, ne_eqb (get_or log i 0) 0x0A e, add-one)

none_left : (left : ℕ) → after left [] ≡ []
unfolding after
none_left zero = refl
none_left (suc left) = refl

module _ {log : List ℕ} {n i left : ℕ} (c : Cutting log n i left) where
  counted : (l : List ℕ) → after left l ≡ after (suc (left - 1)) l
  counted l = let e : left ≡ suc (left - 1) = omega (arith, c.some) in ap (λ (k : ℕ). after k l) e

  pub cutting_other : i < length log → (get_or log i 0 ≡ 0x0A → ⊥) → Cutting log n (i + 1) left
  cutting_other h e =
      record { some = c.some; goes = c.goes ∙ counted (drop i log) ∙ after_other log (left - 1) i h e ∙ sym (counted (drop (i + 1) log)) }

  ended : i < length log → get_or log i 0 ≡ 0x0A → after n log ≡ after (left - 1) (drop (i + 1) log)
  ended h e = c.goes ∙ counted (drop i log) ∙ after_end log (left - 1) i h e

  pub cutting_end : i < length log → get_or log i 0 ≡ 0x0A → (left - 1 ≡ 0 → ⊥) → Cutting log n (i + 1) (left - 1)
  cutting_end h e s = record { some = omega arith; goes = ended h e }

  pub cutting_behind : i < length log → get_or log i 0 ≡ 0x0A → left - 1 ≡ 0 → Behind log n (i + 1)
  unfolding after
  cutting_behind h e s = record { in_log = omega arith; bytes = sym (ended h e ∙ ap (λ (k : ℕ). after k (drop (i + 1) log)) s) }

  -- nothing is left
  pub cutting_over : length log ≤ i → Behind log n (length log)
  cutting_over h =
      let d : drop (length log) log ≡ [] = drop_of_length-le log (omega arith) in
      record { in_log = omega arith; bytes = d ∙ sym (c.goes ∙ ap (after left) (drop_of_length-le log h) ∙ none_left left) }

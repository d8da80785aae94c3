-- Bases inside and outside: the number that is 2³² larger. Assumes nothing.
use mathlib.Core.Path.{◌≡◌, refl, sym, ap, ◌∙◌}
use Prim.Native.Nat.{ℕ, suc, ◌+◌, ◌-◌, ◌≤◌, ◌<◌}
use native.Mathlib.Omega.{arith}
use lib.Dec.{ltb}
use lib.IntN.{ℤ, pos, negsuc, sub_ℕ, ◌+ℤ◌, ◌-ℤ◌}
use mir.Syntax.{w32, w64}
use mir.Val.{SFits, to_z, of_z}
use mir.Facts.{to_z-of_z, to_z_pos, sfits_widen}
use borrow.Author.Tests.{lt-ltb, le-ltb, ltb-true, ltb-false}
use borrow.Table.Steps.{cases}
use Rattle.tape.specs.Promise.{whole, Based}

sub_pos : (a b : ℕ) → b ≤ a → sub_ℕ a b ≡ pos (a - b)
sub_pos a b h = rw (le-ltb a b h)

sub_neg : (a b : ℕ) → a < b → sub_ℕ a b ≡ negsuc (b - suc a)
sub_neg a b h = rw (lt-ltb a b h)

-- the difference, by its sign
pub whole_pos : (b : ℕ) → 4294967296 ≤ b → whole b ≡ pos (b - 4294967296)
unfolding whole
whole_pos b h = sub_pos b 4294967296 h

pub whole_neg : (b : ℕ) → b < 4294967296 → whole b ≡ negsuc (4294967295 - b)
unfolding whole
whole_neg b h = sub_neg b 4294967296 h ∙ ap negsuc (omega arith)

-- up and down
pub whole_up : (b n : ℕ) → whole b +ℤ pos n ≡ whole (b + n)
whole_up b n =
    cases (ltb b 4294967296)
    (λ t. let h = ltb-true b 4294967296 t in
    rw (whole_neg b h)
    (cases (ltb (b + n) 4294967296)
    (λ u. let k = ltb-true (b + n) 4294967296 u in sub_neg n (suc (4294967295 - b)) (omega arith) ∙ ap negsuc (omega arith) ∙ sym (whole_neg (b + n) k))
    (λ u. let k = ltb-false (b + n) 4294967296 u in sub_pos n (suc (4294967295 - b)) (omega arith) ∙ ap pos (omega arith) ∙ sym (whole_pos (b + n) k))))
    (λ t. let h = ltb-false b 4294967296 t in
    rw (whole_pos b h, whole_pos (b + n) (omega arith)) (ap pos (omega arith)))

pub whole_down : (b n : ℕ) → n < b → whole b -ℤ pos (suc n) ≡ whole (b - suc n)
whole_down b n l =
    cases (ltb b 4294967296)
    (λ t. let h = ltb-true b 4294967296 t in
    rw (whole_neg b h, whole_neg (b - suc n) (omega arith)) (ap negsuc (omega arith)))
    (λ t. let h = ltb-false b 4294967296 t in
    rw (whole_pos b h)
    (cases (ltb (b - suc n) 4294967296)
    (λ u. let k = ltb-true (b - suc n) 4294967296 u in sub_neg (b - 4294967296) (suc n) (omega arith) ∙ ap negsuc (omega arith) ∙ sym (whole_neg (b - suc n) k))
    (λ u. let k = ltb-false (b - suc n) 4294967296 u in sub_pos (b - 4294967296) (suc n) (omega arith) ∙ ap pos (omega arith) ∙ sym (whole_pos (b - suc n) k))))

-- ---- in and out
abbrev pub lifted : ℤ → ℕ
lifted (pos n) = n + 4294967296
lifted (negsuc n) = 4294967295 - n

module _ (z : ℤ) (f : SFits w32 z) where
  pub as_read : to_z w32 (of_z w32 z) ≡ z
  as_read = to_z-of_z f

  pub widens : SFits w64 (to_z w32 (of_z w32 z))
  widens = rw as_read (sfits_widen tt f)

  -- the base as the sum reads it
  abbrev pub widened : ℤ
  widened = to_z w64 (of_z w64 (to_z w32 (of_z w32 z)))

  pub widened_is : widened ≡ z
  widened_is = to_z-of_z widens ∙ as_read

pub lifts : (z : ℤ) → SFits w32 z → z +ℤ pos 4294967296 ≡ pos (lifted z)
lifts (pos n) f = refl
lifts (negsuc n) f = let h = f.sfits in sub_pos 4294967296 (suc n) (omega arith) ∙ ap pos (omega arith)

pub lifted_based : (z : ℤ) → SFits w32 z → Based (lifted z)
lifted_based (pos n) f = let h = f.sfits in record { low = omega arith; high = omega arith }
lifted_based (negsuc n) f = let h = f.sfits in record { low = omega arith; high = omega arith }

pub lifted_whole : (z : ℤ) → SFits w32 z → whole (lifted z) ≡ z
lifted_whole (pos n) f = whole_pos (n + 4294967296) (omega arith) ∙ ap pos (omega arith)
lifted_whole (negsuc n) f = let h = f.sfits in whole_neg (4294967295 - n) (omega arith) ∙ ap negsuc (omega arith)

module _ (z : ℤ) (f : SFits w32 z) where
  lifted_fits : SFits w64 (pos (lifted z))
  lifted_fits = let h = lifted_based z f in record { sfits = omega arith }

  pub sum_is : widened z f +ℤ pos 4294967296 ≡ pos (lifted z)
  sum_is = ap (λ (x : ℤ). x +ℤ pos 4294967296) (widened_is z f) ∙ lifts z f

  pub sum_fits : SFits w64 (widened z f +ℤ pos 4294967296)
  sum_fits = rw sum_is lifted_fits

  pub sum_read : to_z w64 (of_z w64 (widened z f +ℤ pos 4294967296)) ≡ pos (lifted z)
  sum_read = to_z-of_z sum_fits ∙ sum_is

module _ (b : ℕ) (h : Based b) where
  whole_fits : SFits w32 (whole b)
  whole_fits =
      cases {X = SFits w32 (whole b)} (ltb b 4294967296)
      (λ t. let k = ltb-true b 4294967296 t in rw (whole_neg b k) (record { sfits = omega arith }))
      (λ t. let k = ltb-false b 4294967296 t in rw (whole_pos b k) (record { sfits = omega arith }))

  -- the difference as the machine reads it
  abbrev pub lowered : ℤ
  lowered = to_z w64 b -ℤ pos 4294967296

  lowered_is : lowered ≡ whole b
  unfolding whole
  lowered_is = ap (λ (x : ℤ). x -ℤ pos 4294967296) (to_z_pos w64 {n = b} (omega arith))

  pub lowered_fits : SFits w64 lowered
  lowered_fits = rw lowered_is (sfits_widen tt whole_fits)

  pub lowered_read : SFits w32 (to_z w64 (of_z w64 lowered))
  lowered_read = rw (to_z-of_z lowered_fits, lowered_is) whole_fits

  pub lowered_whole : to_z w32 (of_z w32 (to_z w64 (of_z w64 lowered))) ≡ whole b
  lowered_whole = to_z-of_z lowered_read ∙ to_z-of_z lowered_fits ∙ lowered_is

-- One more and one less of the number that a word holds, whether it is below zero, and minus it. Assumes nothing.
use mathlib.Core.Path.{◌≡◌, refl, sym, ap, ◌∙◌, subst}
use mathlib.Core.Bool.{false}
use Prim.Native.Nat.{ℕ, zero, suc, ◌+◌, ◌-◌, ◌≤◌, ◌<◌, ◌^◌}
use native.Mathlib.Omega.{arith}
use native.Mathlib.Decide.{dec_le}
use lib.Dec.{T, eqb}
use lib.IntN.{ℤ, pos, negsuc, ◌+ℤ◌, ◌-ℤ◌, suc_ℤ, pred_ℤ, +ℤ_one, -ℤ_one, nat_abs}
use lib.Signed.{lt_z, non_neg}
use mir.Syntax.{w16}
use mir.Val.{Fits, SFits, to_z, of_z}
use mir.Facts.{of_z-to_z, to_z_pos, to_z-neg, to_z-of_z}
use borrow.Author.Tests.{le-ltb, le-leb, lt-leb, eq-eqb, ne_eqb}
use Rattle.machine.specs.Machine.{below_zero, up, down}
use Rattle.lists.proofs.Links.{cases}
use Rattle.counter.specs.Counter.{waiting, waiting_is}
use Rattle.counter.proofs.Integers.{back, back_is, negated}

halves : {C : Type 0} (w : ℕ) → (w < 32768 → C) → (32768 ≤ w → C) → C
halves {C} w low high = go (dec_le 32768 w)
  where
    go : Dec (32768 ≤ w) → C
    go (yes h) = high h
    go (no h) = low (omega arith)

-- ---- one less, one more
pred_fits : (z : ℤ) → SFits w16 z → (of_z w16 z ≡ 32768 → ⊥) → SFits w16 (pred_ℤ z)
pred_fits (pos zero) f n = record { sfits = omega arith }
pred_fits (pos (suc k)) f n = let s : suc k < 2 ^ 15 = f.sfits in record { sfits = omega arith }
pred_fits (negsuc k) f n = let s : k < 2 ^ 15 = f.sfits in record { sfits = (let e : suc k < 2 ^ 15 = omega arith in e) }

pred_word : (z : ℤ) → SFits w16 z → (of_z w16 z ≡ 32768 → ⊥) → of_z w16 (pred_ℤ z) ≡ down (of_z w16 z)
pred_word (pos zero) f n = refl
pred_word (pos (suc k)) f n = let s : suc k < 2 ^ 15 = f.sfits in omega arith
pred_word (negsuc k) f n = let s : k < 2 ^ 15 = f.sfits in omega arith

suc_fits : (z : ℤ) → SFits w16 z → (of_z w16 z ≡ 32767 → ⊥) → SFits w16 (suc_ℤ z)
suc_fits (pos k) f n = let s : k < 2 ^ 15 = f.sfits in record { sfits = (let e : suc k < 2 ^ 15 = omega arith in e) }
suc_fits (negsuc zero) f n = record { sfits = omega arith }
suc_fits (negsuc (suc k)) f n = let s : suc k < 2 ^ 15 = f.sfits in record { sfits = (let e : k < 2 ^ 15 = omega arith in e) }

suc_word : (z : ℤ) → SFits w16 z → (of_z w16 z ≡ 32767 → ⊥) → of_z w16 (suc_ℤ z) ≡ up (of_z w16 z)
suc_word (pos k) f n = let s : k < 2 ^ 15 = f.sfits in omega arith
suc_word (negsuc zero) f n = refl
suc_word (negsuc (suc k)) f n = let s : suc k < 2 ^ 15 = f.sfits in omega arith

-- ---- of the number z that the word w holds
module _ {w : ℕ} {z : ℤ} (word : w < 2 ^ 16) (e : z ≡ to_z w16 w) where
  word_is : of_z w16 z ≡ w
  word_is = ap (of_z w16) e ∙ of_z-to_z {w = w16} (record { fits = word })

  low : w < 32768 → z ≡ pos w
  low h = e ∙ to_z_pos w16 h

  high : 32768 ≤ w → z ≡ negsuc (65535 - w)
  high h =
      let i : w ≡ 2 ^ 16 - suc (65535 - w) = omega arith in
      let s : 65535 - w < 2 ^ 15 = omega arith in
      e ∙ ap (to_z w16) i ∙ to_z-neg w16 (65535 - w) s

  fits : SFits w16 z
  fits =
      halves w (λ h. subst (SFits w16) (sym (low h)) (record { sfits = h }))
      (λ h. subst (SFits w16) (sym (high h)) (record { sfits = (let s : 65535 - w < 2 ^ 15 = omega arith in s) }))

  less : back z -ℤ pos 1 ≡ pred_ℤ z
  less = ap (λ (y : ℤ). y -ℤ pos 1) (back_is z fits) ∙ -ℤ_one z

  more : back z +ℤ pos 1 ≡ suc_ℤ z
  more = ap (λ (y : ℤ). y +ℤ pos 1) (back_is z fits) ∙ +ℤ_one z

  pub lower_fits : (w ≡ 32768 → ⊥) → SFits w16 (back z -ℤ pos 1)
  lower_fits n = subst (SFits w16) (sym less) (pred_fits z fits (λ k. n (sym word_is ∙ k)))

  pub lower_is : (w ≡ 32768 → ⊥) → of_z w16 (back (back z -ℤ pos 1)) ≡ down w
  lower_is n = ap (of_z w16) (to_z-of_z (lower_fits n) ∙ less) ∙ pred_word z fits (λ k. n (sym word_is ∙ k)) ∙ ap down word_is

  pub raise_fits : (w ≡ 32767 → ⊥) → SFits w16 (back z +ℤ pos 1)
  raise_fits n = subst (SFits w16) (sym more) (suc_fits z fits (λ k. n (sym word_is ∙ k)))

  pub raise_is : (w ≡ 32767 → ⊥) → of_z w16 (back (back z +ℤ pos 1)) ≡ up w
  raise_is n = ap (of_z w16) (to_z-of_z (raise_fits n) ∙ more) ∙ suc_word z fits (λ k. n (sym word_is ∙ k)) ∙ ap up word_is

  pub below_is : lt_z (back z) (pos 0) ≡ below_zero w
  below_is =
      halves w
      (λ h. ap (λ (y : ℤ). lt_z y (pos 0)) (back_is z fits ∙ low h) ∙ le-ltb w 0 (omega arith) ∙ sym (lt-leb 32768 w h))
      (λ h. ap (λ (y : ℤ). lt_z y (pos 0)) (back_is z fits ∙ high h) ∙ sym (le-leb 32768 w h))

  -- ---- minus the number, where it is below zero and not the lowest
  module _ (h : 32768 ≤ w) (n : w ≡ 32768 → ⊥) where
    minus : pos 0 -ℤ back z ≡ pos (65536 - w)
    minus = ap (λ (y : ℤ). pos 0 -ℤ y) (back_is z fits ∙ high h) ∙ negated (65535 - w) ∙ ap pos (omega arith)

    pub minus_fits : SFits w16 (pos 0 -ℤ back z)
    minus_fits = subst (SFits w16) (sym minus) (record { sfits = (let s : 65536 - w < 2 ^ 15 = omega arith in s) })

    minus_back : back (pos 0 -ℤ back z) ≡ pos (65536 - w)
    minus_back = to_z-of_z minus_fits ∙ minus

    pub minus_cast : T (non_neg (back (pos 0 -ℤ back z))) × Fits w16 (nat_abs (back (pos 0 -ℤ back z)))
    minus_cast = subst (λ (y : ℤ). T (non_neg y) × Fits w16 (nat_abs y)) (sym minus_back)
        (tt, record { fits = (let s : 65536 - w < 2 ^ 16 = omega arith in s) })

    pub minus_is : nat_abs (back (pos 0 -ℤ back z)) ≡ 65536 - w
    minus_is = ap nat_abs minus_back

-- ---- the number waiting
module _ (w : ℕ) where
  pub nobody : below_zero w ≡ false → 0 ≡ waiting w
  nobody e = rw e

  pub minus_it : 32768 ≤ w → {k : ℕ} → k ≡ 65536 - w → k ≡ waiting w
  minus_it h e = rw (le-leb 32768 w h) e

  pub lowest : (n : ℕ) → w ≡ 32768 → false ≡ waiting_is w n
  lowest n e = rw e

  pub is_waiting : (n : ℕ) → w < 2 ^ 16 → (w ≡ 32768 → ⊥) → {k : ℕ} → k ≡ waiting w → eqb n k ≡ waiting_is w n
  is_waiting n word m {k} e =
      halves w
      (λ h. (let f : k ≡ 0 = e ∙ rw (lt-leb 32768 w h) refl in rw (lt-leb 32768 w h, f) refl))
      (λ h. (let f : k ≡ 65536 - w = e ∙ rw (le-leb 32768 w h) refl in
      rw (le-leb 32768 w h, ne_eqb w 32768 m)
      (cases n k
      (λ y. eq-eqb n k y ∙ sym (eq-eqb (w + n) 65536 (omega arith)))
      (λ y. ne_eqb n k y ∙ sym (ne_eqb (w + n) 65536 (λ x. y (omega arith)))))))

-- A counter of 16 bits and the word that holds it: what `signed` and `word_of` compute. Assumes nothing.
use mathlib.Core.Path.{◌≡◌, refl, sym, ap, ◌∙◌, subst}
use Prim.Native.Nat.{ℕ, zero, suc, ◌-◌, ◌≤◌, ◌<◌, ◌^◌}
use native.Mathlib.Nat.{zero-add}
use native.Mathlib.Omega.{arith}
use mathlib.Core.Bool.{true, false}
use lib.Dec.{T}
use lib.IntN.{ℤ, pos, negsuc, ◌-ℤ◌, nat_abs}
use lib.Signed.{lt_z, non_neg, mag}
use mir.Syntax.{w16}
use mir.Val.{Fits, SFits, to_z, of_z}
use mir.Facts.{to_z-of_z, to_z_pos, to_z-neg}
use borrow.Author.Tests.{ltb-true, le-ltb}

-- ---- below zero: z is -(k + 1)
pub record Below (z : ℤ) : Type 0 where
  pub k : ℕ
  pub is : z ≡ negsuc k

pub below : (z : ℤ) → lt_z z (pos 0) ≡ true → Below z
below (pos n) h = let lt : n < 0 = ltb-true n 0 h in absurd (omega arith)
below (negsuc k) h = record { k = k; is = refl }

pub record Above (z : ℤ) : Type 0 where
  pub n : ℕ
  pub is : z ≡ pos n

pub above : (z : ℤ) → lt_z z (pos 0) ≡ false → Above z
above (pos n) h = record { n = n; is = refl }
above (negsuc k) h = let z : ◌≡◌ {A = ℕ} 0 1 = cc in absurd (omega arith)

-- -1 - (-(k + 1)) is k; -1 - m is -(m + 1)
pub minus_one_less : (k : ℕ) → negsuc 0 -ℤ negsuc k ≡ pos k
minus_one_less k = rw (le-ltb (suc k) 1 (omega arith)) (ap pos (omega arith))

pub minus_one_more : (m : ℕ) → negsuc 0 -ℤ pos m ≡ negsuc m
minus_one_more zero = refl
minus_one_more (suc m) = ap negsuc (ap suc (zero-add m))

pub negated : (k : ℕ) → pos 0 -ℤ negsuc k ≡ pos (suc k)
negated k = ap pos (zero-add (suc k))

-- ---- what the code of `word_of` and `waiting` computes, where z is the counter and x what the machine reads back
abbrev pub back : ℤ → ℤ
back z = to_z w16 (of_z w16 z)

module _ (z : ℤ) (fits : SFits w16 z) where
  pub back_is : back z ≡ z
  back_is = to_z-of_z fits

  module _ (test : lt_z (back z) (pos 0) ≡ true) where
    it : Below z
    it = below z (subst (λ (y : ℤ). lt_z y (pos 0) ≡ true) back_is test)

    small : it.k < 2 ^ 15
    small = subst (λ (y : ℤ). mag y < 2 ^ 15) it.is fits.sfits

    less_is : negsuc 0 -ℤ back z ≡ pos it.k
    less_is = ap (λ (y : ℤ). negsuc 0 -ℤ y) (back_is ∙ it.is) ∙ minus_one_less it.k

    pub less_fits : SFits w16 (negsuc 0 -ℤ back z)
    less_fits = subst (SFits w16) (sym less_is) (record { sfits = small })

    less_back : back (negsuc 0 -ℤ back z) ≡ pos it.k
    less_back = to_z-of_z less_fits ∙ less_is

    pub less_cast : T (non_neg (back (negsuc 0 -ℤ back z))) × Fits w16 (nat_abs (back (negsuc 0 -ℤ back z)))
    less_cast = subst (λ (y : ℤ). T (non_neg y) × Fits w16 (nat_abs y)) (sym less_back) (tt, record { fits = omega (arith, small) })

    pub less_sub : nat_abs (back (negsuc 0 -ℤ back z)) ≤ 65535
    less_sub = subst (λ (y : ℤ). nat_abs y ≤ 65535) (sym less_back) (omega (arith, small))

    pub less_word : 65535 - nat_abs (back (negsuc 0 -ℤ back z)) ≡ of_z w16 z
    less_word = ap (λ (y : ℤ). 65535 - nat_abs y) less_back ∙ (let e : 65535 - it.k ≡ 2 ^ 16 - suc it.k = omega (arith, small) in e)
        ∙ ap (of_z w16) (sym it.is)

  module _ (test : lt_z (back z) (pos 0) ≡ false) where
    that : Above z
    that = above z (subst (λ (y : ℤ). lt_z y (pos 0) ≡ false) back_is test)

    pub up_cast : T (non_neg (back z)) × Fits w16 (nat_abs (back z))
    up_cast =
        let small : that.n < 2 ^ 15 = subst (λ (y : ℤ). mag y < 2 ^ 15) that.is fits.sfits in
        subst (λ (y : ℤ). T (non_neg y) × Fits w16 (nat_abs y)) (sym (back_is ∙ that.is)) (tt, record { fits = omega arith })

    pub up_word : nat_abs (back z) ≡ of_z w16 z
    up_word = ap nat_abs (back_is ∙ that.is) ∙ ap (of_z w16) (sym that.is)

-- ---- `signed`, from 32,768 on
module _ (w : ℕ) (word : w < 2 ^ 16) (high : 32768 ≤ w) where
  m_is : to_z w16 (65535 - w) ≡ pos (65535 - w)
  m_is = to_z_pos w16 (omega arith)

  rest_is : negsuc 0 -ℤ to_z w16 (65535 - w) ≡ negsuc (65535 - w)
  rest_is = ap (λ (y : ℤ). negsuc 0 -ℤ y) m_is ∙ minus_one_more (65535 - w)

  pub rest_fits : SFits w16 (negsuc 0 -ℤ to_z w16 (65535 - w))
  rest_fits = subst (SFits w16) (sym rest_is) (record { sfits = omega arith })

  pub rest_word : back (negsuc 0 -ℤ to_z w16 (65535 - w)) ≡ to_z w16 w
  rest_word =
      let e : 2 ^ 16 - suc (65535 - w) ≡ w = omega arith in
      let s : 65535 - w < 2 ^ 15 = omega arith in
      to_z-of_z rest_fits ∙ rest_is ∙ sym (to_z-neg w16 (65535 - w) s) ∙ ap (to_z w16) e

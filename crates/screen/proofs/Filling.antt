-- The list that is filled: its length, its records, and one record more. Assumes nothing.
use mathlib.Core.Path.{◌≡◌, refl, ap, ap₂, ◌∙◌}
use Prim.Native.Nat.{ℕ, zero, suc, ◌+◌, ◌≤◌, ◌<◌}
use native.Mathlib.Omega.{arith}
use native.Mathlib.Numerals.{add-one}
use mathlib.Core.List.{List}
use lib.ListN.{length, get_or, set, length-set}
use lib.Seq.{get_or-set_same, get_or-set_other}
use Rattle.machine.specs.Queue.{Range}
use Rattle.lists.proofs.Links.{cases}
use Rattle.screen.specs.declared.Summary.{Summary}
use Rattle.screen.specs.Screen.{filled}

-- ---- the list
module _ (each : ℕ → Summary) where
  pub length_filled : (n : ℕ) (l : List Summary) → length (filled each n l) ≡ length l
  unfolding filled
  length_filled zero l = refl
  length_filled (suc n) l = length-set (filled each n l) n (each (suc n)) ∙ length_filled n l

  pub one_more : (n : ℕ) (l : List Summary) (r : Summary) → r ≡ each (n + 1) → set (filled each n l) n r ≡ filled each (n + 1) l
  unfolding filled
  one_more n l r e = rw (add-one) (ap (λ (s : Summary). set (filled each n l) n s) (rw (add-one n) at e))

  pub none_yet : (l : List Summary) → l ≡ filled each 0 l
  unfolding filled
  none_yet l = refl

  pub filled_at : (n : ℕ) (l : List Summary) (i : ℕ) (d : Summary) → i < n → n ≤ length l → get_or (filled each n l) i d ≡ each (suc i)
  unfolding filled
  filled_at zero l i d h k = absurd (omega arith)
  filled_at (suc n) l i d h k =
      cases i n
      (λ e. rw e (get_or-set_same (filled each n l) n (each (suc n)) d (omega (arith, length_filled n l))))
      (λ e. get_or-set_other (filled each n l) n i (each (suc n)) d e ∙ filled_at n l i d (omega arith) (omega arith))

  pub filled_past : (n : ℕ) (l : List Summary) (i : ℕ) (d : Summary) → n ≤ i → get_or (filled each n l) i d ≡ get_or l i d
  unfolding filled
  filled_past zero l i d h = refl
  filled_past (suc n) l i d h =
      get_or-set_other (filled each n l) n i (each (suc n)) d (λ e. omega arith) ∙ filled_past n l i d (omega arith)

-- what says the same of the first n fills the same
pub filled_same : (f g : ℕ → Summary) (n : ℕ) (l : List Summary) → ((p : ℕ) → Range n p → f p ≡ g p) → filled f n l ≡ filled g n l
unfolding filled
filled_same f g zero l h = refl
filled_same f g (suc n) l h =
    ap₂ (λ (k : List Summary) (x : Summary). set k n x) (filled_same f g n l (λ p r. h p (omega arith))) (h (suc n) (omega arith))

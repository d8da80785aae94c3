-- Two logs compared a piece at a time, each piece of so many lines of both, are compared whole: the ground of every walk along them. Assumes nothing.
use mathlib.Core.List.{List, [], ◌∷◌, ◌++◌}
use mathlib.Core.Path.{◌≡◌, refl, ap, ◌∙◌}
use Prim.Native.Nat.{ℕ, zero, suc, ◌+◌, ◌≤◌}
use native.Mathlib.Nat.{add-zero}
use native.Mathlib.Omega.{arith}
use lib.Dec.{ltb}
use lib.ListN.{take, drop}
use lib.Seq.{take-nil, drop-nil}
use borrow.Author.Tests.{lt-ltb, le-ltb, ltb-true, ltb-false}
use Rattle.compare.specs.Differing.{same, differing, after, size, second_runs_on, rest}
use Rattle.compare.proofs.Tests.{tested}
use Rattle.compare.proofs.Lines.{after_size, after_after}

-- the numbers of the first k lines, and then those of the lines behind them, which count on
pub pieces : (k n : ℕ) (a b : List (List ℕ)) → differing n a b ≡ differing n (take k a) (take k b) ++ differing (n + k) (drop k a) (drop k b)
unfolding differing
pieces zero n a b = rw (add-zero n)
pieces (suc k) n [] [] = refl
pieces (suc k) n [] (y ∷ b) =
    let e : n + suc k ≡ suc n + k = omega arith in
    rw e (ap (λ (l : List ℕ). n ∷ l) (pieces k (suc n) [] b ∙ rw (take-nil k, drop-nil k)))
pieces (suc k) n (x ∷ a) [] =
    let e : n + suc k ≡ suc n + k = omega arith in
    rw e (ap (λ (l : List ℕ). n ∷ l) (pieces k (suc n) a [] ∙ rw (take-nil k, drop-nil k)))
pieces (suc k) n (x ∷ a) (y ∷ b) =
    let e : n + suc k ≡ suc n + k = omega arith in
    let h = pieces k (suc n) a b in
    tested {C = differing n (x ∷ a) (y ∷ b) ≡ differing n (take (suc k) (x ∷ a)) (take (suc k) (y ∷ b)) ++ differing (n + suc k) (drop k a) (drop k b)}
    (same x y)
    (λ t. rw (e, t) h)
    (λ t. rw (e, t) (ap (λ (l : List ℕ). n ∷ l) h))

ltb_add : (k a b : ℕ) → ltb (k + a) (k + b) ≡ ltb a b
ltb_add k a b =
    tested {C = ltb (k + a) (k + b) ≡ ltb a b} (ltb a b)
    (λ t. let h = ltb-true a b t in rw (t, lt-ltb (k + a) (k + b) (omega arith)))
    (λ t. let h = ltb-false a b t in rw (t, le-ltb (k + a) (k + b) (omega arith)))

module _ (k : ℕ) (one two : List ℕ) (g : k ≤ size one) (h : k ≤ size two) where
  -- the log that runs on behind the first k lines of both is the one that runs on
  pub later_runs : second_runs_on one two ≡ second_runs_on (after k one) (after k two)
  unfolding second_runs_on
  later_runs = rw (after_size k one g, after_size k two h) (ltb_add k (size (after k one)) (size (after k two)))

  -- and so is its rest
  pub later_rest : rest one two ≡ rest (after k one) (after k two)
  unfolding rest
  later_rest =
      rw (
        later_runs,
        ap (λ (n : ℕ). after n two) (after_size k one g) ∙ after_after k (size (after k one)) two,
        ap (λ (n : ℕ). after n one) (after_size k two h) ∙ after_after k (size (after k two)) one,
      )

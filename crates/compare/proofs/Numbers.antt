-- The numbers are exactly those of the lines that differ. Assumes nothing.
use mathlib.Core.Bool.{true, false, false≢true}
use mathlib.Core.List.Memᴰ
use mathlib.Core.List.{List, [], ◌∷◌, Memᴰ}
use mathlib.Core.Logic.{⊎_elim}
use mathlib.Core.Option.{Option, none, some}
use mathlib.Core.Path.{◌≡◌, refl, sym, ap, ◌∙◌}
use Prim.Native.Nat.{ℕ, zero, suc, ◌+◌, ◌≤◌}
use native.Mathlib.Omega.{arith}
use lib.Dec.{eqb}
use lib.ListN.{get_elem?}
use borrow.Author.Tests.{eq-eqb, eqb-true}
use Rattle.compare.specs.Differing.{lines, same, differing}
use Rattle.compare.specs.Exact.{Rises, Exact}
use Rattle.compare.proofs.Tests.{tested, both_true}

-- ---- the test of two lines
same_eq : (k l : List ℕ) → same k l ≡ true → k ≡ l
unfolding same
same_eq [] [] t = refl
same_eq [] (b ∷ l) t = absurd (false≢true t)
same_eq (a ∷ k) [] t = absurd (false≢true t)
same_eq (a ∷ k) (b ∷ l) t = let h = both_true {a = eqb a b} t in cc (eqb-true a b h.0, same_eq k l h.1)

pub same_refl : (k : List ℕ) → same k k ≡ true
unfolding same
same_refl [] = refl
same_refl (a ∷ k) = rw (eq-eqb a a refl) (same_refl k)

eq_same : (k l : List ℕ) → k ≡ l → same k l ≡ true
eq_same k l e = rw e (same_refl l)

-- ---- rising
lower : (n : ℕ) (l : List ℕ) → Rises (suc n) l → Rises n l
lower n [] r = tt
lower n (x ∷ l) r = (omega arith, r.1)

rises : (n : ℕ) (k l : List (List ℕ)) → Rises n (differing n k l)
unfolding differing
rises n [] [] = tt
rises n [] (b ∷ l) = (omega arith, rises (suc n) [] l)
rises n (a ∷ k) [] = (omega arith, rises (suc n) k [])
rises n (a ∷ k) (b ∷ l) =
    tested {C = Rises n (differing n (a ∷ k) (b ∷ l))} (same a b) (λ t. rw t (lower n (differing (suc n) k l) (rises (suc n) k l)))
    (λ t. rw t (omega arith, rises (suc n) k l))

above : (n x : ℕ) (l : List ℕ) → Rises n l → Memᴰ x l → n ≤ x
above n x [] r i = absurd (Memᴰ.not-nil i)
above n x (y ∷ l) r i = ⊎_elim (λ e. omega (arith, r.0)) (λ j. omega (arith, above (suc y) x l r.1 j, r.0)) (Memᴰ.cases_cons i)

-- a number above n stands among those from n + 1 on
later : (n k : ℕ) (l : List ℕ) → Memᴰ (n + suc k) (n ∷ l) → Memᴰ (suc n + k) l
later n k l i = ⊎_elim (λ e. absurd (omega arith)) (λ j. Memᴰ.cast (omega arith) j) (Memᴰ.cases_cons i)

sooner : (n k : ℕ) (l : List ℕ) → Memᴰ (suc n + k) l → Memᴰ (n + suc k) l
sooner n k l i = Memᴰ.cast (omega arith) i

-- ---- all of them
listed : (n : ℕ) (a b : List (List ℕ)) (k : ℕ) → (get_elem? a k ≡ get_elem? b k → ⊥) → Memᴰ (n + k) (differing n a b)
unfolding differing
listed n [] [] k h = absurd (h refl)
listed n [] (y ∷ b) zero h = Memᴰ.head {x = n} (omega arith)
listed n [] (y ∷ b) (suc k) h = Memᴰ.tail (sooner n k (differing (suc n) [] b) (listed (suc n) [] b k h))
listed n (x ∷ a) [] zero h = Memᴰ.head {x = n} (omega arith)
listed n (x ∷ a) [] (suc k) h = Memᴰ.tail (sooner n k (differing (suc n) a []) (listed (suc n) a [] k h))
listed n (x ∷ a) (y ∷ b) zero h =
    tested {C = Memᴰ (n + 0) (differing n (x ∷ a) (y ∷ b))} (same x y) (λ t. absurd (h (ap some (same_eq x y t))))
    (λ t. rw t (Memᴰ.head {x = n} (omega arith)))
listed n (x ∷ a) (y ∷ b) (suc k) h =
    let i = sooner n k (differing (suc n) a b) (listed (suc n) a b k h) in
    tested {C = Memᴰ (n + suc k) (differing n (x ∷ a) (y ∷ b))} (same x y) (λ t. rw t i) (λ t. rw t (Memᴰ.tail i))

-- ---- only those
none_some : {x : List ℕ} → ◌≡◌ {A = Option (List ℕ)} none (some x) → ⊥
none_some e = let z : ◌≡◌ {A = ℕ} 0 1 = cc in omega arith

some_same : (x y : List ℕ) → same x y ≡ false → some x ≡ some y → ⊥
some_same x y t e = let f : x ≡ y = cc in false≢true (sym t ∙ eq_same x y f)

only_those : (n : ℕ) (a b : List (List ℕ)) (k : ℕ) → Memᴰ (n + k) (differing n a b) → get_elem? a k ≡ get_elem? b k → ⊥
unfolding differing
only_those n [] [] k i e = Memᴰ.not-nil i
only_those n [] (y ∷ b) zero i e = none_some e
only_those n [] (y ∷ b) (suc k) i e = only_those (suc n) [] b k (later n k (differing (suc n) [] b) i) e
only_those n (x ∷ a) [] zero i e = none_some (sym e)
only_those n (x ∷ a) [] (suc k) i e = only_those (suc n) a [] k (later n k (differing (suc n) a []) i) e
only_those n (x ∷ a) (y ∷ b) zero i e =
    tested {C = ⊥} (same x y)
    (λ t. omega (arith, above (suc n) (n + 0) (differing (suc n) a b) (rises (suc n) a b) (rw t at i)))
    (λ t. some_same x y t e)
only_those n (x ∷ a) (y ∷ b) (suc k) i e =
    tested {C = ⊥} (same x y)
    (λ t. only_those (suc n) a b k (Memᴰ.cast (omega arith) (rw t at i)) e)
    (λ t. only_those (suc n) a b k (later n k (differing (suc n) a b) (rw t at i)) e)

pub exact : (one two : List ℕ) → Exact one two
exact one two = record { rising = rises 1 (lines one) (lines two); all = listed 1 (lines one) (lines two); only = only_those 1 (lines one) (lines two) }

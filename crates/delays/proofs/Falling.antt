-- A tick on the list: all times fall by 1, and those that end are its beginning. Assumes nothing.
use mathlib.Core.Path.{◌≡◌, refl, sym, ap, ap₂, subst, ◌∙◌}
use mathlib.Core.Bool.{Bool, true, false, not}
use mathlib.Core.List.{List, [], ◌∷◌}
use mathlib.Core.Logic.{inl, inr, ⊎_elim}
use Prim.Native.Nat.{ℕ, zero, suc, ◌-◌, ◌≤◌, ◌<◌}
use native.Mathlib.Omega.{arith}
use lib.ListN.{length}
use lib.Dec.{eqb}
use borrow.Author.Tests.{eqb-true, eq-eqb, ne_eqb}
use Rattle.machine.specs.Queue.{In, from, keep}
use Rattle.lists.proofs.Tests.{either}
use Rattle.lists.proofs.Links.{cases}
use Rattle.lists.proofs.Numbers.{in_from, in_keep}
use Rattle.delays.specs.Words.{next, difference, over, due, rest}
use Rattle.delays.specs.Delays.{fall, Rising, LinkedByTime}
use Rattle.delays.proofs.Walks.{walk_stops, walk_goes, due_stops, due_goes, over_none, over_later, over_not}
use Rattle.delays.proofs.Standing.{Some}

-- ---- all times fall
module _ (nx df d : ℕ → ℕ) where
  pub stands_fall : (x since : ℕ) (q : List ℕ) → 1 ≤ since → LinkedByTime nx df d x since q → LinkedByTime nx df (fall d) x (since - 1) q
  unfolding LinkedByTime
  stands_fall x since [] h s = s
  stands_fall x since (y ∷ q) h s = (s.0, omega (arith, s.1), stands_fall (nx y) (d y) q (omega (arith, s.1)) s.2)

pub rising_fall : (d : ℕ → ℕ) (q : List ℕ) → ((y : ℕ) → In y q → 1 ≤ d y) → Rising d q → Rising (fall d) q
rising_fall d [] h r = tt
rising_fall d (x ∷ q) h r =
    (λ y i. (omega (arith, (r.0 y i).0), λ k. (r.0 y i).1 (omega (arith, k, h x (inl refl), h y (inr i)))), rising_fall d q (λ y i. h y (inr i)) r.1)

-- ---- those that end, and those that go on
keep_every : (f : ℕ → Bool) (q : List ℕ) → ((y : ℕ) → In y q → f y ≡ true) → keep f q ≡ q
unfolding keep
keep_every f [] h = refl
keep_every f (x ∷ q) h = rw (h x (inl refl)) (ap (λ (l : List ℕ). x ∷ l) (keep_every f q (λ y i. h y (inr i))))

keep_no_one : (f : ℕ → Bool) (q : List ℕ) → ((y : ℕ) → In y q → f y ≡ false) → keep f q ≡ []
unfolding keep
keep_no_one f [] h = refl
keep_no_one f (x ∷ q) h = rw (h x (inl refl)) (keep_no_one f q (λ y i. h y (inr i)))

abbrev pub ends : (ℕ → ℕ) → ℕ → Bool
ends d y = eqb (d y) 0

abbrev pub goes_on : (ℕ → ℕ) → ℕ → Bool
goes_on d y = not (eqb (d y) 0)

pub record Parted (t : List ℕ) (d : ℕ → ℕ) (k x : ℕ) (q : List ℕ) : Type 0 where
  pub woken : due t k x ≡ keep (ends d) q
  pub left : LinkedByTime (next t) (difference t) d (rest t k x) 0 (keep (goes_on d) q)

pub parted : (t : List ℕ) (d : ℕ → ℕ) (k x : ℕ) (q : List ℕ) → length q ≤ k → Some q → Rising d q → LinkedByTime (next t) (difference t) d x 0 q
    → Parted t d k x q
unfolding LinkedByTime keep
parted t d k x [] h z r s =
    record { woken = due_stops t k x (over_none t x s); left = walk_stops (over t) (next t) k x (over_none t x s) ∙ s }
parted t d k x (y ∷ q) h z r s =
    let x≠0 : x ≡ 0 → ⊥ = λ e. omega (arith, e, s.0, z y (inl refl)) in
    let same : difference t x ≡ d y = ap (difference t) s.0 ∙ omega (arith, s.1) in
    cases (d y) 0
    (λ e. (let o : over t x ≡ false = over_not t x x≠0 (same ∙ e) in
    let u = parted t d (k - 1) (next t x) q (omega arith) (λ w i. z w (inr i)) r.1
    (subst (λ (w : ℕ). LinkedByTime (next t) (difference t) d (next t x) w q) e
    (subst (λ (w : ℕ). LinkedByTime (next t) (difference t) d (next t w) (d y) q) (sym s.0) s.2)) in
    record {
      woken = due_goes t k x o (omega arith) ∙ rw (eq-eqb (d y) 0 e) (ap₂ (λ (w : ℕ) (l : List ℕ). w ∷ l) s.0 u.woken);
      left = rw (eq-eqb (d y) 0 e, walk_goes (over t) (next t) k x o (omega arith)) u.left;
    }))
    (λ e. (let o : over t x ≡ true = over_later t x (λ m. e (sym same ∙ m)) x≠0 in
    let on : (w : ℕ) → In w q → d w ≡ 0 → ⊥ = λ w i m. e (omega (arith, (r.0 w i).0, m)) in
    record {
      woken = due_stops t k x o ∙ rw (ne_eqb (d y) 0 e) (sym (keep_no_one (ends d) q (λ w i. ne_eqb (d w) 0 (on w i))));
      left = rw (ne_eqb (d y) 0 e, walk_stops (over t) (next t) k x o, keep_every (goes_on d) q (λ w i. ap not (ne_eqb (d w) 0 (on w i)))) s;
    }))

-- ---- two rising lists of the same numbers
abbrev Ascending : List ℕ → Type 0
Ascending [] = Unit {0}
Ascending (x ∷ q) = ((y : ℕ) → In y q → x < y) × Ascending q

below_all : (a b : ℕ) (l r : List ℕ) → Ascending (a ∷ l) → Ascending (b ∷ r) → In a (b ∷ r) → In b (a ∷ l) → a ≡ b
below_all a b l r u v (inl e) j = e
below_all a b l r u v (inr i) (inl e) = sym e
below_all a b l r u v (inr i) (inr j) = absurd (omega (arith, u.0 b j, v.0 a i))

pub ascending_same : (l r : List ℕ) → Ascending l → Ascending r → ((y : ℕ) → In y l → In y r) → ((y : ℕ) → In y r → In y l) → l ≡ r
ascending_same [] [] u v f g = refl
ascending_same [] (b ∷ r) u v f g = absurd (g b (inl refl))
ascending_same (a ∷ l) [] u v f g = absurd (f a (inl refl))
ascending_same (a ∷ l) (b ∷ r) u v f g =
    let e : a ≡ b = below_all a b l r u v (f a (inl refl)) (g b (inl refl)) in
    ap₂ (λ (w : ℕ) (q : List ℕ). w ∷ q) e
    (ascending_same l r u.1 v.1
    (λ y i. ⊎_elim (λ k. absurd (omega (arith, k, e, u.0 y i))) (λ j. j) (f y (inr i)))
    (λ y i. ⊎_elim (λ k. absurd (omega (arith, k, e, v.0 y i))) (λ j. j) (g y (inr i))))

ascending_keep : (f : ℕ → Bool) (q : List ℕ) → Ascending q → Ascending (keep f q)
unfolding keep
ascending_keep f [] u = tt
ascending_keep f (x ∷ q) u = either Ascending (f x) (λ e. (λ y i. u.0 y (in_keep y f q i).0, ascending_keep f q u.1)) (λ e. ascending_keep f q u.1)

ascending_from : (a n : ℕ) → Ascending (from a n)
unfolding from
ascending_from a zero = tt
ascending_from a (suc n) = (λ y i. (let h = in_from y (suc a) n i in omega arith), ascending_from (suc a) n)

pub ascending_among : (f : ℕ → Bool) (n : ℕ) → Ascending (keep f (from 1 n))
ascending_among f n = ascending_keep f (from 1 n) (ascending_from 1 n)

-- those that end at one time stand by rising number
pub ascending_ends : (d : ℕ → ℕ) (q : List ℕ) → Rising d q → Ascending (keep (ends d) q)
unfolding keep
ascending_ends d [] r = tt
ascending_ends d (x ∷ q) r =
    either Ascending (ends d x)
    (λ e. (λ y i. (let j = in_keep y (ends d) q i in (r.0 y j.0).1 (eqb-true (d x) 0 e ∙ sym (eqb-true (d y) 0 j.1))), ascending_ends d q r.1))
    (λ e. ascending_ends d q r.1)

pub rising_keep : (d : ℕ → ℕ) (f : ℕ → Bool) (q : List ℕ) → Rising d q → Rising d (keep f q)
unfolding keep
rising_keep d f [] r = tt
rising_keep d f (x ∷ q) r = either (Rising d) (f x) (λ e. (λ y i. r.0 y (in_keep y f q i).0, rising_keep d f q r.1)) (λ e. rising_keep d f q r.1)

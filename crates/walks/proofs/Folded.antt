-- Entries to the running queue one behind the other: the walk that is told of them has each one's count, and they are those that don't run
-- before and do after. Assumes nothing.
use Prim.Native.Nat.{ℕ, suc, ◌+◌, ◌≤◌, ◌<◌, max}
use native.Mathlib.Omega.{arith}
use mathlib.Core.Bool.{Bool, true, false, not}
use mathlib.Core.List.{List, [], ◌∷◌}
use mathlib.Core.Logic.{inl, inr, ⊎_elim}
use mathlib.Core.Path.{◌≡◌, refl, sym, ap, ◌∙◌}
use lib.ListN.{length}
use lib.Dec.{eqb, leb}
use borrow.Author.Tests.{eq-eqb, ne_eqb, eqb-true, eqb-false, not-true}
use Rattle.machine.specs.Queue.{if, Range, In, Exact, Rising, keep, from, fold}
use Rattle.machine.specs.Machine.{Machine, state, priority}
use Rattle.machine.specs.Walk.{Walk, nowhere, further, passing, entered, WalkSoFar, begin, walk_on}
use Rattle.machine.specs.Legal.{Legal, Runs}
use Rattle.lists.proofs.Tests.{either, tested, and_true, differ}
use Rattle.lists.proofs.Links.{cases, exact_same}
use Rattle.lists.proofs.Numbers.{in_keep, keep_in, keep_once, keep_rising, from_in, in_from, from_once}
use Rattle.lists.proofs.Lists.{no_longer}
use Rattle.laws.proofs.Passing.{passed_count}
use Rattle.walks.specs.Exactly.{entering, remaining, lowest, parts, together, greatest, Exactly}

-- ---- lists
-- two lists of the same numbers, each once, have as many of whatever kind
pub exact_count : {C : ℕ → Type 0} {q r : List ℕ} (f : ℕ → Bool) → Exact C q → Exact C r → length (keep f q) ≡ length (keep f r)
exact_count {q = q} {r = r} f a b =
    let to = no_longer (keep f q) (keep f r) (keep_once f q a.once)
    (λ x i. (let h = in_keep x f q i in keep_in x f r (b.every x (a.only x h.0)) h.1)) in
    let back = no_longer (keep f r) (keep f q) (keep_once f r b.once)
    (λ x i. (let h = in_keep x f r i in keep_in x f q (a.every x (b.only x h.0)) h.1)) in
    omega arith

pub above : (z : ℕ) (q : List ℕ) → Rising z q → (x : ℕ) → In x q → z < x
above z [] r x i = absurd i
above z (a ∷ q) r x i = ⊎_elim (λ e. omega (arith, r.0)) (λ j. omega (arith, r.0, above a q r.1 x j)) i

-- two rising lists of the same numbers are one
pub rising_same : (y z : ℕ) (q r : List ℕ) → Rising y q → Rising z r → ((x : ℕ) → In x q → In x r) → ((x : ℕ) → In x r → In x q) → q ≡ r
rising_same y z [] [] a b f g = refl
rising_same y z [] (c ∷ r) a b f g = absurd (g c (inl refl))
rising_same y z (c ∷ q) [] a b f g = absurd (f c (inl refl))
rising_same y z (c ∷ q) (d ∷ r) a b f g =
    let low : d ≤ c = ⊎_elim (λ e. omega arith) (λ j. omega (arith, above d r b.1 c j)) (f c (inl refl)) in
    let high : c ≤ d = ⊎_elim (λ e. omega arith) (λ j. omega (arith, above c q a.1 d j)) (g d (inl refl)) in
    let e : c ≡ d = omega arith in
    let t = rising_same c d q r a.1 b.1
    (λ x i. ⊎_elim (λ k. absurd (omega (arith, above c q a.1 x i))) (λ j. j) (f x (inr i)))
    (λ x i. ⊎_elim (λ k. absurd (omega (arith, above d r b.1 x i))) (λ j. j) (g x (inr i))) in
    rw (e, t)

-- ---- the walk told of some parts
unfoldable pub told : List ℕ → Walk → Walk
told [] w = w
told (n ∷ l) w = told l (further n w)

pub told_all : (l : List ℕ) (w : Walk) → ((told l w).entries ≡ w.entries + length l) × ((told l w).passed ≡ w.passed + together l)
    × ((told l w).most ≡ max w.most (greatest l)) × ((told l w).moved ≡ w.moved)
unfolding told together greatest
told_all [] w = (omega arith, omega arith, omega arith, refl)
told_all (n ∷ l) w = let h = told_all l (further n w) in (omega (arith, h.0), omega (arith, h.1), omega (arith, h.2), h.3)

parts_length : (interrupt : Bool) (rank : ℕ → ℕ) (ran l : List ℕ) → length (parts interrupt rank ran l) ≡ length l
unfolding parts
parts_length interrupt rank ran [] = refl
parts_length interrupt rank ran (p ∷ l) = ap suc (parts_length interrupt rank (p ∷ ran) l)

-- ---- one entry, or none
-- from m to n nobody but p enters, and who runs runs on
pub record Steps (p : ℕ) (m n : Machine) : Type 0 where
  pub size : n.P ≡ m.P
  pub ranks : priority n ≡ priority m
  pub others : (k : ℕ) → (k ≡ p → ⊥) → state n k ≡ 1 → state m k ≡ 1
  pub on : (k : ℕ) → state m k ≡ 1 → state n k ≡ 1

-- who enters, in that order, where f is done for each of l and `who` may enter by it
unfoldable pub enterers : (ℕ → Machine → ℕ) → (ℕ → Machine → Machine) → List ℕ → Machine → List ℕ
enterers who f [] m = []
enterers who f (x ∷ l) m = if (entered (who x m) m (f x m)) (who x m ∷ enterers who f l (f x m)) (enterers who f l (f x m))

pub entered_is : (p : ℕ) (m n : Machine) → entered p m n ≡ true → (state m p ≡ 1 → ⊥) × (state n p ≡ 1)
entered_is p m n t =
    let h = and_true {a = not (eqb (state m p) 1)} t in
    (eqb-false (state m p) 1 (not-true _ h.0), eqb-true (state n p) 1 h.1)

is_entered : (p : ℕ) (m n : Machine) → (state m p ≡ 1 → ⊥) → state n p ≡ 1 → entered p m n ≡ true
is_entered p m n a b = rw (ne_eqb (state m p) 1 a, eq-eqb (state n p) 1 b)

module _ {p : ℕ} {m n : Machine} (s : Steps p m n) {ran : List ℕ} (e : Exact (Runs m) ran) where
  runs_too : entered p m n ≡ true → Range m.P p → Exact (Runs n) (p ∷ ran)
  runs_too t i =
      let h = entered_is p m n t in
      record {
        once = (λ j. h.0 (e.only p j).1, e.once);
        only = λ x. ⊎_elim (λ z. rw (z, s.size) (i, h.1)) (λ j. (let r = e.only x j in rw s.size (r.0, s.on x r.1)));
        every = λ x r. cases x p inl (λ ne. inr (e.every x (rw s.size at r.0, s.others x ne r.1)));
      }

  runs_still : entered p m n ≡ false → Exact (Runs n) ran
  runs_still t =
      exact_same
      (λ x r. rw s.size (r.0, s.on x r.1))
      (λ x r. (
        rw s.size at r.0,
        cases x p
            (λ z. tested (eqb (state m x) 1) (λ k. eqb-true _ 1 k)
            (λ k. absurd (differ (sym (is_entered p m n (rw z at (eqb-false (state m x) 1 k)) (rw z at r.1)) ∙ t))))
            (λ ne. s.others x ne r.1),
      ))
      e

-- ---- many
-- C holds of the machine and of what is still to be done
module _ (C : List ℕ → Machine → Type 0) (legal : (l : List ℕ) (n : Machine) → C l n → Legal n) (reason : ℕ) (who : ℕ → Machine → ℕ) (f : ℕ → Machine → Machine)
    (goes : (x : ℕ) (l : List ℕ) (n : Machine) → C (x ∷ l) n → C l (f x n) × Steps (who x n) n (f x n) × Range n.P (who x n)) where
  -- an entry's part is its count
  part : {n : Machine} → Legal n → (p : ℕ) {ran : List ℕ} → Exact (Runs n) ran
      → passing reason p n ≡ length (keep (λ k. leb (lowest (eqb reason 3) (priority n) p) (priority n k)) ran)
  part {n} L p e = passed_count (priority n) (lowest (eqb reason 3) (priority n) p) n.running L.falls
      ∙ exact_count (λ k. leb (lowest (eqb reason 3) (priority n) p) (priority n k)) L.running e

  pub walk_told : (l : List ℕ) (s : WalkSoFar) → C l s.machine → (ran : List ℕ) → Exact (Runs s.machine) ran
      → (fold (walk_on reason who f) l s).walk ≡ told (parts (eqb reason 3) (priority s.machine) ran (enterers who f l s.machine)) s.walk
  unfolding fold told parts enterers
  walk_told [] s c ran e = refl
  walk_told (x ∷ l) s c ran e =
      let m = s.machine in
      let p = who x m in
      let h = goes x l m c in
      let next = walk_told l (walk_on reason who f x s) h.0 in
      tested {C = (fold (walk_on reason who f) (x ∷ l) s).walk ≡ told (parts (eqb reason 3) (priority m) ran (enterers who f (x ∷ l) m)) s.walk}
      (entered p m (f x m))
      (λ t. next (p ∷ ran) (runs_too h.1 e t h.2) ∙ rw (t, h.1.ranks, part (legal (x ∷ l) m c) p e))
      (λ t. next ran (runs_still h.1 e t) ∙ rw (t, h.1.ranks))

  -- who runs runs on
  pub walk_stays : (l : List ℕ) (m : Machine) → C l m → (x : ℕ) → state m x ≡ 1 → state (fold f l m) x ≡ 1
  unfolding fold
  walk_stays [] m c x e = e
  walk_stays (y ∷ l) m c x e = let h = goes y l m c in walk_stays l (f y m) h.0 x (h.1.on x e)

  -- those that enter are those that don't run before and do after
  pub walk_in : (l : List ℕ) (m : Machine) → C l m → (x : ℕ) → In x (enterers who f l m) → Range m.P x × (state m x ≡ 1 → ⊥) × (state (fold f l m) x ≡ 1)
  unfolding fold enterers
  walk_in [] m c x i = absurd i
  walk_in (y ∷ l) m c x j =
      let h = goes y l m c in
      let p = who y m in
      let later : In x (enterers who f l (f y m)) → Range m.P x × (state m x ≡ 1 → ⊥) × (state (fold f l (f y m)) x ≡ 1)
      = λ i. (let k = walk_in l (f y m) h.0 x i in (rw h.1.size at k.0, λ z. k.1 (h.1.on x z), k.2)) in
      either (λ (q : List ℕ). In x q → Range m.P x × (state m x ≡ 1 → ⊥) × (state (fold f l (f y m)) x ≡ 1)) (entered p m (f y m))
      (λ t. ⊎_elim (λ e. rw e (let k = entered_is p m (f y m) t in (h.2, k.0, walk_stays l (f y m) h.0 p k.1))) later)
      (λ t. later)
      j

  pub in_walk : (l : List ℕ) (m : Machine) → C l m → (x : ℕ) → (state m x ≡ 1 → ⊥) → state (fold f l m) x ≡ 1 → In x (enterers who f l m)
  unfolding fold enterers
  in_walk [] m c x n e = absurd (n e)
  in_walk (y ∷ l) m c x n e =
      let h = goes y l m c in
      let p = who y m in
      let next = in_walk l (f y m) h.0 x in
      either (λ (q : List ℕ). In x q) (entered p m (f y m))
      (λ t. cases x p inl (λ ne. inr (next (λ z. n (h.1.others x ne z)) e)))
      (λ t. next (λ z. cases {C = ⊥} x p (λ k. differ (sym (is_entered p m (f y m) (rw k at n) (rw k at z)) ∙ t)) (λ ne. n (h.1.others x ne z))) e)

  -- ---- a whole call, from m to n: it comes to m₀, and from there the entries lead to n, as far as states go
  module _ (l : List ℕ) (m m₀ n : Machine) (c : C l m₀) (size : m₀.P ≡ m.P) (ranks : priority m₀ ≡ priority m)
      (end : (k : ℕ) → state n k ≡ state (fold f l m₀) k)
      (first : (k : ℕ) → state m₀ k ≡ 1 → state m k ≡ 1) (last : (k : ℕ) → state m k ≡ 1 → state n k ≡ 1 → state m₀ k ≡ 1)
      (rising : Rising 0 (enterers who f l m₀)) where
    ran : Exact (Runs m₀) (remaining m.P (state m) (state n))
    ran =
        record {
          once = keep_once _ (from 1 m.P) (from_once 1 m.P);
          only = λ x i. (let k = in_keep x _ (from 1 m.P) i in let h = in_from x 1 m.P k.0 in let t = and_true {a = eqb (state m x) 1} k.1 in
              (omega (arith, size), last x (eqb-true _ 1 t.0) (eqb-true _ 1 t.1)));
          every = λ x r. keep_in x _ (from 1 m.P) (from_in x 1 m.P r.0.0 (omega (arith, size)))
              (rw (eq-eqb (state m x) 1 (first x r.1), eq-eqb (state n x) 1 (end x ∙ walk_stays l m₀ c x r.1)) refl);
        }

    pub entrants : enterers who f l m₀ ≡ entering m.P (state m) (state n)
    entrants =
        rising_same 0 0 (enterers who f l m₀) (entering m.P (state m) (state n)) rising (keep_rising _ m.P 1 0 (omega arith))
        (λ x i. (let h = walk_in l m₀ c x i in let r = end x ∙ h.2 in
        keep_in x _ (from 1 m.P) (from_in x 1 m.P h.0.0 (omega (arith, size, h.0)))
        (rw (ne_eqb (state m x) 1 (λ z. h.1 (last x z r)), eq-eqb (state n x) 1 r) refl)))
        (λ x i. (let k = in_keep x _ (from 1 m.P) i in let t = and_true {a = not (eqb (state m x) 1)} k.1 in
        in_walk l m₀ c x (λ z. eqb-false (state m x) 1 (not-true _ t.0) (first x z)) (sym (end x) ∙ eqb-true _ 1 t.1)))

    pub walk_exactly : Exactly m.P (priority m) (state m) (state n) (eqb reason 3) 0 (fold (walk_on reason who f) l (begin m₀)).walk
    walk_exactly =
        let e = walk_told l (begin m₀) c (remaining m.P (state m) (state n)) ran in
        let a = told_all (parts (eqb reason 3) (priority m₀) (remaining m.P (state m) (state n)) (enterers who f l m₀)) nowhere in
        let b = parts_length (eqb reason 3) (priority m₀) (remaining m.P (state m) (state n)) (enterers who f l m₀) in
        record {
          entries = ap (λ (w : Walk). w.entries) e ∙ a.0 ∙ omega (arith, b) ∙ ap length entrants;
          passed = ap (λ (w : Walk). w.passed) e ∙ a.1 ∙ rw (ranks, entrants) (omega arith);
          most = ap (λ (w : Walk). w.most) e ∙ a.2 ∙ rw (ranks, entrants) (omega arith);
          moves = ap (λ (w : Walk). w.moved) e ∙ a.3;
        }

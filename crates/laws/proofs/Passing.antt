-- docs/MONITOR.md, 13, one entry to the running queue: it passes exactly the running processes of equal or higher priority, or only of higher priority by
-- interrupt, and never more than 31. Assumes nothing.
use Prim.Native.Nat.{ℕ, suc, ◌≤◌}
use native.Mathlib.Omega.{arith}
use mathlib.Core.Bool.{Bool, true, false, not, ◌&&◌}
use mathlib.Core.List.{List, [], ◌∷◌, ◌++◌}
use mathlib.Core.Logic.{⊎_elim}
use mathlib.Core.Path.{◌≡◌, refl, ap, sym, ◌∙◌}
use lib.ListN.{length, take, drop}
use lib.Dec.{eqb, leb}
use borrow.Author.Tests.{eq-eqb, eqb-true, eqb-false, leb-false, lt-leb, not-true}
use Rattle.machine.specs.Queue.{if, Range, In, Distinct, Falls, enter, passed, keep}
use Rattle.machine.specs.Machine.{Machine, state, priority, processes}
use Rattle.machine.specs.Moves.{bar}
use Rattle.machine.specs.Walk.{Walk, passing, entered, walked}
use Rattle.machine.specs.Legal.{Legal}
use Rattle.lists.proofs.Tests.{either, and_true}
use Rattle.lists.proofs.Numbers.{in_from, from_in, from_once, in_keep, keep_in, keep_once, keep_empty, few}
use Rattle.lists.proofs.Lists.{no_longer}

pub passed_length : (rank : ℕ → ℕ) (b : ℕ) (q : List ℕ) → passed rank b q ≤ length q
unfolding passed
passed_length rank b [] = omega arith
passed_length rank b (x ∷ q) = either (λ (n : ℕ). n ≤ suc (length q)) (leb b (rank x)) (λ t. omega (arith, passed_length rank b q)) (λ t. omega arith)

-- it passes all of rank b or higher, wherever they stand
pub passed_count : (rank : ℕ → ℕ) (b : ℕ) (q : List ℕ) → Falls rank q → passed rank b q ≡ length (keep (λ x. leb b (rank x)) q)
unfolding passed keep
passed_count rank b [] f = refl
passed_count rank b (x ∷ q) f = go (leb b (rank x)) refl (passed_count rank b q f.1)
  where
    go : (t : Bool) → leb b (rank x) ≡ t → passed rank b q ≡ length (keep (λ y. leb b (rank y)) q)
        → if t (suc (passed rank b q)) 0 ≡ length (if t (x ∷ keep (λ y. leb b (rank y)) q) (keep (λ y. leb b (rank y)) q))
    go true e h = ap suc h
    go false e h = sym (ap length (keep_empty _ q (λ y i. lt-leb b (rank y) (omega (arith, leb-false b (rank x) e, f.0 y i)))))

-- and stands right behind them
pub enter_place : (rank : ℕ → ℕ) (b p : ℕ) (q : List ℕ) → enter rank b p q ≡ take (passed rank b q) q ++ (p ∷ drop (passed rank b q) q)
unfolding enter passed
enter_place rank b p [] = refl
enter_place rank b p (x ∷ q) = go (leb b (rank x)) _ (enter_place rank b p q)
  where
    go : (t : Bool) {r : List ℕ} (n : ℕ) → r ≡ take n q ++ (p ∷ drop n q)
        → if t (x ∷ r) (p ∷ x ∷ q) ≡ take (if t (suc n) 0) (x ∷ q) ++ (p ∷ drop (if t (suc n) 0) (x ∷ q))
    go true n e = ap (λ (l : List ℕ). x ∷ l) e
    go false n e = refl

module _ {m : Machine} (L : Legal m) where
  -- as many of those that run as of the processes, for any test
  running_count : (f : ℕ → Bool) → length (keep f m.running) ≡ length (keep (λ k. eqb (state m k) 1 && f k) (processes m))
  running_count f =
      let r = L.running in
      let q = keep f m.running in
      let l = keep (λ k. eqb (state m k) 1 && f k) (processes m) in
      let to : length q ≤ length l = no_longer q l (keep_once f _ r.once) (λ k i. (let h = in_keep k f m.running i in let c = r.only k h.0 in
      keep_in k _ (processes m) (from_in k 1 m.P c.0.0 (omega arith)) (rw (eq-eqb (state m k) 1 c.1) h.1))) in
      let back : length l ≤ length q =
      no_longer l q (keep_once _ _ (from_once 1 m.P)) (λ k i. (let h = in_keep k _ (processes m) i in let t = and_true {a = eqb (state m k) 1} h.1 in
      let j = in_from k 1 m.P h.0 in keep_in k f m.running (r.every k (omega arith, eqb-true (state m k) 1 t.0)) t.1)) in
      omega arith

  -- exactly the running processes of equal or higher priority; by interrupt (bar) only of higher priority
  pub passing_exactly : (reason p : ℕ) → passing reason p m ≡ length (keep (λ k. eqb (state m k) 1 && leb (bar reason p m) (priority m k)) (processes m))
  passing_exactly reason p = passed_count (priority m) (bar reason p m) m.running L.falls ∙ running_count (λ k. leb (bar reason p m) (priority m k))

  pub few_32 : (q : List ℕ) → Distinct q → ((x : ℕ) → In x q → Range m.P x) → length q ≤ 32
  few_32 q d h = omega (arith, few 0 m.P q d (λ x i. omega (arith, h x i)), L.fixed.P32)

  pub few_run : length m.running ≤ 32
  few_run = few_32 m.running L.running.once (λ x i. (L.running.only x i).0)

  -- never more than 31
  pub passing_31 : (reason : ℕ) {p : ℕ} → Range m.P p → (state m p ≡ 1 → ⊥) → passing reason p m ≤ 31
  passing_31 reason {p} i n =
      let h = few_32 (p ∷ m.running) (λ j. n (L.running.only p j).1, L.running.once) (λ x. ⊎_elim (λ e. rw e i) (λ j. (L.running.only x j).0)) in
      omega (arith, passed_length (priority m) (bar reason p m) m.running)

  pub walked_31 : (reason : ℕ) {p : ℕ} → Range m.P p → (n : Machine) (w : Walk) → w.most ≤ 31 → (walked reason p m n w).most ≤ 31
  walked_31 reason {p} i n w h =
      either (λ (v : Walk). v.most ≤ 31) (entered p m n)
      (λ t. omega (arith, h, passing_31 reason i (eqb-false (state m p) 1 (not-true _ (and_true {a = not (eqb (state m p) 1)} t).0))))
      (λ t. h)

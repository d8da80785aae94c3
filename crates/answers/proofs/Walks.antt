-- The walk of a request served: refused, nobody enters; accepted, who wakes does. Assumes nothing.
use Prim.Native.Nat.{ℕ, ◌+◌, ◌-◌}
use native.Mathlib.Omega.{arith}
use mathlib.Core.Bool.{Bool, true, false}
use mathlib.Core.List.{List}
use mathlib.Core.Path.{◌≡◌, refl, sym, subst, ◌∙◌}
use lib.Dec.{eqb}
use borrow.Author.Tests.{eq-eqb, ne_eqb}
use Rattle.machine.specs.Queue.{if}
use Rattle.machine.specs.Machine.{Machine, state, with_buffer}
use Rattle.machine.specs.Moves.{wake}
use Rattle.machine.specs.Request.{Request}
use Rattle.machine.specs.Refusal.{refusal}
use Rattle.machine.specs.Step.{Answer as Reply, refused}
use Rattle.machine.specs.Walk.{Walk, nowhere, further, passing, entered, walked, effort, walk}
use Rattle.machine.specs.Legal.{Legal}
use Rattle.machine.specs.Words.{Shows}
use Rattle.lists.proofs.Links.{decide, cases}
use Rattle.lists.proofs.Tests.{either}
use Rattle.table.specs.Links.{position}
use Rattle.answers.specs.Promise.{walk_to, arrival, Walks, Serves, ServesWalked}
use Rattle.answers.proofs.Served.{refused_comes}

module _ (m : Machine) (q : Request) {w : Walk} where
  refused_walks : {n : ℕ} → n ≡ refusal m q → (n ≡ 0 → ⊥) → w ≡ nowhere → w ≡ walk m q
  unfolding walk
  refused_walks e some h = rw (ne_eqb (refusal m q) 0 (λ z. some (e ∙ z))) h

  pub accepted_walks : refusal m q ≡ 0 → w ≡ effort m q → w ≡ walk m q
  unfolding walk
  accepted_walks e h = rw (eq-eqb (refusal m q) 0 e) h

-- a refusal is the whole of it
pub refused_walked : {t : List ℕ} {q : Request} {r : Reply} {w : Walk} {n : ℕ} → ((m : Machine) → Shows t m → Legal m → n ≡ refusal m q)
    → (n ≡ 0 → ⊥) → r ≡ refused n → w ≡ nowhere → ServesWalked t t q r w
refused_walked h some a k = record { serves = λ m w L. refused_comes m _ (h m w L) some a w; walks = λ m w L. refused_walks m _ (h m w L) some k }

-- ---- positions
-- what a position says of an entry is what a walk says of it
pub walk_to_walked : (reason p : ℕ) (m n : Machine) (w : Walk) → walk_to (arrival reason p m n) w ≡ walked reason p m n w
walk_to_walked reason p m n w = go (entered p m n)
  where
    go : (t : Bool) → walk_to (if t (position reason p m) 0) w ≡ if t (further (passing reason p m) w) w
    go true =
        let some : eqb (passing reason p m + 1) 0 ≡ false = ne_eqb (passing reason p m + 1) 0 (omega arith) in
        let one : passing reason p m + 1 - 1 ≡ passing reason p m = omega arith in
        rw (some, one)
    go false = refl

-- who wakes that did not run arrives
pub wake_arrives : (reason p : ℕ) (m : Machine) → (state m p ≡ 1 → ⊥) → arrival reason p m (wake reason p m) ≡ position reason p m
wake_arrives reason p m n =
    let e : entered p m (wake reason p m) ≡ true = simp (ne_eqb (state m p) 1 n, decide) in
    rw e

-- where only buffers differ from m, p wakes, who did not run, or nobody arrives
pub wake_if_arrives : (t : Bool) (p : ℕ) (m : Machine) (ev : ℕ → List ℕ) (h : ℕ → ℕ → ℕ) → (t ≡ true → state m p ≡ 1 → ⊥)
    → if t (position 1 p m) 0 ≡ arrival 1 p m (if t (wake 1 p (with_buffer ev h m)) (with_buffer ev h m))
wake_if_arrives true p m ev h n =
    let e : entered p m (wake 1 p (with_buffer ev h m)) ≡ true = simp (ne_eqb (state m p) 1 (n refl), decide) in
    rw e
wake_if_arrives false p m ev h n = cases (state m p) 1 (λ e. rw (eq-eqb (state m p) 1 e)) (λ d. rw (ne_eqb (state m p) 1 d))

-- ---- calls by which nobody enters
pub told_still : {t u : List ℕ} {q : Request} {a r : Reply} {w : Walk} → ((m : Machine) → effort m q ≡ nowhere) → Serves t u q a
    → Walks a nowhere r w → ServesWalked t u q r w
unfolding walk
told_still {t} {u} {q} none s h =
    record {
      serves = subst (Serves t u q) (sym h.answer) s;
      walks = λ m _ _. h.walk ∙ sym (either (λ (v : Walk). v ≡ nowhere) (eqb (refusal m q) 0) (λ y. none m) (λ y. refl));
    }

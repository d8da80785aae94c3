-- The walks of calls 06 and 0A: who wakes enters, once. Assumes nothing.
use Prim.Native.Nat.{ℕ, ◌≤◌, ◌<◌}
use native.Mathlib.Omega.{arith}
use mathlib.Core.Path.{◌≡◌, sym, ap, ◌∙◌}
use borrow.Author.Tests.{eqb-true, eq-eqb, ne_eqb, lt-ltb, le-ltb, not-false}
use Rattle.machine.specs.Machine.{Machine, state, waiter}
use Rattle.machine.specs.Moves.{wake}
use Rattle.machine.specs.Request.{Start, Interrupt}
use Rattle.machine.specs.Refusal.{first, refusal}
use Rattle.machine.specs.Step.{effect}
use Rattle.machine.specs.Walk.{Walk, nowhere, walked, effort, walk}
use Rattle.machine.specs.Legal.{Legal}
use Rattle.lists.proofs.Tests.{passes}
use Rattle.laws.proofs.States.{some_waiter}
use Rattle.table.specs.Links.{position}
use Rattle.answers.specs.Promise.{walk_to}
use Rattle.answers.proofs.Walks.{accepted_walks, walk_to_walked, wake_arrives}

-- one that did not run wakes, to the position r
pub woken_walks : (reason p : ℕ) (m : Machine) {w : Walk} {r : ℕ} → (state m p ≡ 1 → ⊥) → r ≡ position reason p m → w ≡ walk_to r nowhere
    → w ≡ walked reason p m (wake reason p m) nowhere
woken_walks reason p m n k h = h ∙ ap (λ (x : ℕ). walk_to x nowhere) (k ∙ sym (wake_arrives reason p m n)) ∙ walk_to_walked reason p m (wake reason p m) nowhere

module _ (m : Machine) (a : ℕ) {w : Walk} where
  pub start_walks : {r : ℕ} → refusal m (Start a) ≡ 0 → r ≡ position 0 a m → w ≡ walk_to r nowhere → w ≡ walk m (Start a)
  unfolding refusal effort effect
  start_walks e k h =
      let stopped = eqb-true (state m a) 0 (not-false _ (passes _ (omega arith) e).1.0) in
      accepted_walks m (Start a) e (woken_walks 0 a m (omega arith) k h)

  pub interrupt_refused_walks : 63 < a → w ≡ nowhere → w ≡ walk m (Interrupt a)
  unfolding walk refusal first
  interrupt_refused_walks l h = rw (lt-ltb 63 a l) h

  module _ {p : ℕ} (l : a ≤ 63) (e : p ≡ waiter m a) where
    pub interrupt_none_walks : p ≡ 0 → w ≡ nowhere → w ≡ walk m (Interrupt a)
    unfolding walk refusal first effort
    interrupt_none_walks none h = rw (le-ltb 63 a l, ← e, eq-eqb p 0 none) h

    pub interrupt_walks : {r : ℕ} → Legal m → (p ≡ 0 → ⊥) → r ≡ position 3 p m → w ≡ walk_to r nowhere → w ≡ walk m (Interrupt a)
    unfolding walk refusal first effort effect
    interrupt_walks L some k h =
        let waits = some_waiter m a L (omega arith) (ne_eqb (waiter m a) 0 (λ z. some (e ∙ z))) in
        let asleep : state m p ≡ 1 → ⊥ = λ s. (let f : state m (waiter m a) ≡ 1 = rw e at s in omega (arith, waits.1)) in
        rw (le-ltb 63 a l, ← e, ne_eqb p 0 some) (woken_walks 3 p m asleep k h)

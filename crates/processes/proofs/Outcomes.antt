-- What comes of calls 0A, 05, 03 and 02, by what the table says. Assumes nothing.
use Prim.Native.Nat.{ℕ, ◌≤◌, ◌<◌}
use mathlib.Core.Path.{◌≡◌}
use borrow.Author.Tests.{eq-eqb, ne_eqb, lt-ltb, le-ltb}
use Rattle.machine.specs.Queue.{head}
use Rattle.machine.specs.Machine.{Machine, kept, waiter, current, standing, zeros, message}
use Rattle.machine.specs.Moves.{wake}
use Rattle.machine.specs.Request.{WaitAnswer, WaitEvent, WaitInterrupt, Interrupt}
use Rattle.machine.specs.Refusal.{first, refusal}
use Rattle.machine.specs.Step.{refuse, done, held, collected, waits_event, waits_answer, waits_interrupt, interrupted, unawaited, effect, step}

-- ---- 0A
module _ (m : Machine) (a : ℕ) where
  pub interrupt_refused : 63 < a → step m (Interrupt a) ≡ refuse 3 m
  unfolding step refusal first effect
  interrupt_refused l = rw (lt-ltb 63 a l)

  module _ {p : ℕ} (l : a ≤ 63) (e : p ≡ waiter m a) where
    pub interrupt_none : p ≡ 0 → step m (Interrupt a) ≡ done 0 0 zeros (unawaited a m)
    unfolding step refusal first effect
    interrupt_none none = rw (le-ltb 63 a l, ← e, eq-eqb p 0 none)

    pub interrupt_wakes : (p ≡ 0 → ⊥) → step m (Interrupt a) ≡ done p 0 zeros (wake 3 p m)
    unfolding step refusal first effect
    interrupt_wakes some = rw (le-ltb 63 a l, ← e, ne_eqb p 0 some)

-- ---- 05
module _ (m : Machine) (a d : ℕ) {p : ℕ} (z : refusal m (WaitInterrupt a d) ≡ 0) (e : p ≡ current m) where
  pub wait_interrupt_takes : m.device a ≡ kept → step m (WaitInterrupt a d) ≡ done 3 0 zeros (interrupted a p m)
  unfolding step effect
  wait_interrupt_takes k = rw (z, ← e, eq-eqb (m.device a) kept k)

  pub wait_interrupt_waits : (m.device a ≡ kept → ⊥) → step m (WaitInterrupt a d) ≡ done 0 0 zeros (waits_interrupt a d p m)
  unfolding step effect
  wait_interrupt_waits n = rw (z, ← e, ne_eqb (m.device a) kept n)

-- ---- 03
module _ (m : Machine) (d : ℕ) {p : ℕ} (e : p ≡ current m) where
  pub wait_event_refused : p ≡ 0 → step m (WaitEvent d) ≡ refuse 2 m
  unfolding step refusal first effect
  wait_event_refused none = rw (← e, eq-eqb p 0 none)

  module _ (some : p ≡ 0 → ⊥) {b : ℕ} (k : b ≡ head (m.events p)) where
    pub wait_event_waits : b ≡ 0 → step m (WaitEvent d) ≡ done 0 0 zeros (waits_event d p m)
    unfolding step refusal first effect
    wait_event_waits none = rw (← e, ne_eqb p 0 some, ← k, eq-eqb b 0 none)

    pub wait_event_holds : (b ≡ 0 → ⊥) → standing m b ≡ 1 → step m (WaitEvent d) ≡ done 1 b (message m b) (held p b m)
    unfolding step refusal first effect
    wait_event_holds is s = rw (← e, ne_eqb p 0 some, ← k, ne_eqb b 0 is, eq-eqb (standing m b) 1 s)

    pub wait_event_collects : (b ≡ 0 → ⊥) → (standing m b ≡ 1 → ⊥) → step m (WaitEvent d) ≡ done 2 b (message m b) (collected p b m)
    unfolding step refusal first effect
    wait_event_collects is s = rw (← e, ne_eqb p 0 some, ← k, ne_eqb b 0 is, ne_eqb (standing m b) 1 s)

-- ---- 02
module _ (m : Machine) (a : ℕ) {p : ℕ} (z : refusal m (WaitAnswer a) ≡ 0) (e : p ≡ current m) where
  pub wait_answer_collects : standing m a ≡ 3 → step m (WaitAnswer a) ≡ done 2 a (message m a) (collected p a m)
  unfolding step effect
  wait_answer_collects s = rw (z, ← e, eq-eqb (standing m a) 3 s)

  pub wait_answer_waits : (standing m a ≡ 3 → ⊥) → step m (WaitAnswer a) ≡ done 0 0 zeros (waits_answer a p m)
  unfolding step effect
  wait_answer_waits s = rw (z, ← e, ne_eqb (standing m a) 3 s)

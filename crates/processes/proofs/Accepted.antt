-- What the moves of an accepted request ask holds of a legal machine. Assumes nothing.
use Prim.Native.Nat.{ℕ, ◌≤◌}
use native.Mathlib.Omega.{arith}
use mathlib.Core.Bool.{false, not, ◌||◌}
use mathlib.Core.List.{[], ◌∷◌}
use mathlib.Core.Logic.{inr}
use mathlib.Core.Path.{◌≡◌, sym, ◌∙◌}
use lib.Dec.{eqb}
use borrow.Author.Tests.{ne_eqb, eqb-true, eqb-false, ltb-false, not-false}
use Rattle.machine.specs.Queue.{Range, head}
use Rattle.machine.specs.Machine.{Machine, waiter, current, state, owner, standing}
use Rattle.machine.specs.Request.{Start, Stop, WaitInterrupt, WaitAnswer}
use Rattle.machine.specs.Refusal.{among, outside, refusal}
use Rattle.machine.specs.Legal.{Legal, Runs}
use Rattle.lists.proofs.Tests.{or_false, inside, passes}
use Rattle.lists.proofs.Numbers.{first_in}
use Rattle.laws.proofs.States.{some_waiter}
use Rattle.table.specs.Fits.{MayPause, MayWake, MayStop, MayTake, MayTakeFirst}
use Rattle.table.proofs.LegalFits.{legal_leave, legal_wake, legal_stop}
use Rattle.processes.specs.Waits.{MayWaitDevice}

module _ {m : Machine} (L : Legal m) where
  -- ---- 06, 07 and 0A
  pub may_start : {a : ℕ} → refusal m (Start a) ≡ 0 → MayWake a m
  unfolding refusal
  may_start {a} e =
      let h = passes _ (omega arith) e in
      let stopped = eqb-true (state m a) 0 (not-false _ h.1.0) in
      legal_wake L a (inside m.P a h.0) (omega arith)

  pub may_stop : {a : ℕ} → refusal m (Stop a) ≡ 0 → MayStop a m
  unfolding refusal
  may_stop {a} e = legal_stop L a (inside m.P a (passes _ (omega arith) e).0)

  pub may_interrupt : {a p : ℕ} → a ≤ 63 → p ≡ waiter m a → (p ≡ 0 → ⊥) → MayWake p m
  may_interrupt {a} {p} l e some =
      let h = some_waiter m a L (omega arith) (ne_eqb (waiter m a) 0 (λ z. some (e ∙ z))) in
      rw e (legal_wake L (waiter m a) h.0 (omega (arith, h.1)))

  -- ---- 02, 03 and 05: current is a process, and it runs
  module _ {p : ℕ} (e : p ≡ current m) where
    pub current_runs : (p ≡ 0 → ⊥) → Runs m p
    current_runs some = rw e (L.running.only (current m) (first_in m.running (λ z. some (e ∙ z))))

    pub current_pauses : (p ≡ 0 → ⊥) → MayPause p m
    current_pauses some = record { leaves = legal_leave L p (current_runs some).0 (current_runs some).1; first = e }

    pub may_wait_interrupt : {a : ℕ} (d : ℕ) → refusal m (WaitInterrupt a d) ≡ 0 → MayWaitDevice p a m
    unfolding refusal
    may_wait_interrupt {a} d z =
        let h = passes _ (omega arith) z in
        (current_pauses (λ k. eqb-false (current m) 0 h.0 (sym e ∙ k)), omega (arith, ltb-false 63 a h.1.0))

  -- the first of an event queue
  pub may_take_first : {p b : ℕ} → Range m.P p → b ≡ head (m.events p) → (b ≡ 0 → ⊥) → MayTakeFirst p b m
  may_take_first {p} r e some = (record { legal = L; process = r; stands = rw e (first_in (m.events p) (λ z. some (e ∙ z))) }, e)

  -- the buffer that 02 asks for
  module _ (a : ℕ) (z : refusal m (WaitAnswer a) ≡ 0) where
    row_6_passed : outside a m.B || (not (eqb (owner m a) (current m)) || among (standing m a) (0 ∷ 4 ∷ [])) ≡ false
    unfolding refusal
    row_6_passed = (passes _ (omega arith) z).1.0

    pub asked_is : Range m.B a
    asked_is = inside m.B a (or_false {a = outside a m.B} row_6_passed).0

    asked_own : owner m a ≡ current m
    asked_own =
        let h = (or_false {a = outside a m.B} row_6_passed).1 in
        eqb-true (owner m a) (current m) (not-false _ (or_false {a = not (eqb (owner m a) (current m))} h).0)

    module _ {p : ℕ} (e : p ≡ current m) where
      asking : p ≡ 0 → ⊥
      unfolding refusal
      asking k = eqb-false (current m) 0 (passes _ (omega arith) z).0 (sym e ∙ k)

      pub may_wait_answer : MayPause p m
      may_wait_answer = current_pauses e asking

      pub may_take_answer : standing m a ≡ 3 → MayTake p a m
      may_take_answer s =
          let r = (current_runs e asking).0 in
          record { legal = L; process = r; stands = (L.events p r).every a (asked_is, inr (s, asked_own ∙ sym e)) }

-- docs/MONITOR.md, 9: what moves do to the semaphores of a legal machine. A tick and a clean's buffers leave them alone; who is stopped leaves its
-- queue, which adds one to the counter. Assumes nothing.
use Prim.Native.Nat.{ℕ, ◌≤◌}
use native.Mathlib.Omega.{arith}
use mathlib.Core.Bool.{Bool}
use mathlib.Core.List.{List}
use mathlib.Core.Path.{◌≡◌, refl, sym, ap, ◌∙◌}
use lib.Dec.{eqb}
use lib.ListN.{length}
use borrow.Author.Tests.{eqb-true}
use Rattle.machine.specs.Queue.{without, Range, In, Out}
use Rattle.machine.specs.Machine.{Machine, state, semaphore, semaphores, owner, receiver, standing, up, current, Words, processes, buffers}
use Rattle.machine.specs.Moves.{wake, requeue, off_semaphore, unlink, waiting, answer_with, withdrawn, clean_buffer}
use Rattle.machine.specs.Step.{halted, cleaned, fall, fallen, expiring, woken, grow, ticked}
use Rattle.machine.specs.Legal.{Legal}
use Rattle.lists.proofs.Links.{cases, yes_same, no_same}
use Rattle.lists.proofs.Tests.{either}
use Rattle.lists.proofs.Numbers.{fold_keeps, few}
use Rattle.lists.proofs.Lists.{without_out}

-- ---- what leaves them alone
-- the counters' words and the queues
pub record Semaphores : Type 0 where
  pub counter : ℕ → ℕ
  pub waiters : ℕ → List ℕ

abbrev pub semaphores_of : Machine → Semaphores
semaphores_of m = record { counter = m.counter; waiters = m.waiters }

-- n has those of m
abbrev pub Still : Machine → Machine → Type 0
Still m n = semaphores_of n ≡ semaphores_of m

pub answer_still : (b : ℕ) (ws : Words) (n m : Machine) → Still m n → Still m (answer_with b ws n)
answer_still b ws n m e = either (Still m) (waiting b n) (λ t. e) (λ t. e)

clean_still : (p b : ℕ) (m n : Machine) → Still m n → Still m (clean_buffer p b n)
unfolding clean_buffer
clean_still p b m n e =
    let s : ℕ → Bool = eqb (standing n b) in
    either (Still m) (eqb (owner n b) p)
    (λ _. either (Still m) (s 1) (λ _. e) (λ _. either (Still m) (s 3) (λ _. e) (λ _. either (Still m) (s 2) (λ _. e) (λ _. e))))
    (λ _. either (Still m) (eqb (receiver n b) p)
    (λ _. either (Still m) (s 1) (λ _. answer_still b withdrawn (unlink p b n) m e)
    (λ _. either (Still m) (s 2) (λ _. answer_still b withdrawn n m e) (λ _. either (Still m) (s 4) (λ _. e) (λ _. e))))
    (λ _. e))

-- behind the halt a clean leaves them alone
pub cleaned_still : (p : ℕ) (m : Machine) → Still (halted p m) (cleaned p m)
cleaned_still p m = fold_keeps (Still (halted p m)) (clean_buffer p) (buffers m) (λ b i n e. clean_still p b (halted p m) n e) (halted p m) refl

-- and so does a tick
pub ticked_still : (m : Machine) → Still m (ticked m)
ticked_still m =
    let f : Still m (fallen m) = fold_keeps (Still m) fall (processes m) (λ p i n e. e) m refl in
    let w : Still m (woken m) = fold_keeps (Still m) (wake 2) (expiring m) (λ p i n e. e) (fallen m) f in
    let n = requeue (current m) (woken m) in
    fold_keeps (Still m) grow (buffers n) (λ b i n e. e) n (either (Still m) (eqb (current m) 0) (λ t. w) (λ t. w))

-- ---- who leaves a queue
-- a semaphore of counter c and queue q, and what p's leaving, if it was there, makes of it
pub record Off (p c : ℕ) (q : List ℕ) (c' : ℕ) (q' : List ℕ) : Type 0 where
  pub waiters : q' ≡ without p q
  pub counted : In p q → c' ≡ up c
  pub uncounted : Out p q → c' ≡ c

module _ {m : Machine} (L : Legal m) {s : ℕ} (j : Range (semaphores m) s) where
  pub few_waiters : length (m.waiters s) ≤ 32
  few_waiters = let q = L.semaphore_queues s j in omega (arith, few 0 m.P (m.waiters s) q.once (λ x i. omega (arith, (q.only x i).0)), L.fixed.P32)

  module _ {p : ℕ} (i : Range m.P p) where
    -- of each semaphore, by `off_semaphore`
    pub waiter_off : Off p (m.counter s) (m.waiters s) ((off_semaphore p m).counter s) ((off_semaphore p m).waiters s)
    waiter_off =
        cases s (semaphore m p)
        (λ e.
        let five : state m p ≡ 5 = cases (state m p) 5 (λ z. z) (λ z. absurd (omega (arith, (L.process p i).no_semaphore z, e, j.0))) in
        record {
          waiters = yes_same s (semaphore m p) _ _ e ∙ ap (λ (x : ℕ). without p (m.waiters x)) (sym e);
          counted = λ k. yes_same s (semaphore m p) _ _ e ∙ ap (λ (x : ℕ). up (m.counter x)) (sym e);
          uncounted = λ o. absurd (o ((L.semaphore_queues s j).every p (i, five, sym e)));
        })
        (λ n.
        let o : Out p (m.waiters s) = λ k. n (sym ((L.semaphore_queues s j).only p k).2) in
        record {
          waiters = no_same s (semaphore m p) _ _ n ∙ sym (without_out p (m.waiters s) o);
          counted = λ k. absurd (o k);
          uncounted = λ _. no_same s (semaphore m p) _ _ n;
        })

    -- of a stop, and of a clean; who is stopped already waits nowhere
    pub halted_off : Off p (m.counter s) (m.waiters s) ((halted p m).counter s) ((halted p m).waiters s)
    halted_off =
        either (λ (n : Machine). Off p (m.counter s) (m.waiters s) (n.counter s) (n.waiters s)) (eqb (state m p) 0)
        (λ t.
        let o : Out p (m.waiters s) = λ k. omega (arith, eqb-true (state m p) 0 t, ((L.semaphore_queues s j).only p k).1) in
        record { waiters = sym (without_out p (m.waiters s) o); counted = λ k. absurd (o k); uncounted = λ _. refl })
        (λ t. waiter_off)

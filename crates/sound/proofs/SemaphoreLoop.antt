-- A semaphore with its queue by the steps of its check, and what the loop over all of them ends with. Assumes nothing.
use mathlib.Core.Path.{◌≡◌, refl, sym, ◌∙◌}
use mathlib.Core.Bool.{Bool, true, false}
use mathlib.Core.List.{List}
use Prim.Native.Nat.{ℕ, ◌+◌, ◌-◌, ◌*◌, ◌≤◌, ◌<◌}
use native.Mathlib.Omega.{arith}
use lib.ListN.{get_or}
use lib.Dec.{eqb}
use borrow.Author.Tests.{eq-eqb, ne_eqb, le-leb}
use Rattle.machine.specs.Queue.{if}
use Rattle.machine.specs.Sound.{P_of, B_of, S_of}
use Rattle.counter.specs.Counter.{waiting_is}
use Rattle.sound.specs.Queues.{failed, sweep}
use Rattle.sound.specs.Semaphores.{follow_waiters, counts_waiting, counted_left, semaphore_queue, lowering, queue_of_semaphore, semaphore_queues}
use Rattle.sound.proofs.SemaphoresTold.{waiters_within, left_counts}

module _ (w : List ℕ) (start s left : ℕ) where
  abbrev followed : ℕ
  followed = follow_waiters w s (get_or w (start + 2) 0) left (get_or w (start + 1) 0) 0

  pub not_zero : (get_or w (start + 3) 0 ≡ 0 → ⊥) → failed ≡ semaphore_queue w start s left
  unfolding semaphore_queue
  not_zero n = rw (ne_eqb (get_or w (start + 3) 0) 0 n) refl

  -- behind the queue
  module _ (z : get_or w (start + 3) 0 ≡ 0) (after : ℕ) (e : after ≡ followed) where
    queue_is : semaphore_queue w start s left ≡ counted_left (get_or w (start + 0) 0) left after
    unfolding semaphore_queue
    queue_is = rw (eq-eqb (get_or w (start + 3) 0) 0 z, ← e) refl

    pub queue_fails : after ≡ failed → failed ≡ semaphore_queue w start s left
    unfolding counted_left
    queue_fails f = sym (queue_is ∙ rw (eq-eqb after failed f) refl)

    pub within : (after ≡ failed → ⊥) → after ≤ left
    within n = waiters_within w s (get_or w (start + 2) 0) left (get_or w (start + 1) 0) 0 after e n

    pub counter_fails : get_or w (start + 0) 0 < 65536 → (after ≡ failed → ⊥) → waiting_is (get_or w (start + 0) 0) (left - after) ≡ false
        → failed ≡ semaphore_queue w start s left
    unfolding counted_left counts_waiting
    counter_fails l n f = sym (queue_is ∙ rw (ne_eqb after failed n, le-leb (get_or w (start + 0) 0) 65535 (omega arith), f) refl)

    pub counter_counts : get_or w (start + 0) 0 < 65536 → waiting_is (get_or w (start + 0) 0) (left - after) ≡ true → after ≡ semaphore_queue w start s left
    unfolding counts_waiting
    counter_counts l t = sym (queue_is ∙ left_counts _ left after (rw (le-leb (get_or w (start + 0) 0) 65535 (omega arith)) t))

  pub queue_within : (r : ℕ) → r ≡ semaphore_queue w start s left → (r ≡ failed → ⊥) → r ≤ left
  unfolding semaphore_queue counted_left
  queue_within r e n = by (eqb (get_or w (start + 3) 0) 0) (eqb followed failed) (counts_waiting (get_or w (start + 0) 0) (left - followed)) (sym e)
    where
      by : (x y z : Bool) → if x (if y failed (if z followed failed)) failed ≡ r → r ≤ left
      by true false true h = waiters_within w s (get_or w (start + 2) 0) left (get_or w (start + 1) 0) 0 r (sym h) n
      by true false false h = absurd (n (sym h))
      by true true z h = absurd (n (sym h))
      by false y z h = absurd (n (sym h))

-- ---- all semaphores
-- the words of semaphore s begin behind n processes and k buffers
pub semaphore_queue_at : (w : List ℕ) (n k s left r : ℕ) → n ≡ P_of w → k ≡ B_of w → r ≡ semaphore_queue w (68 + 16 * n + 10 * k + 4 * s) s left
    → r ≡ queue_of_semaphore w s left
semaphore_queue_at w n k s left r e f h = rw (e, f) at h

pub semaphore_queues_none : (w : List ℕ) (k : ℕ) → k ≡ S_of w → k ≡ 0 → true ≡ semaphore_queues w
unfolding semaphore_queues
semaphore_queues_none w k e z = rw (eq-eqb (S_of w) 0 (sym e ∙ z)) refl

pub semaphore_queues_some : (w : List ℕ) (k r : ℕ) → k ≡ S_of w → (k ≡ 0 → ⊥) → r ≡ sweep (queue_of_semaphore w) k (lowering w (P_of w))
    → eqb r 0 ≡ semaphore_queues w
unfolding semaphore_queues
semaphore_queues_some w k r e n h = rw (h, e, ne_eqb (S_of w) 0 (λ z. n (e ∙ z))) refl

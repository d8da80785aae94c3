-- The semaphores' queues followed link by link, and their counters, as the code goes. Assumes nothing: these are definitions.
use Rattle.std.specs.Prelude.{Bool, ◌&&◌, ◌||◌, List, ℕ, ◌+◌, ◌-◌, ◌*◌, ◌≤◌, length, get_or, eqb, leb}
use Rattle.machine.specs.Numbers.{state_waits_semaphore, most_processes, most_buffers, most_semaphores}
use Rattle.machine.specs.Records.{header_width, process_width, process_previous, process_state, process_semaphore, buffer_width, semaphore_base}
use Rattle.machine.specs.Records.{semaphore_width, semaphore_counter, semaphore_first, semaphore_last, semaphore_zero}
use Rattle.machine.specs.Queue.{if}
use Rattle.machine.specs.Sound.{P_of, B_of, S_of, process_at}
use Rattle.lists.specs.Counts.{count}
use Rattle.counter.specs.Counter.{waiting_is}
use Rattle.sound.specs.Queues.{failed, follow_queue, sweep, next_process}

-- process `at` may stand in the queue of semaphore s behind `before`
unfoldable pub waiter_step : List ℕ → ℕ → ℕ → ℕ → Bool
waiter_step w s before at = leb at (P_of w) && (eqb (process_at w at process_previous) before && (eqb (process_at w at process_state) state_waits_semaphore
    && eqb (process_at w at process_semaphore) s))

abbrev pub follow_waiters : List ℕ → ℕ → ℕ → ℕ → ℕ → ℕ → ℕ
follow_waiters w s last left at before = follow_queue (waiter_step w s) (next_process w) last left at before

-- a counter's word, where n wait
unfoldable pub counts_waiting : ℕ → ℕ → Bool
counts_waiting c n = leb c 65535 && waiting_is c n

-- what a queue leaves of `left` links, where the counter c counts those in it
unfoldable pub counted_left : ℕ → ℕ → ℕ → ℕ
counted_left c left after = if (eqb after failed) failed (if (counts_waiting c (left - after)) after failed)

-- semaphore s, whose words begin at `start`, with a queue of at most `left` processes
unfoldable pub semaphore_queue : List ℕ → ℕ → ℕ → ℕ → ℕ
semaphore_queue w start s left =
    if (eqb (get_or w (start + semaphore_zero) 0) 0)
    (counted_left (get_or w (start + semaphore_counter) 0) left (follow_waiters w s (get_or w (start + semaphore_last) 0) left (get_or w
    (start + semaphore_first) 0) 0)) failed

-- the same, of the semaphore of that number
abbrev pub queue_of_semaphore : List ℕ → ℕ → ℕ → ℕ
queue_of_semaphore w s left = semaphore_queue w (semaphore_base + process_width * P_of w + buffer_width * B_of w + semaphore_width * s) s left

-- how many of the processes 1 to n wait for a semaphore
abbrev pub lowering : List ℕ → ℕ → ℕ
lowering w n = count (λ p. eqb (process_at w p process_state) state_waits_semaphore) n

-- the processes that wait for a semaphore are all found by following the semaphores' queues; without semaphores nobody waits for one
unfoldable pub semaphore_queues : List ℕ → Bool
semaphore_queues w = eqb (S_of w) 0 || eqb (sweep (queue_of_semaphore w) (S_of w) (lowering w (P_of w))) 0

-- a table of the right size
pub record SizedTable (w : List ℕ) : Type 0 where
  pub few_processes : P_of w ≤ most_processes
  pub few_buffers : B_of w ≤ most_buffers
  pub few_semaphores : S_of w ≤ most_semaphores
  pub long : header_width + process_width * P_of w + buffer_width * B_of w + semaphore_width * S_of w ≤ length w

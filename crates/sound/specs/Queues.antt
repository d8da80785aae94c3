-- Queues followed link by link, as the code follows them. Assumes nothing: these are definitions.
use Rattle.std.specs.Prelude.{Bool, true, false, ◌&&◌, ◌≡◌, List, ℕ, zero, suc, ◌+◌, ◌*◌, ◌<◌, get_or, eqb, leb}
use Rattle.machine.specs.Numbers.{state_running, standing_queued, standing_answered, most_buffers, most_priority}
use Rattle.machine.specs.Records.{header_last, process_next, process_previous, process_first, process_last, process_state, process_priority, buffer_width}
use Rattle.machine.specs.Records.{buffer_next, buffer_previous, buffer_owner, buffer_receiver, buffer_standing}
use Rattle.machine.specs.Queue.{if}
use Rattle.machine.specs.Sound.{P_of, B_of, process_at}
use Rattle.lists.specs.Counts.{count}

-- stands for a number of links or records where the table isn't sound: more than there can be
abbrev pub failed : ℕ
failed = suc most_buffers

-- the end of a queue, with `left` links left: its last record is `last`
abbrev pub at_end : ℕ → ℕ → ℕ → ℕ
at_end left before last = if (eqb before last) left failed

-- a queue followed from `at`, behind `before`, for at most k links: how many of them are left
unfoldable pub follow_queue : (ℕ → ℕ → Bool) → (ℕ → ℕ) → ℕ → ℕ → ℕ → ℕ → ℕ
follow_queue step next last zero at before = if (eqb at 0) (at_end 0 before last) failed
follow_queue step next last (suc k) at before =
    if (eqb at 0) (at_end (suc k) before last) (if (step before at) (follow_queue step next last k (next at) at) failed)

-- what one link tells of a queue from `at` on: it is wrong, or as it is from `next` on, with fewer links left
pub record GoesOn (walk : ℕ → ℕ → ℕ → ℕ) (left at before : ℕ) (right : Bool) (next rest : ℕ) : Type 0 where
  pub fails : right ≡ false → failed ≡ walk left at before
  pub goes : right ≡ true → (r : ℕ) → r ≡ walk rest next at → r ≡ walk left at before
  pub fewer : right ≡ true → rest < left

-- ---- event queues
-- a buffer of that standing, receiver and owner belongs to p's event queue
unfoldable pub belongs : ℕ → ℕ → ℕ → ℕ → Bool
belongs standing receiver owner p = if (eqb standing standing_queued) (eqb receiver p) (eqb standing standing_answered && eqb owner p)

-- buffer `at` may stand in p's event queue behind `before`
unfoldable pub event_step : List ℕ → ℕ → ℕ → ℕ → ℕ → Bool
event_step w base p before at =
    leb at (B_of w) && (eqb (get_or w (base + buffer_width * at + buffer_previous) 0) before
    && belongs (get_or w (base + buffer_width * at + buffer_standing) 0) (get_or w (base + buffer_width * at + buffer_receiver) 0)
    (get_or w (base + buffer_width * at + buffer_owner) 0) p)

abbrev pub next_buffer : List ℕ → ℕ → ℕ → ℕ
next_buffer w base b = get_or w (base + buffer_width * b + buffer_next) 0

abbrev pub follow_events : List ℕ → ℕ → ℕ → ℕ → ℕ → ℕ → ℕ
follow_events w base p left at before = follow_queue (event_step w base p) (next_buffer w base) (process_at w p process_last) left at before

-- p's event queue, of at most `left` buffers
abbrev pub event_queue : List ℕ → ℕ → ℕ → ℕ → ℕ
event_queue w base p left = follow_events w base p left (process_at w p process_first) 0

-- the event queues of 1 to p in turn, each with the links that those before it left
unfoldable pub sweep : (ℕ → ℕ → ℕ) → ℕ → ℕ → ℕ
sweep queue zero left = left
sweep queue (suc p) left = if (eqb (sweep queue p left) failed) failed (queue (suc p) (sweep queue p left))

-- ---- the running queue
-- how many of the processes 1 to n run
abbrev pub running : List ℕ → ℕ → ℕ
running w n = count (λ p. eqb (process_at w p process_state) state_running) n

-- the priority that nobody behind p may pass; behind 0, the highest there is
unfoldable pub limit : List ℕ → ℕ → ℕ
limit w p = if (eqb p 0) most_priority (process_at w p process_priority)

-- process `at` may stand in the running queue behind `before`
unfoldable pub running_step : List ℕ → ℕ → ℕ → Bool
running_step w before at =
    leb at (P_of w) && (eqb (process_at w at process_previous) before && (eqb (process_at w at process_state) state_running
    && leb (process_at w at process_priority) (limit w before)))

abbrev pub next_process : List ℕ → ℕ → ℕ
next_process w p = process_at w p process_next

abbrev pub follow_running : List ℕ → ℕ → ℕ → ℕ → ℕ
follow_running w left at before = follow_queue (running_step w) (next_process w) (get_or w header_last 0) left at before

-- what one link tells of the running queue, and the priority that nobody behind it may pass
abbrev pub RunsOn : List ℕ → ℕ → ℕ → ℕ → Bool → ℕ → ℕ → ℕ → Type 0
RunsOn w left at before right next rest priority = GoesOn (follow_running w) left at before right next rest × (right ≡ true → priority ≡ limit w at)

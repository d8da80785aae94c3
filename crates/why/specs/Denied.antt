-- What is said of the words where a clause fails of a record, as a proposition on those words: which is above, which differ, which names what.
-- Assumes nothing: these are definitions.
use Rattle.std.specs.Prelude.{◌≡◌, ◌⊎◌, List, ℕ, suc, ◌+◌, ◌-◌, ◌≤◌, ◌<◌, length, get_or}
use Rattle.machine.specs.Numbers.{state_running, state_waits_event, state_waits_answer, state_waits_interrupt, state_waits_semaphore, reason_none}
use Rattle.machine.specs.Numbers.{reason_unused, reason_raise, standing_free, standing_queued, standing_held, standing_answered, standing_orphaned}
use Rattle.machine.specs.Numbers.{edition_second, most_processes, most_buffers, most_semaphores, device_count, most_priority, counter_below_zero}
use Rattle.machine.specs.Records.{header_edition, header_semaphores, header_width, process_next, process_previous, process_first, process_state}
use Rattle.machine.specs.Records.{process_reason, process_delay, process_awaited, process_device, process_priority, process_first_own, process_name}
use Rattle.machine.specs.Records.{process_second_name, process_third_name, process_semaphore, buffer_next, buffer_previous, buffer_owner, buffer_receiver}
use Rattle.machine.specs.Records.{buffer_standing, buffer_age, buffer_message, buffer_second, buffer_third, buffer_fourth, semaphore_counter, semaphore_zero}
use Rattle.machine.specs.Queue.{Range, Out}
use Rattle.machine.specs.Machine.{kept as kept-interrupt, given}
use Rattle.machine.specs.Legal.{LegalName}
use Rattle.machine.specs.Sound.{P_of, B_of, S_of, process_at, buffer_at, semaphore_at, device_at}
use Rattle.machine.specs.Words.{size}
use Rattle.why.specs.QueueParts.{Queues, Part, First, Last, Start, Next, Back, Met, queues, along}
use Rattle.why.specs.Clause.{Clause, HeaderThere, ProcessesInRange, BuffersInRange, SemaphoresInRange, LongEnough, Edition, HeaderZero}
use Rattle.why.specs.Clause.{SemaphoreZero, Priority, Name, NameApart, FirstOwn, AllGiven, Owner, Queue, PriorityFalls, ProcessOff, BufferOff}
use Rattle.why.specs.Clause.{Standing, Free, Receiver, Counter, State, Reason, NoReason, SemaphoreWait, EventWait, AnswerWait, InterruptWait}
use Rattle.why.specs.Clause.{Delay, Device}
use Rattle.why.specs.Asked.{owns, waiting}

-- two numbers that aren't one
abbrev pub Differ : ℕ → ℕ → Type 0
Differ m n = (m < n) ⊎ (n < m)

-- x is none of 1 to n
abbrev pub Outside : ℕ → ℕ → Type 0
Outside n x = (x < 1) ⊎ (n < x)

-- ---- queues
-- x is somebody, and no record that belongs in queue h
abbrev pub Foreign : Queues → ℕ → ℕ → Type 0
Foreign q h x = Differ x 0 × ((q.records < x) ⊎ Differ (q.home x) h)

-- of queue or record x
abbrev pub Strays : Queues → Part → ℕ → Type 0
Strays q First h = Foreign q h (q.first h)
Strays q Last h = Foreign q h (q.last h)
Strays q Start h = Range q.records (q.first h) × Differ (q.previous (q.first h)) 0
Strays q Next x = Range q.number (q.home x) × Foreign q (q.home x) (q.next x)
Strays q Back x =
    Range q.number (q.home x) × (((q.next x ≡ 0) × Differ (q.last (q.home x)) x)
    ⊎ (Range q.records (q.next x) × Differ (q.previous (q.next x)) x))
Strays q Met x = Range q.number (q.home x) × Out x (along q q.records (q.first (q.home x)))

-- ---- names
-- a process before p of the same name
pub record Twin (w : List ℕ) (p : ℕ) : Type 0 where
  pub other : ℕ
  pub before : Range (p - 1) other
  pub same : (process_at w other process_name ≡ process_at w p process_name) × ((process_at w other process_second_name ≡ process_at w p process_second_name)
      × (process_at w other process_third_name ≡ process_at w p process_third_name))

-- ---- every clause, of record r
abbrev pub Denied : List ℕ → Clause → ℕ → Type 0
Denied w HeaderThere r = length w < header_width
Denied w ProcessesInRange r = Outside most_processes (P_of w)
Denied w BuffersInRange r = most_buffers < B_of w
Denied w SemaphoresInRange r = most_semaphores < S_of w
Denied w LongEnough r = length w < size (P_of w) (B_of w) (S_of w)
Denied w Edition r = edition_second < get_or w header_edition 0
Denied w HeaderZero r = Differ (get_or w (header_semaphores + r) 0) 0
Denied w SemaphoreZero s = Differ (semaphore_at w s semaphore_zero) 0
Denied w Priority p = Outside most_priority (process_at w p process_priority)
Denied w Name p = LegalName (process_at w p process_name) (process_at w p process_second_name) (process_at w p process_third_name) → ⊥
Denied w NameApart p = Twin w p
Denied w FirstOwn p =
    ((owns w p ≡ 0) × Differ (process_at w p process_first_own) 0) ⊎ (Differ (owns w p) 0
    × Differ (process_at w p process_first_own) (suc (given (owns w) (p - 1))))
Denied w AllGiven r = Differ (given (owns w) (P_of w)) (B_of w)
Denied w Owner b =
    Outside (P_of w) (buffer_at w b buffer_owner) ⊎ ((b ≤ given (owns w) (buffer_at w b buffer_owner - 1)) ⊎ (given (owns w) (buffer_at w b buffer_owner) < b))
Denied w (Queue k p) r = Strays (queues w k) p r
Denied w PriorityFalls p =
    (process_at w p process_state ≡ state_running) × (Range (P_of w) (process_at w p process_next)
    × (process_at w p process_priority < process_at w (process_at w p process_next) process_priority))
Denied w ProcessOff p =
    Differ (process_at w p process_state) state_running × (Differ (process_at w p process_state) state_waits_semaphore
    × (Differ (process_at w p process_next) 0 ⊎ Differ (process_at w p process_previous) 0))
Denied w BufferOff b =
    Differ (buffer_at w b buffer_standing) standing_queued × (Differ (buffer_at w b buffer_standing) standing_answered × (Differ (buffer_at w b buffer_next) 0
    ⊎ Differ (buffer_at w b buffer_previous) 0))
Denied w Standing b = standing_orphaned < buffer_at w b buffer_standing
Denied w Free b =
    (buffer_at w b buffer_standing ≡ standing_free) × (Differ (buffer_at w b buffer_receiver) 0 ⊎ (Differ (buffer_at w b buffer_age) 0
    ⊎ (Differ (buffer_at w b buffer_message) 0
    ⊎ (Differ (buffer_at w b buffer_second) 0 ⊎ (Differ (buffer_at w b buffer_third) 0 ⊎ Differ (buffer_at w b buffer_fourth) 0)))))
Denied w Receiver b = Differ (buffer_at w b buffer_standing) standing_free × (Outside (P_of w) (buffer_at w b buffer_receiver)
    ⊎ (buffer_at w b buffer_receiver ≡ buffer_at w b buffer_owner))
Denied w Counter s =
    (65535 < semaphore_at w s semaphore_counter) ⊎ (((counter_below_zero ≤ semaphore_at w s semaphore_counter)
    × Differ (semaphore_at w s semaphore_counter + waiting w s) 65536)
    ⊎ ((semaphore_at w s semaphore_counter < counter_below_zero) × Differ (waiting w s) 0))
Denied w State p = state_waits_semaphore < process_at w p process_state
Denied w Reason p = (reason_raise < process_at w p process_reason) ⊎ (process_at w p process_reason ≡ reason_unused)
Denied w NoReason p = Differ (process_at w p process_state) state_running × Differ (process_at w p process_reason) reason_none
Denied w SemaphoreWait p =
    ((process_at w p process_state ≡ state_waits_semaphore) × Outside (S_of w) (process_at w p process_semaphore))
    ⊎ (Differ (process_at w p process_state) state_waits_semaphore × Differ (process_at w p process_semaphore) 0)
Denied w EventWait p = (process_at w p process_state ≡ state_waits_event) × Differ (process_at w p process_first) 0
Denied w AnswerWait p =
    ((process_at w p process_state ≡ state_waits_answer) × (Outside (B_of w) (process_at w p process_awaited)
    ⊎ (Differ (buffer_at w (process_at w p process_awaited) buffer_owner) p
    ⊎ ((buffer_at w (process_at w p process_awaited) buffer_standing < standing_queued)
    ⊎ (standing_held < buffer_at w (process_at w p process_awaited) buffer_standing)))))
    ⊎ (Differ (process_at w p process_state) state_waits_answer × Differ (process_at w p process_awaited) 0)
Denied w InterruptWait p =
    ((process_at w p process_state ≡ state_waits_interrupt) × (Outside device_count (process_at w p process_device)
    ⊎ Differ (device_at w (process_at w p process_device - 1)) p))
    ⊎ (Differ (process_at w p process_state) state_waits_interrupt × Differ (process_at w p process_device) 0)
Denied w Delay p = Differ (process_at w p process_state) state_waits_event × (Differ (process_at w p process_state) state_waits_interrupt
    × Differ (process_at w p process_delay) 0)
Denied w Device r =
    ((device_at w (r - 1) ≡ kept-interrupt) × Differ (get_or w header_edition 0) edition_second)
    ⊎ (Differ (device_at w (r - 1)) 0 × (Differ (device_at w (r - 1)) kept-interrupt
    × (Outside (P_of w) (device_at w (r - 1)) ⊎ (Differ (process_at w (device_at w (r - 1)) process_state) state_waits_interrupt
    ⊎ Differ (process_at w (device_at w (r - 1)) process_device) r))))

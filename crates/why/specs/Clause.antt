-- docs/MONITOR.md, 3, as a numbered list of clauses: of how many records each speaks, what it asks of a record, as a test and as a
-- proposition, and the word that is named where a record fails. Assumes nothing: these are definitions.
use Rattle.std.specs.Prelude.{Bool, not, ◌&&◌, ◌||◌, ◌≡◌, List, [], ◌∷◌, ℕ, zero, suc, ◌+◌, ◌-◌, ◌≤◌, length, get_or, eqb, leb}
use Rattle.machine.specs.Numbers.{state_running, state_waits_event, state_waits_answer, state_waits_interrupt, state_waits_semaphore, reason_none}
use Rattle.machine.specs.Numbers.{reason_unused, reason_raise, standing_free, standing_queued, standing_answered, standing_orphaned, edition_second}
use Rattle.machine.specs.Numbers.{most_processes, most_buffers, most_semaphores, device_count, most_priority}
use Rattle.machine.specs.Records.{header_processes, header_buffers, header_edition, header_semaphores, header_width, device_first, process_next}
use Rattle.machine.specs.Records.{process_previous, process_first, process_state, process_reason, process_delay, process_awaited, process_device}
use Rattle.machine.specs.Records.{process_priority, process_first_own, process_name, process_second_name, process_third_name, process_semaphore, buffer_next}
use Rattle.machine.specs.Records.{buffer_previous, buffer_owner, buffer_receiver, buffer_standing, buffer_age, buffer_message, buffer_second, buffer_third}
use Rattle.machine.specs.Records.{buffer_fourth, semaphore_counter, semaphore_zero}
use Rattle.machine.specs.Queue.{Range}
use Rattle.machine.specs.Machine.{kept as kept-interrupt, given}
use Rattle.machine.specs.Layout.{name_ok}
use Rattle.machine.specs.Legal.{LegalName, Awaits, Waits, LegalCounter}
use Rattle.machine.specs.Sound.{P_of, B_of, S_of, process_at, buffer_at, semaphore_at, device_at}
use Rattle.machine.specs.Words.{Process, Buffer, Semaphore, size}
use Rattle.lists.specs.Counts.{all}
use Rattle.why.specs.QueueParts.{Part, First, Last, Start, Next, Back, Met, queues, running_queue, event_queues, semaphore_queues, among, part_holds}
use Rattle.why.specs.QueueParts.{PartHolds, named}
use Rattle.why.specs.Asked.{of_header, of_zeros, of_processes, of_buffers, of_semaphores, of_devices}
use Rattle.why.specs.Asked.{same_name, owns, waiting, counter_right, awaits, named_by, waits, unlinked_at, free_at, place_in}

pub data Clause : Type 0 where
  HeaderThere : Clause
  ProcessesInRange : Clause
  BuffersInRange : Clause
  SemaphoresInRange : Clause
  LongEnough : Clause
  Edition : Clause
  HeaderZero : Clause
  SemaphoreZero : Clause
  Priority : Clause
  Name : Clause
  NameApart : Clause
  FirstOwn : Clause
  AllGiven : Clause
  Owner : Clause
  -- the running queue (0), the event queues (1), the semaphores' queues (2)
  Queue : ℕ → Part → Clause
  PriorityFalls : Clause
  ProcessOff : Clause
  BufferOff : Clause
  Standing : Clause
  Free : Clause
  Receiver : Clause
  Counter : Clause
  State : Clause
  Reason : Clause
  NoReason : Clause
  SemaphoreWait : Clause
  EventWait : Clause
  AnswerWait : Clause
  InterruptWait : Clause
  Delay : Clause
  Device : Clause

-- in the order of the page
abbrev pub clauses : List Clause
clauses =
    HeaderThere ∷ ProcessesInRange ∷ BuffersInRange ∷ SemaphoresInRange ∷ LongEnough
    ∷ Edition ∷ HeaderZero ∷ SemaphoreZero ∷ Priority ∷ Name ∷ NameApart ∷ FirstOwn ∷ AllGiven ∷ Owner
    ∷ Queue running_queue First ∷ Queue running_queue Last ∷ Queue running_queue Start
    ∷ Queue running_queue Next ∷ Queue running_queue Back ∷ Queue running_queue Met ∷ PriorityFalls ∷ ProcessOff
    ∷ Queue event_queues First ∷ Queue event_queues Last ∷ Queue event_queues Start
    ∷ Queue event_queues Next ∷ Queue event_queues Back ∷ Queue event_queues Met ∷ BufferOff
    ∷ Standing ∷ Free ∷ Receiver
    ∷ Queue semaphore_queues First ∷ Queue semaphore_queues Last ∷ Queue semaphore_queues Start
    ∷ Queue semaphore_queues Next ∷ Queue semaphore_queues Back ∷ Queue semaphore_queues Met ∷ Counter
    ∷ State ∷ Reason ∷ NoReason ∷ SemaphoreWait ∷ EventWait ∷ AnswerWait ∷ InterruptWait ∷ Delay
    ∷ Device ∷ []

abbrev pub last_clause : ℕ
last_clause = 48

-- the clause of number c
unfoldable pub clause_of : ℕ → Clause
clause_of c = get_or clauses (c - 1) Device

-- ---- of how many records a clause speaks
-- which of them it speaks of
abbrev pub sort_of_part : ℕ → ℕ → Part → ℕ
sort_of_part whole each First = whole
sort_of_part whole each Last = whole
sort_of_part whole each Start = whole
sort_of_part whole each Next = each
sort_of_part whole each Back = each
sort_of_part whole each Met = each

abbrev pub sort_of_queue : ℕ → Part → ℕ
sort_of_queue zero p = sort_of_part of_header of_processes p
sort_of_queue (suc zero) p = sort_of_part of_processes of_buffers p
sort_of_queue (suc (suc k)) p = sort_of_part of_semaphores of_processes p

abbrev pub sort : Clause → ℕ
sort HeaderThere = of_header
sort ProcessesInRange = of_header
sort BuffersInRange = of_header
sort SemaphoresInRange = of_header
sort LongEnough = of_header
sort Edition = of_header
sort HeaderZero = of_zeros
sort SemaphoreZero = of_semaphores
sort Priority = of_processes
sort Name = of_processes
sort NameApart = of_processes
sort FirstOwn = of_processes
sort AllGiven = of_header
sort Owner = of_buffers
sort (Queue k p) = sort_of_queue k p
sort PriorityFalls = of_processes
sort ProcessOff = of_processes
sort BufferOff = of_buffers
sort Standing = of_buffers
sort Free = of_buffers
sort Receiver = of_buffers
sort Counter = of_semaphores
sort State = of_processes
sort Reason = of_processes
sort NoReason = of_processes
sort SemaphoreWait = of_processes
sort EventWait = of_processes
sort AnswerWait = of_processes
sort InterruptWait = of_processes
sort Delay = of_processes
sort Device = of_devices

-- how many of a sort there are, numbered from 1
abbrev pub many : List ℕ → ℕ → ℕ
many w zero = 1
many w (suc zero) = 2
many w (suc (suc zero)) = P_of w
many w (suc (suc (suc zero))) = B_of w
many w (suc (suc (suc (suc zero)))) = S_of w
many w (suc (suc (suc (suc (suc k))))) = device_count

abbrev pub records : List ℕ → Clause → ℕ
records w k = many w (sort k)

-- ---- what a clause asks of record r
abbrev pub right : List ℕ → Clause → ℕ → Bool
right w HeaderThere r = leb header_width (length w)
right w ProcessesInRange r = among most_processes (P_of w)
right w BuffersInRange r = leb (B_of w) most_buffers
right w SemaphoresInRange r = leb (S_of w) most_semaphores
right w LongEnough r = leb (size (P_of w) (B_of w) (S_of w)) (length w)
right w Edition r = leb (get_or w header_edition 0) edition_second
right w HeaderZero r = eqb (get_or w (header_semaphores + r) 0) 0
right w SemaphoreZero s = eqb (semaphore_at w s semaphore_zero) 0
right w Priority p = among most_priority (process_at w p process_priority)
right w Name p = name_ok (process_at w p process_name) (process_at w p process_second_name) (process_at w p process_third_name)
right w NameApart p = all (λ q. not (same_name w q p)) (p - 1)
right w FirstOwn p =
    (not (eqb (owns w p) 0) || eqb (process_at w p process_first_own) 0) && (eqb (owns w p) 0
    || eqb (process_at w p process_first_own) (suc (given (owns w) (p - 1))))
right w AllGiven r = eqb (given (owns w) (P_of w)) (B_of w)
right w Owner b =
    among (P_of w) (buffer_at w b buffer_owner) && (not (leb b (given (owns w) (buffer_at w b buffer_owner - 1)))
    && leb b (given (owns w) (buffer_at w b buffer_owner)))
right w (Queue k p) r = part_holds (queues w k) p r
right w PriorityFalls p =
    not (eqb (process_at w p process_state) state_running) || (not (among (P_of w) (process_at w p process_next))
    || leb (process_at w (process_at w p process_next) process_priority) (process_at w p process_priority))
right w ProcessOff p =
    eqb (process_at w p process_state) state_running || (eqb (process_at w p process_state) state_waits_semaphore || (eqb (process_at w p process_next) 0
    && eqb (process_at w p process_previous) 0))
right w BufferOff b = eqb (buffer_at w b buffer_standing) standing_queued || (eqb (buffer_at w b buffer_standing) standing_answered
    || (eqb (buffer_at w b buffer_next) 0 && eqb (buffer_at w b buffer_previous) 0))
right w Standing b = leb (buffer_at w b buffer_standing) standing_orphaned
right w Free b =
    not (eqb (buffer_at w b buffer_standing) standing_free) || (eqb (buffer_at w b buffer_receiver) 0 && (eqb (buffer_at w b buffer_age) 0
    && (eqb (buffer_at w b buffer_message) 0
    && (eqb (buffer_at w b buffer_second) 0 && (eqb (buffer_at w b buffer_third) 0 && eqb (buffer_at w b buffer_fourth) 0)))))
right w Receiver b = eqb (buffer_at w b buffer_standing) standing_free || (among (P_of w) (buffer_at w b buffer_receiver)
    && not (eqb (buffer_at w b buffer_receiver) (buffer_at w b buffer_owner)))
right w Counter s = counter_right (semaphore_at w s semaphore_counter) (waiting w s)
right w State p = leb (process_at w p process_state) state_waits_semaphore
right w Reason p = leb (process_at w p process_reason) reason_raise && not (eqb (process_at w p process_reason) reason_unused)
right w NoReason p = eqb (process_at w p process_state) state_running || eqb (process_at w p process_reason) reason_none
right w SemaphoreWait p =
    (not (eqb (process_at w p process_state) state_waits_semaphore) || among (S_of w) (process_at w p process_semaphore))
    && (eqb (process_at w p process_state) state_waits_semaphore || eqb (process_at w p process_semaphore) 0)
right w EventWait p = not (eqb (process_at w p process_state) state_waits_event) || eqb (process_at w p process_first) 0
right w AnswerWait p = (not (eqb (process_at w p process_state) state_waits_answer) || awaits w (process_at w p process_awaited) p)
    && (eqb (process_at w p process_state) state_waits_answer || eqb (process_at w p process_awaited) 0)
right w InterruptWait p =
    (not (eqb (process_at w p process_state) state_waits_interrupt) || named_by w (process_at w p process_device) p)
    && (eqb (process_at w p process_state) state_waits_interrupt || eqb (process_at w p process_device) 0)
right w Delay p = eqb (process_at w p process_state) state_waits_event || (eqb (process_at w p process_state) state_waits_interrupt
    || eqb (process_at w p process_delay) 0)
right w Device r =
    (not (eqb (device_at w (r - 1)) kept-interrupt) || eqb (get_or w header_edition 0) edition_second)
    && (eqb (device_at w (r - 1)) 0 || (eqb (device_at w (r - 1)) kept-interrupt || waits w (device_at w (r - 1)) r))

-- the same as propositions
abbrev pub Holds : List ℕ → Clause → ℕ → Type 0
Holds w HeaderThere r = header_width ≤ length w
Holds w ProcessesInRange r = Range most_processes (P_of w)
Holds w BuffersInRange r = B_of w ≤ most_buffers
Holds w SemaphoresInRange r = S_of w ≤ most_semaphores
Holds w LongEnough r = size (P_of w) (B_of w) (S_of w) ≤ length w
Holds w Edition r = get_or w header_edition 0 ≤ edition_second
Holds w HeaderZero r = get_or w (header_semaphores + r) 0 ≡ 0
Holds w SemaphoreZero s = semaphore_at w s semaphore_zero ≡ 0
Holds w Priority p = Range most_priority (process_at w p process_priority)
Holds w Name p = LegalName (process_at w p process_name) (process_at w p process_second_name) (process_at w p process_third_name)
Holds w NameApart p =
    (q : ℕ) → Range (p - 1) q
    → (process_at w q process_name ≡ process_at w p process_name) × ((process_at w q process_second_name ≡ process_at w p process_second_name)
    × (process_at w q process_third_name ≡ process_at w p process_third_name)) → ⊥
Holds w FirstOwn p =
    (owns w p ≡ 0 → process_at w p process_first_own ≡ 0) × ((owns w p ≡ 0 → ⊥) → process_at w p process_first_own ≡ suc (given (owns w) (p - 1)))
Holds w AllGiven r = given (owns w) (P_of w) ≡ B_of w
Holds w Owner b =
    Range (P_of w) (buffer_at w b buffer_owner) × ((b ≤ given (owns w) (buffer_at w b buffer_owner - 1) → ⊥)
    × (b ≤ given (owns w) (buffer_at w b buffer_owner)))
Holds w (Queue k p) r = PartHolds (queues w k) p r
Holds w PriorityFalls p =
    process_at w p process_state ≡ state_running → Range (P_of w) (process_at w p process_next)
    → process_at w (process_at w p process_next) process_priority ≤ process_at w p process_priority
Holds w ProcessOff p = (process_at w p process_state ≡ state_running → ⊥) → (process_at w p process_state ≡ state_waits_semaphore → ⊥)
    → (process_at w p process_next ≡ 0) × (process_at w p process_previous ≡ 0)
Holds w BufferOff b = (buffer_at w b buffer_standing ≡ standing_queued → ⊥) → (buffer_at w b buffer_standing ≡ standing_answered → ⊥)
    → (buffer_at w b buffer_next ≡ 0) × (buffer_at w b buffer_previous ≡ 0)
Holds w Standing b = buffer_at w b buffer_standing ≤ standing_orphaned
Holds w Free b =
    buffer_at w b buffer_standing ≡ standing_free → (buffer_at w b buffer_receiver ≡ 0) × ((buffer_at w b buffer_age ≡ 0) × ((buffer_at w b buffer_message ≡ 0)
    × ((buffer_at w b buffer_second ≡ 0) × ((buffer_at w b buffer_third ≡ 0) × (buffer_at w b buffer_fourth ≡ 0)))))
Holds w Receiver b = (buffer_at w b buffer_standing ≡ standing_free → ⊥) → Range (P_of w) (buffer_at w b buffer_receiver)
    × (buffer_at w b buffer_receiver ≡ buffer_at w b buffer_owner → ⊥)
Holds w Counter s = LegalCounter (semaphore_at w s semaphore_counter) (waiting w s)
Holds w State p = process_at w p process_state ≤ state_waits_semaphore
Holds w Reason p = (process_at w p process_reason ≤ reason_raise) × (process_at w p process_reason ≡ reason_unused → ⊥)
Holds w NoReason p = (process_at w p process_state ≡ state_running → ⊥) → process_at w p process_reason ≡ reason_none
Holds w SemaphoreWait p =
    (process_at w p process_state ≡ state_waits_semaphore → Range (S_of w) (process_at w p process_semaphore))
    × ((process_at w p process_state ≡ state_waits_semaphore → ⊥) → process_at w p process_semaphore ≡ 0)
Holds w EventWait p = process_at w p process_state ≡ state_waits_event → process_at w p process_first ≡ 0
Holds w AnswerWait p =
    (process_at w p process_state ≡ state_waits_answer
    → Awaits (B_of w) (process_at w p process_awaited) (buffer_at w (process_at w p process_awaited) buffer_owner) (buffer_at w
    (process_at w p process_awaited) buffer_standing) p)
    × ((process_at w p process_state ≡ state_waits_answer → ⊥) → process_at w p process_awaited ≡ 0)
Holds w InterruptWait p =
    (process_at w p process_state ≡ state_waits_interrupt → Waits (device_at w) (process_at w p process_device) p)
    × ((process_at w p process_state ≡ state_waits_interrupt → ⊥) → process_at w p process_device ≡ 0)
Holds w Delay p = (process_at w p process_state ≡ state_waits_event → ⊥) → (process_at w p process_state ≡ state_waits_interrupt → ⊥)
    → process_at w p process_delay ≡ 0
Holds w Device r =
    (device_at w (r - 1) ≡ kept-interrupt → get_or w header_edition 0 ≡ edition_second)
    × ((device_at w (r - 1) ≡ 0 → ⊥) → (device_at w (r - 1) ≡ kept-interrupt → ⊥)
    → Range (P_of w) (device_at w (r - 1)) × ((process_at w (device_at w (r - 1)) process_state ≡ state_waits_interrupt)
    × (process_at w (device_at w (r - 1)) process_device ≡ r)))

-- ---- the word that is named where record r fails
abbrev pub place : List ℕ → Clause → ℕ → ℕ
place w HeaderThere r = length w
place w ProcessesInRange r = header_processes
place w BuffersInRange r = header_buffers
place w SemaphoresInRange r = header_semaphores
place w LongEnough r = length w
place w Edition r = header_edition
place w HeaderZero r = header_semaphores + r
place w SemaphoreZero s = place_in w (Semaphore s semaphore_zero)
place w Priority p = place_in w (Process p process_priority)
place w Name p = place_in w (Process p process_name)
place w NameApart p = place_in w (Process p process_name)
place w FirstOwn p = place_in w (Process p process_first_own)
place w AllGiven r = header_buffers
place w Owner b = place_in w (Buffer b buffer_owner)
place w (Queue k p) r = named (queues w k) p r
place w PriorityFalls p = place_in w (Process p process_priority)
place w ProcessOff p = unlinked_at w (place_in w (Process p process_next))
place w BufferOff b = unlinked_at w (place_in w (Buffer b buffer_next))
place w Standing b = place_in w (Buffer b buffer_standing)
place w Free b = free_at w (place_in w (Buffer b buffer_next))
place w Receiver b = place_in w (Buffer b buffer_receiver)
place w Counter s = place_in w (Semaphore s semaphore_counter)
place w State p = place_in w (Process p process_state)
place w Reason p = place_in w (Process p process_reason)
place w NoReason p = place_in w (Process p process_reason)
place w SemaphoreWait p = place_in w (Process p process_semaphore)
place w EventWait p = place_in w (Process p process_first)
place w AnswerWait p = place_in w (Process p process_awaited)
place w InterruptWait p = place_in w (Process p process_device)
place w Delay p = place_in w (Process p process_delay)
place w Device r = device_first + (r - 1)

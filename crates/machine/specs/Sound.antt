-- docs/MONITOR.md, 3: "Sound means exactly", of any words at all, clause by clause. Assumes nothing: these are definitions.
use Rattle.std.specs.Prelude.{◌≡◌, List, ℕ, suc, ◌≤◌, ◌<◌, ◌+◌, length, get_or}
use Rattle.machine.specs.Numbers.{state_running, state_waits_event, state_waits_answer, state_waits_interrupt, state_waits_semaphore, standing_queued}
use Rattle.machine.specs.Numbers.{standing_answered, edition_second, device_count}
use Rattle.machine.specs.Records.{header_processes, header_buffers, header_first, header_last, header_edition, header_semaphores, header_zero}
use Rattle.machine.specs.Records.{header_second_zero, device_first, process_next, process_previous, process_first, process_last, process_state}
use Rattle.machine.specs.Records.{process_reason, process_delay, process_awaited, process_device, process_priority, process_first_own, process_owns}
use Rattle.machine.specs.Records.{process_name, process_second_name, process_third_name, process_semaphore, buffer_next, buffer_previous, buffer_owner}
use Rattle.machine.specs.Records.{buffer_receiver, buffer_standing, buffer_age, buffer_message, buffer_second, buffer_third, buffer_fourth}
use Rattle.machine.specs.Records.{semaphore_counter, semaphore_first, semaphore_last, semaphore_zero}
use Rattle.machine.specs.Queue.{Range, Falls, IsQueue}
use Rattle.machine.specs.Machine.{kept}
use Rattle.machine.specs.Legal.{Fixed, LegalHeader, LegalProcess, LegalBuffer, Queued, Awaits, Waits, LegalCounter}
use Rattle.machine.specs.Words.{Place, Header, Process, Buffer, Semaphore, index, size}

-- ---- the words by name, 0 past the end
-- header words 0, 1 and 5
abbrev pub P_of : List ℕ → ℕ
P_of t = get_or t header_processes 0

abbrev pub B_of : List ℕ → ℕ
B_of t = get_or t header_buffers 0

abbrev pub S_of : List ℕ → ℕ
S_of t = get_or t header_semaphores 0

-- the word at a place
abbrev pub word_at : List ℕ → Place → ℕ
word_at t l = get_or t (index (P_of t) (B_of t) l) 0

-- word f of process p, word g of buffer b, word h of semaphore s, the word of device d
abbrev pub process_at : List ℕ → ℕ → ℕ → ℕ
process_at t p f = word_at t (Process p f)

abbrev pub buffer_at : List ℕ → ℕ → ℕ → ℕ
buffer_at t b g = word_at t (Buffer b g)

abbrev pub semaphore_at : List ℕ → ℕ → ℕ → ℕ
semaphore_at t s h = word_at t (Semaphore s h)

abbrev pub device_at : List ℕ → ℕ → ℕ
device_at t d = word_at t (Header (device_first + d))

-- ---- the queues
-- "the running queue holds exactly the processes in state 1, each once, linked both ways, priorities never rising"
pub record RunningQueue (t : List ℕ) : Type 0 where
  pub q : List ℕ
  pub is : IsQueue (λ p. process_at t p process_next) (λ p. process_at t p process_previous)
      (λ p. Range (P_of t) p × (process_at t p process_state ≡ state_running)) (get_or t header_first 0) (get_or t header_last 0) q
  pub falls : Falls (λ p. process_at t p process_priority) q

-- "p's event queue holds, each once and linked both ways, exactly the buffers of standing 1 with receiver p or standing 3 with owner p"
pub record EventQueue (t : List ℕ) (p : ℕ) : Type 0 where
  pub q : List ℕ
  pub is : IsQueue (λ b. buffer_at t b buffer_next) (λ b. buffer_at t b buffer_previous)
      (λ b. Range (B_of t) b × Queued (buffer_at t b buffer_owner) (buffer_at t b buffer_receiver) (buffer_at t b buffer_standing) p)
      (process_at t p process_first) (process_at t p process_last) q

-- "each queue holding exactly its state 5 waiters once, linked both ways", and "a counter below zero is minus the number waiting; otherwise
-- nobody waits"
pub record SemaphoreQueue (t : List ℕ) (s : ℕ) : Type 0 where
  pub q : List ℕ
  pub is : IsQueue (λ p. process_at t p process_next) (λ p. process_at t p process_previous)
      (λ p. Range (P_of t) p × (process_at t p process_state ≡ state_waits_semaphore) × (process_at t p process_semaphore ≡ s))
      (semaphore_at t s semaphore_first) (semaphore_at t s semaphore_last) q
  pub counter : LegalCounter (semaphore_at t s semaphore_counter) (length q)

-- ---- the sound table
pub record Sound (t : List ℕ) : Type 0 where
  -- "long enough"
  pub long : size (P_of t) (B_of t) (S_of t) ≤ length t
  -- header words 4 to 7; "zero words zero"
  pub header : LegalHeader (get_or t header_edition 0) (get_or t header_semaphores 0) (get_or t header_zero 0) (get_or t header_second_zero 0)
  pub semaphore_zero : (s : ℕ) → Range (S_of t) s → semaphore_at t s semaphore_zero ≡ 0
  -- "numbers in range, priorities 1 to 255, names legal and distinct; own buffers consecutive in process order, all B given out, owners agreeing"
  pub fixed : Fixed (P_of t) (B_of t) (λ b. buffer_at t b buffer_owner) (λ p. process_at t p process_priority)
      (λ p. process_at t p process_first_own) (λ p. process_at t p process_owns) (λ p. process_at t p process_name) (λ p. process_at t p process_second_name)
      (λ p. process_at t p process_third_name)
  -- the queues, and "a record in no queue has links 0"
  pub running : RunningQueue t
  pub off_running : (p : ℕ) → Range (P_of t) p → (process_at t p process_state ≡ state_running → ⊥) → (process_at t p process_state ≡ state_waits_semaphore → ⊥)
      → (process_at t p process_next ≡ 0) × (process_at t p process_previous ≡ 0)
  pub semaphore_queues : (s : ℕ) → Range (S_of t) s → SemaphoreQueue t s
  pub events : (p : ℕ) → Range (P_of t) p → EventQueue t p
  pub off_events : (b : ℕ) → Range (B_of t) b → (buffer_at t b buffer_standing ≡ standing_queued → ⊥) → (buffer_at t b buffer_standing ≡ standing_answered → ⊥)
      → (buffer_at t b buffer_next ≡ 0) × (buffer_at t b buffer_previous ≡ 0)
  -- "a free buffer has receiver and message words 0, any other a receiver that isn't its owner"; age 0 "in free buffers only"
  pub buffer : (b : ℕ) → Range (B_of t) b → LegalBuffer (P_of t) (buffer_at t b buffer_owner) (buffer_at t b buffer_receiver)
      (buffer_at t b buffer_standing) (buffer_at t b buffer_age) (buffer_at t b buffer_message) (buffer_at t b buffer_second) (buffer_at t b buffer_third)
      (buffer_at t b buffer_fourth)
  -- "state 2 has an empty event queue"
  pub idle : (p : ℕ) → Range (P_of t) p → process_at t p process_state ≡ state_waits_event → process_at t p process_first ≡ 0
  -- "word 7 names an own buffer of standing 1 or 2 in state 3, else 0" (the 'else' is in `process`)
  pub awaits : (p : ℕ) → Range (P_of t) p → process_at t p process_state ≡ state_waits_answer
      → Awaits (B_of t) (process_at t p process_awaited) (buffer_at t (process_at t p process_awaited) buffer_owner)
      (buffer_at t (process_at t p process_awaited) buffer_standing) p
  -- "word 8 names a device in state 4, else 0; device words name exactly those waiters"
  pub waits : (p : ℕ) → Range (P_of t) p → process_at t p process_state ≡ state_waits_interrupt → Waits (device_at t) (process_at t p process_device) p
  -- "Soundness allows FFFF only in edition 1"
  pub keeps : (d : ℕ) → d < device_count → device_at t d ≡ kept → get_or t header_edition 0 ≡ edition_second
  pub waiters : (d : ℕ) → d < device_count → (device_at t d ≡ 0 → ⊥) → (device_at t d ≡ kept → ⊥) → Range (P_of t) (device_at t d)
      × (process_at t (device_at t d) process_state ≡ state_waits_interrupt) × (process_at t (device_at t d) process_device ≡ suc d)
  -- "word 15 names the semaphore"
  pub lowers : (p : ℕ) → Range (P_of t) p → process_at t p process_state ≡ state_waits_semaphore → Range (S_of t) (process_at t p process_semaphore)
  -- states and reasons in range; "delay 0 outside states 2 and 4; reason 0 outside state 1"
  pub process : (p : ℕ) → Range (P_of t) p → LegalProcess (process_at t p process_state) (process_at t p process_reason)
      (process_at t p process_delay) (process_at t p process_awaited)
      (process_at t p process_device) (process_at t p process_semaphore)

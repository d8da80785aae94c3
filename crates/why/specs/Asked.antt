-- What the clauses speak of; what they ask of a record's words, and which is named, where that takes more than one. Assumes nothing: these are definitions.
use Rattle.std.specs.Prelude.{Bool, not, ◌&&◌, ◌||◌, List, ℕ, ◌+◌, ◌-◌, length, get_or, eqb, leb}
use Rattle.machine.specs.Numbers.{state_waits_interrupt, standing_queued, standing_held, device_count, counter_below_zero}
use Rattle.machine.specs.Records.{process_state, process_device, process_owns, process_name, process_second_name, process_third_name, buffer_owner}
use Rattle.machine.specs.Records.{buffer_receiver, buffer_standing, buffer_age, buffer_message, buffer_second, buffer_third, buffer_fourth}
use Rattle.machine.specs.Queue.{if, from, keep}
use Rattle.machine.specs.Sound.{P_of, B_of, process_at, buffer_at, device_at}
use Rattle.machine.specs.Words.{Place, index}
use Rattle.why.specs.QueueParts.{waiting_queues, among}

-- ---- what a clause speaks of: the header, its two zero words, or records of a sort
abbrev pub of_header : ℕ
of_header = 0

abbrev pub of_zeros : ℕ
of_zeros = 1

abbrev pub of_processes : ℕ
of_processes = 2

abbrev pub of_buffers : ℕ
of_buffers = 3

abbrev pub of_semaphores : ℕ
of_semaphores = 4

abbrev pub of_devices : ℕ
of_devices = 5

-- ---- what is asked
-- the processes q and p have one name
abbrev pub same_name : List ℕ → ℕ → ℕ → Bool
same_name w q p =
    eqb (process_at w q process_name) (process_at w p process_name) && (eqb (process_at w q process_second_name) (process_at w p process_second_name)
    && eqb (process_at w q process_third_name) (process_at w p process_third_name))

abbrev pub owns : List ℕ → ℕ → ℕ
owns w p = process_at w p process_owns

-- how many processes wait for semaphore s
abbrev pub waiting : List ℕ → ℕ → ℕ
waiting w s = length (keep (λ p. eqb ((waiting_queues w).home p) s) (from 1 (P_of w)))

abbrev pub counter_right : ℕ → ℕ → Bool
counter_right c n = leb c 65535 && ((not (leb counter_below_zero c) || eqb (c + n) 65536) && (leb counter_below_zero c || eqb n 0))

-- b, an own buffer of p's, is queued or held
abbrev pub awaits : List ℕ → ℕ → ℕ → Bool
awaits w b p = among (B_of w) b && (eqb (buffer_at w b buffer_owner) p && (leb standing_queued (buffer_at w b buffer_standing)
    && leb (buffer_at w b buffer_standing) standing_held))

-- there is a device x - 1, and it names p
abbrev pub named_by : List ℕ → ℕ → ℕ → Bool
named_by w x p = among device_count x && eqb (device_at w (x - 1)) p

-- process p waits for device x - 1
abbrev pub waits : List ℕ → ℕ → ℕ → Bool
waits w p x = among (P_of w) p && (eqb (process_at w p process_state) state_waits_interrupt && eqb (process_at w p process_device) x)

-- ---- what is named
-- of a record's words 0 and 1, the first that isn't zero
abbrev pub unlinked_at : List ℕ → ℕ → ℕ
unlinked_at w start = if (eqb (get_or w start 0) 0) (start + 1) start

-- of a free buffer's words 3 and 5 to 9, the first that isn't zero
abbrev pub free_at : List ℕ → ℕ → ℕ
free_at w start =
    if (not (eqb (get_or w (start + buffer_receiver) 0) 0)) (start + buffer_receiver)
    (if (not (eqb (get_or w (start + buffer_age) 0) 0)) (start + buffer_age)
    (if (not (eqb (get_or w (start + buffer_message) 0) 0)) (start + buffer_message)
    (if (not (eqb (get_or w (start + buffer_second) 0) 0)) (start + buffer_second)
    (if (not (eqb (get_or w (start + buffer_third) 0) 0)) (start + buffer_third) (start + buffer_fourth)))))

abbrev pub place_in : List ℕ → Place → ℕ
place_in w l = index (P_of w) (B_of w) l

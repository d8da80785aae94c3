-- The tests on a process by itself, as the code makes them. Assumes nothing: these are definitions.
use Rattle.std.specs.Prelude.{Bool, true, ◌&&◌, List, ℕ, ◌+◌, ◌*◌, get_or, eqb, leb}
use Rattle.machine.specs.Numbers.{state_stopped, state_running, state_waits_event, state_waits_answer, state_waits_interrupt, state_waits_semaphore}
use Rattle.machine.specs.Numbers.{reason_none, reason_interrupt, reason_raise, standing_queued, standing_held, device_count, most_priority}
use Rattle.machine.specs.Records.{device_base, process_base, process_width, process_next, process_previous, process_first, process_state, process_reason}
use Rattle.machine.specs.Records.{process_delay, process_awaited, process_device, process_priority, process_first_own, process_owns, process_name}
use Rattle.machine.specs.Records.{process_second_name, process_third_name, process_semaphore, buffer_width, buffer_owner, buffer_standing}
use Rattle.machine.specs.Queue.{if}
use Rattle.machine.specs.Layout.{name_ok}
use Rattle.machine.specs.Sound.{S_of, process_at}

-- its priority is in range; `start` is the index of a process's word 0
abbrev pub prioritized : List ℕ → ℕ → Bool
prioritized w start = leb 1 (get_or w (start + process_priority) 0) && leb (get_or w (start + process_priority) 0) most_priority

-- no reason, in no queue
abbrev pub off : List ℕ → ℕ → Bool
off w start = eqb (get_or w (start + process_reason) 0) reason_none &&
    (eqb (get_or w (start + process_next) 0) 0 && eqb (get_or w (start + process_previous) 0) 0)

-- waits for no buffer and no device
abbrev pub unawaiting : List ℕ → ℕ → Bool
unawaiting w start = eqb (get_or w (start + process_awaited) 0) 0 && eqb (get_or w (start + process_device) 0) 0

-- nor for a delay to run out
abbrev pub quiet : List ℕ → ℕ → Bool
quiet w start = eqb (get_or w (start + process_delay) 0) 0 && unawaiting w start

-- what a state but 5, with a reason but 5, asks of the other words, but for what is waited for
unfoldable pub state_legal : List ℕ → ℕ → Bool
state_legal w start =
    if (eqb (get_or w (start + process_state) 0) state_running) (leb (get_or w (start + process_reason) 0) reason_interrupt && quiet w start)
    (off w start &&
    (if (eqb (get_or w (start + process_state) 0) state_stopped) (quiet w start)
    (if (eqb (get_or w (start + process_state) 0) state_waits_event) (eqb (get_or w (start + process_first) 0) 0 && unawaiting w start)
    (if (eqb (get_or w (start + process_state) 0) state_waits_answer)
    (eqb (get_or w (start + process_delay) 0) 0 && eqb (get_or w (start + process_device) 0) 0)
    (eqb (get_or w (start + process_state) 0) state_waits_interrupt && eqb (get_or w (start + process_awaited) 0) 0)))))

-- b is one of the buffers, is p's, and is queued or held
abbrev pub awaits_own : List ℕ → ℕ → ℕ → ℕ → ℕ → Bool
awaits_own w base buffers p b =
    leb 1 b && (leb b buffers && (eqb (get_or w (base + buffer_width * b + buffer_owner) 0) p
    && (leb standing_queued (get_or w (base + buffer_width * b + buffer_standing) 0)
    && leb (get_or w (base + buffer_width * b + buffer_standing) 0) standing_held)))

-- there is a device d - 1, and it names p
abbrev pub named_by : List ℕ → ℕ → ℕ → Bool
named_by w p d = leb 1 d && (leb d device_count && eqb (get_or w (device_base + d) 0) p)

-- what is waited for in states 3 and 4
unfoldable pub waits_legal : List ℕ → ℕ → ℕ → ℕ → ℕ → Bool
waits_legal w base buffers p start =
    if (eqb (get_or w (start + process_state) 0) state_waits_answer) (awaits_own w base buffers p (get_or w (start + process_awaited) 0))
    (if (eqb (get_or w (start + process_state) 0) state_waits_interrupt) (named_by w p (get_or w (start + process_device) 0)) true)

-- a process that runs since a RAISE woke it
abbrev pub raised_legal : List ℕ → ℕ → Bool
raised_legal w start = eqb (get_or w (start + process_state) 0) state_running && (eqb (get_or w (start + process_reason) 0) reason_raise && quiet w start)

-- a process that names a semaphore waits for it, one that there is, and for nothing else
abbrev pub lowers_legal : List ℕ → ℕ → Bool
lowers_legal w start =
    eqb (get_or w (start + process_state) 0) state_waits_semaphore && (leb (get_or w (start + process_semaphore) 0) (S_of w)
    && (eqb (get_or w (start + process_reason) 0) reason_none && quiet w start))

-- the words of process p, but for its name, own buffers and queues
unfoldable pub words_legal : List ℕ → ℕ → ℕ → ℕ → ℕ → Bool
words_legal w base buffers p start =
    prioritized w start &&
    (if (eqb (get_or w (start + process_semaphore) 0) 0)
    (if (state_legal w start) (waits_legal w base buffers p start) (raised_legal w start))
    (lowers_legal w start))

-- own buffers begin behind those given before; 0 for none
abbrev pub begins : ℕ → ℕ → ℕ → Bool
begins first count before = if (eqb count 0) (eqb first 0) (eqb first (before + 1))

-- and there are enough
abbrev pub owns_legal : ℕ → ℕ → ℕ → ℕ → Bool
owns_legal first count before buffers = begins first count before && leb (before + count) buffers

-- process p, but for its queues and what of its name goes beyond it; the processes before it own `before` of the buffers
unfoldable pub process_legal : List ℕ → ℕ → ℕ → ℕ → ℕ → Bool
process_legal w base buffers p before =
    words_legal w base buffers p (process_base + process_width * p) &&
    (name_ok (process_at w p process_name) (process_at w p process_second_name) (process_at w p process_third_name) &&
    owns_legal (process_at w p process_first_own) (process_at w p process_owns) before buffers)

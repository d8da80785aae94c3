-- docs/MONITOR.md, 2, 6 and 7: its numbers by name, as the code has them (machine/src) and C (include/elvomike). Each is its number wherever it is
-- computed with. Assumes nothing: these are definitions.
use Rattle.std.specs.Prelude.{ℕ}

-- ---- states: what a process's word process-state says
abbrev pub state_stopped : ℕ
state_stopped = 0

abbrev pub state_running : ℕ
state_running = 1

abbrev pub state_waits_event : ℕ
state_waits_event = 2

abbrev pub state_waits_answer : ℕ
state_waits_answer = 3

abbrev pub state_waits_interrupt : ℕ
state_waits_interrupt = 4

abbrev pub state_waits_semaphore : ℕ
state_waits_semaphore = 5

-- ---- reasons: why a process last woke; 4 is none
abbrev pub reason_none : ℕ
reason_none = 0

abbrev pub reason_event : ℕ
reason_event = 1

abbrev pub reason_delay : ℕ
reason_delay = 2

abbrev pub reason_interrupt : ℕ
reason_interrupt = 3

abbrev pub reason_unused : ℕ
reason_unused = 4

abbrev pub reason_raise : ℕ
reason_raise = 5

-- ---- standings: what a buffer's word buffer-standing says
abbrev pub standing_free : ℕ
standing_free = 0

abbrev pub standing_queued : ℕ
standing_queued = 1

abbrev pub standing_held : ℕ
standing_held = 2

abbrev pub standing_answered : ℕ
standing_answered = 3

abbrev pub standing_orphaned : ℕ
standing_orphaned = 4

-- ---- the kinds of an answer to a call that waits; 0 where the caller waits
abbrev pub kind_message : ℕ
kind_message = 1

abbrev pub kind_answer : ℕ
kind_answer = 2

abbrev pub kind_kept : ℕ
kind_kept = 3

-- ---- calls
abbrev pub call_send : ℕ
call_send = 1

abbrev pub call_wait_answer : ℕ
call_wait_answer = 2

abbrev pub call_wait_event : ℕ
call_wait_event = 3

abbrev pub call_send_answer : ℕ
call_send_answer = 4

abbrev pub call_wait_interrupt : ℕ
call_wait_interrupt = 5

abbrev pub call_start : ℕ
call_start = 6

abbrev pub call_stop : ℕ
call_stop = 7

abbrev pub call_clean : ℕ
call_clean = 8

abbrev pub call_tick : ℕ
call_tick = 9

abbrev pub call_interrupt : ℕ
call_interrupt = 10

abbrev pub call_list : ℕ
call_list = 11

abbrev pub call_lower : ℕ
call_lower = 12

abbrev pub call_raise : ℕ
call_raise = 13

-- ---- the numbers of refusal, "the upper line wins"
abbrev pub no_such_call : ℕ
no_such_call = 13

abbrev pub table_not_sound : ℕ
table_not_sound = 1

abbrev pub no_current : ℕ
no_current = 2

abbrev pub no_such_device : ℕ
no_such_device = 3

abbrev pub no_such_process : ℕ
no_such_process = 4

abbrev pub sent_to_oneself : ℕ
sent_to_oneself = 8

abbrev pub no_free_buffer : ℕ
no_free_buffer = 5

abbrev pub wrong_buffer : ℕ
wrong_buffer = 6

abbrev pub wrong_state : ℕ
wrong_state = 7

abbrev pub device_taken : ℕ
device_taken = 9

abbrev pub room_too_short : ℕ
room_too_short = 10

abbrev pub wrong_list : ℕ
wrong_list = 11

abbrev pub table_too_short : ℕ
table_too_short = 12

abbrev pub no_such_semaphore : ℕ
no_such_semaphore = 19

abbrev pub counter_full : ℕ
counter_full = 20

-- ---- editions: in the second an interrupt without a waiter is kept
abbrev pub edition_first : ℕ
edition_first = 0

abbrev pub edition_second : ℕ
edition_second = 1

-- ---- how many there may be, and how high a number may go
abbrev pub most_processes : ℕ
most_processes = 32

abbrev pub most_buffers : ℕ
most_buffers = 128

abbrev pub most_semaphores : ℕ
most_semaphores = 16

abbrev pub device_count : ℕ
device_count = 64

abbrev pub last_device : ℕ
last_device = 63

abbrev pub most_priority : ℕ
most_priority = 255

abbrev pub most_age : ℕ
most_age = 65535

abbrev pub most_counter : ℕ
most_counter = 32767

abbrev pub counter_below_zero : ℕ
counter_below_zero = 32768

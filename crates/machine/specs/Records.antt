-- docs/MONITOR.md, 2: the words of header and records by name, numbered as in the table, as the code has them (machine/src). Assumes nothing: these
-- are definitions.
use Rattle.std.specs.Prelude.{ℕ}

-- ---- the words of the header, and how many it has; device d's is at device-first + d; by its number plus 1, at device-base + d
abbrev pub header_processes : ℕ
header_processes = 0

abbrev pub header_buffers : ℕ
header_buffers = 1

abbrev pub header_first : ℕ
header_first = 2

abbrev pub header_last : ℕ
header_last = 3

abbrev pub header_edition : ℕ
header_edition = 4

abbrev pub header_semaphores : ℕ
header_semaphores = 5

abbrev pub header_zero : ℕ
header_zero = 6

abbrev pub header_second_zero : ℕ
header_second_zero = 7

abbrev pub header_width : ℕ
header_width = 72

abbrev pub device_first : ℕ
device_first = 8

abbrev pub device_base : ℕ
device_base = 7

-- ---- the words of a process, and how many it has; those of process p start at process-base + process-width * p
abbrev pub process_base : ℕ
process_base = 56

abbrev pub process_width : ℕ
process_width = 16

abbrev pub process_next : ℕ
process_next = 0

abbrev pub process_previous : ℕ
process_previous = 1

abbrev pub process_first : ℕ
process_first = 2

abbrev pub process_last : ℕ
process_last = 3

abbrev pub process_state : ℕ
process_state = 4

abbrev pub process_reason : ℕ
process_reason = 5

abbrev pub process_delay : ℕ
process_delay = 6

abbrev pub process_awaited : ℕ
process_awaited = 7

abbrev pub process_device : ℕ
process_device = 8

abbrev pub process_priority : ℕ
process_priority = 9

abbrev pub process_first_own : ℕ
process_first_own = 10

abbrev pub process_owns : ℕ
process_owns = 11

abbrev pub process_name : ℕ
process_name = 12

abbrev pub process_second_name : ℕ
process_second_name = 13

abbrev pub process_third_name : ℕ
process_third_name = 14

abbrev pub process_semaphore : ℕ
process_semaphore = 15

-- ---- the words of a buffer; those of buffer b start at buffer-base + buffer-width * b, behind the words of the processes
abbrev pub buffer_base : ℕ
buffer_base = 62

abbrev pub buffer_width : ℕ
buffer_width = 10

abbrev pub buffer_next : ℕ
buffer_next = 0

abbrev pub buffer_previous : ℕ
buffer_previous = 1

abbrev pub buffer_owner : ℕ
buffer_owner = 2

abbrev pub buffer_receiver : ℕ
buffer_receiver = 3

abbrev pub buffer_standing : ℕ
buffer_standing = 4

abbrev pub buffer_age : ℕ
buffer_age = 5

abbrev pub buffer_message : ℕ
buffer_message = 6

abbrev pub buffer_second : ℕ
buffer_second = 7

abbrev pub buffer_third : ℕ
buffer_third = 8

abbrev pub buffer_fourth : ℕ
buffer_fourth = 9

-- ---- the words of a semaphore; those of semaphore s start at semaphore-base + semaphore-width * s, behind those of processes and buffers
abbrev pub semaphore_base : ℕ
semaphore_base = 68

abbrev pub semaphore_width : ℕ
semaphore_width = 4

abbrev pub semaphore_counter : ℕ
semaphore_counter = 0

abbrev pub semaphore_first : ℕ
semaphore_first = 1

abbrev pub semaphore_last : ℕ
semaphore_last = 2

abbrev pub semaphore_zero : ℕ
semaphore_zero = 3

-- ---- the words that a process takes in the list of a layout
abbrev pub entry_width : ℕ
entry_width = 5

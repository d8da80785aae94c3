-- The test of the whole table, as the code makes it. Assumes nothing: these are definitions.
use Rattle.std.specs.Prelude.{◌≡◌, Bool, true, ◌&&◌, List, ℕ, ◌+◌, ◌-◌, ◌*◌, ◌≤◌, length, get_or, eqb, leb}
use Rattle.machine.specs.Numbers.{edition_second, most_processes, most_buffers, most_semaphores}
use Rattle.machine.specs.Records.{header_first, header_edition, header_zero, header_second_zero, header_width, process_width, process_owns, process_name}
use Rattle.machine.specs.Records.{process_second_name, process_third_name, buffer_base, buffer_width, buffer_standing, semaphore_width}
use Rattle.machine.specs.Queue.{Range}
use Rattle.machine.specs.Machine.{given}
use Rattle.machine.specs.Sound.{P_of, B_of, S_of, process_at}
use Rattle.lists.specs.Counts.{count, all}
use Rattle.sound.specs.Buffers.{queued, own_buffer}
use Rattle.sound.specs.Processes.{process_legal}
use Rattle.sound.specs.Names.{new_name}
use Rattle.sound.specs.Devices.{devices}
use Rattle.sound.specs.Queues.{sweep, event_queue, running, follow_running}
use Rattle.sound.specs.Semaphores.{semaphore_queues}

-- where buffer 0 would begin
abbrev pub base_of : List ℕ → ℕ
base_of w = buffer_base + process_width * P_of w

-- words 4, 6 and 7: an edition, and zeros
abbrev pub header_legal : List ℕ → Bool
header_legal w = leb (get_or w header_edition 0) edition_second && (eqb (get_or w header_zero 0) 0 && eqb (get_or w header_second_zero 0) 0)

-- that many processes, buffers and semaphores are in range, and fit in that many words
abbrev pub fits : ℕ → ℕ → ℕ → ℕ → Bool
fits processes buffers semaphores words =
    leb 1 processes && (leb processes most_processes && (leb buffers most_buffers && (leb semaphores most_semaphores
    && leb (header_width + process_width * processes + buffer_width * buffers + semaphore_width * semaphores) words)))

-- long enough, numbers of records and edition in range, zero words of the header zero
unfoldable pub sized : List ℕ → Bool
sized w = leb header_width (length w) && (fits (P_of w) (B_of w) (S_of w) (length w) && header_legal w)

abbrev pub owns : List ℕ → ℕ → ℕ
owns w p = process_at w p process_owns

-- k buffers behind `before` others, all p's
abbrev pub own_run : List ℕ → ℕ → ℕ → ℕ → ℕ → ℕ → Bool
own_run w base p processes before k = all (λ j. own_buffer w (base + buffer_width * (before + j)) p processes) k

-- how many of the buffers 1 to n are in a queue
abbrev pub queued_of : List ℕ → ℕ → ℕ → ℕ
queued_of w base n = count (λ b. queued (get_or w (base + buffer_width * b + buffer_standing) 0)) n

-- the name of process p against those before it, and p's own buffers
abbrev pub own_legal : List ℕ → ℕ → ℕ → ℕ → ℕ → Bool
own_legal w base processes p before =
    new_name w (p - 1) (process_at w p process_name) (process_at w p process_second_name) (process_at w p process_third_name)
    && own_run w base p processes before (owns w p)

-- process p with its name against those before it and its own buffers
unfoldable pub record_legal : List ℕ → ℕ → ℕ → ℕ → Bool
record_legal w base buffers p =
    process_legal w base buffers p (given (owns w) (p - 1)) && own_legal w base (P_of w) p (given (owns w) (p - 1))

unfoldable pub records : List ℕ → Bool
records w = all (record_legal w (base_of w) (B_of w)) (P_of w) && eqb (given (owns w) (P_of w)) (B_of w)

-- the buffers in queues are all found by following the queues
unfoldable pub events : List ℕ → Bool
events w = eqb (sweep (event_queue w (base_of w)) (P_of w) (queued_of w (base_of w) (B_of w))) 0

-- the running processes are all found by following the running queue
unfoldable pub runs : List ℕ → Bool
runs w = eqb (follow_running w (running w (P_of w)) (get_or w header_first 0) 0) 0

unfoldable pub checked : List ℕ → Bool
checked w = sized w && (devices w && (records w && (events w && (runs w && semaphore_queues w))))

-- ---- what the loops ask and give
-- a table of the right size, with that many processes and buffers
pub record Lent (w : List ℕ) (processes buffers : ℕ) : Type 0 where
  pub processes_are : processes ≡ P_of w
  pub buffers_are : buffers ≡ B_of w
  pub few_processes : processes ≤ most_processes
  pub few_buffers : buffers ≤ most_buffers
  pub long : header_width + process_width * processes + buffer_width * buffers ≤ length w

-- k buffers behind `before` others, of which `sum` are queued
pub record RunAsked (w : List ℕ) (base before k sum : ℕ) : Type 0 where
  pub inside : base + buffer_width * (before + k) + buffer_width ≤ length w
  pub few : before + k ≤ most_buffers
  pub so_far : sum ≡ queued_of w base before

-- process p, behind processes that own `before` buffers, of which `sum` are queued
pub record RecordAsked (w : List ℕ) (base processes buffers p before sum : ℕ) : Type 0 where
  pub lent : Lent w processes buffers
  pub base_is : base ≡ buffer_base + process_width * processes
  pub among : Range processes p
  pub given_before : before ≡ given (owns w) (p - 1)
  pub few : before ≤ buffers
  pub so_far : sum ≡ queued_of w base before

-- the same, where there are buffers enough for p; none of those processes met p's mark where `met` is 0
pub record OwnAsked (w : List ℕ) (base processes p before met sum : ℕ) : Type 0 where
  pub among : Range processes p
  pub few_processes : processes ≤ most_processes
  pub long : header_width + process_width * processes ≤ length w
  pub inside : base + buffer_width * (before + owns w p) + buffer_width ≤ length w
  pub few : before + owns w p ≤ most_buffers
  pub so_far : sum ≡ queued_of w base before
  pub new : met ≡ 0 → new_name w (p - 1) (process_at w p process_name) (process_at w p process_second_name) (process_at w p process_third_name) ≡ true

-- docs/MONITOR.md, 9: a log of LOWERs and RAISEs, and what it says of who waits, by computation. Assumes nothing: these are definitions.
use Rattle.std.specs.Prelude.{◌≡◌, refl, List, [], ◌∷◌, ◌++◌, map, ℕ}
use Rattle.machine.specs.Numbers.{call_wait_event, call_start, call_stop, call_tick, call_lower, call_raise, no_such_semaphore}
use Rattle.machine.specs.Queue.{same, without, enter, from, keep, fold}
use Rattle.machine.specs.Machine.{zeros, given}
use Rattle.machine.specs.Moves.{clean_buffer}
use Rattle.machine.specs.Request.{request}
use Rattle.machine.specs.Refusal.{first, refusal}
use Rattle.machine.specs.Step.{Answer, refused, rows, effect, step}
use Rattle.machine.specs.Layout.{laid_over, laid, sum, owner_of}
use Rattle.machine.specs.Log.{Call, Log, asked}
use Rattle.machine.specs.Worked.{Exchange as Row, ◌answers◌, ok, played, two}
use Rattle.logs.specs.Semaphores.{waiters_of, waiters_move, read_waiters, waiters_left, times, lowers_in, raises_in, taken_in, taken_away}

-- call number n with part a, and its answer
abbrev called : ℕ → ℕ → Answer → Call
called n a r = record { number = n; a = a; b = 0; words = zeros; room = 0; answer = r }

-- nothing but the current process
abbrev plain : ℕ → Answer
plain now = ok 0 0 now zeros

-- ---- one semaphore of counter 1
-- A has it, and waits for an event; B waits for the semaphore
abbrev one_waits : List Call
one_waits = called call_start 1 (plain 1) ∷ called call_start 2 (plain 1) ∷ called call_lower 1 (plain 1) ∷ called call_wait_event 1
    (plain 2) ∷ called call_lower 1 (plain 0) ∷ []

-- A's delay ends; a RAISE of a semaphore that isn't there is refused; A raises, and B has it
abbrev handed_on : List Call
handed_on = one_waits ++ (called call_tick 0 (ok 1 0 1 zeros) ∷ called call_raise 2 (refused no_such_semaphore) ∷ called call_raise 1 (plain 1) ∷ [])

-- A waits, and is stopped
abbrev taken_off : List Call
taken_off = handed_on ++ (called call_lower 1 (plain 2) ∷ called call_stop 1 (plain 2) ∷ [])

-- B raises, and lowers twice
abbrev all : List Call
all = taken_off ++ (called call_raise 1 (plain 2) ∷ called call_lower 1 (plain 2) ∷ called call_lower 1 (plain 0) ∷ [])

abbrev log_of : List Call → Log
log_of l = record { list = two; calls = l }

-- the machine answers so
abbrev rows_of : List Row
rows_of = map (λ c. asked c answers c.answer) all

pub answered_so : played (laid 0 (1 ∷ []) two) rows_of ≡ rows_of
unfolding request played laid_over step without enter from keep fold rows first refusal effect clean_buffer sum same given owner_of
answered_so = refl

-- ---- who waits: nobody or B; at the end the counter is 1 + 2 + 1 - 5, and B waits
pub record Says : Type 0 where
  pub waits : waiters_left (1 ∷ []) (log_of one_waits) 1 ≡ waiters_of 0 (2 ∷ [])
  pub hands_on : waiters_left (1 ∷ []) (log_of handed_on) 1 ≡ waiters_of 0 []
  pub takes_off : waiters_left (1 ∷ []) (log_of taken_off) 1 ≡ waiters_of 0 []
  pub ends : waiters_left (1 ∷ []) (log_of all) 1 ≡ waiters_of 0 (2 ∷ [])
  pub lowers : lowers_in 1 all ≡ 5
  pub raises : raises_in 1 all ≡ 2
  pub taken : taken_away (1 ∷ []) (log_of all) 1 ≡ 1

pub says : Says
unfolding request waiters_move read_waiters times taken_in without
says = record { waits = refl; hands_on = refl; takes_off = refl; ends = refl; lowers = refl; raises = refl; taken = refl }

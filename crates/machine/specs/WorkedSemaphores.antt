-- docs/MONITOR.md, 9, OSCAR's semaphores: runs of LOWER and RAISE, all by computation. Assumes nothing: these are definitions.
use Rattle.std.specs.Prelude.{◌≡◌, refl, List, [], ◌∷◌, ◌++◌, map, ℕ}
use Rattle.machine.specs.Numbers.{call_send, call_wait_event, call_start, call_stop, call_clean, call_tick, call_lower, call_raise, no_current}
use Rattle.machine.specs.Numbers.{no_such_semaphore, counter_full}
use Rattle.machine.specs.Queue.{same, without, enter, from, keep, fold}
use Rattle.machine.specs.Machine.{Machine, zeros, given, put_semaphore}
use Rattle.machine.specs.Moves.{clean_buffer}
use Rattle.machine.specs.Request.{Request, request, Start, Lower, Raise}
use Rattle.machine.specs.Refusal.{first, refusal}
use Rattle.machine.specs.Step.{refused, rows, effect, step, after}
use Rattle.machine.specs.Layout.{laid_over, laid, sum, owner_of, entries, fives, each, apart, startable, layout_refusal}
use Rattle.machine.specs.Words.{image, home}
use Rattle.machine.specs.Worked.{Exchange, call, ◌answers◌, ok, played, Plays, two, started}
use Rattle.machine.specs.WorkedOrder.{four_of}

-- ---- runs
-- one of counter 1: A has it, B waits and is raised, by A, with its LOWER done; A waits and is stopped, which adds one; the counter is
-- then 0, and 1 after the raise
abbrev pub guarded : List Exchange
guarded =
    call call_lower 1 0 zeros answers ok 0 0 1 zeros
    ∷ call call_wait_event 1 0 zeros answers ok 0 0 2 zeros
    ∷ call call_lower 1 0 zeros answers ok 0 0 0 zeros
    ∷ call call_raise 1 0 zeros answers refused no_current
    ∷ call call_tick 0 0 zeros answers ok 1 0 1 zeros
    ∷ call call_raise 2 0 zeros answers refused no_such_semaphore
    ∷ call call_raise 1 0 zeros answers ok 0 0 1 zeros
    ∷ call call_lower 1 0 zeros answers ok 0 0 2 zeros
    ∷ call call_stop 1 0 zeros answers ok 0 0 2 zeros
    ∷ call call_raise 1 0 zeros answers ok 0 0 2 zeros
    ∷ call call_lower 1 0 zeros answers ok 0 0 2 zeros
    ∷ call call_lower 1 0 zeros answers ok 0 0 0 zeros
    ∷ []

pub plays_guarded : Plays (laid 0 (1 ∷ []) two) (started ++ guarded)
unfolding request played laid_over step without enter from keep fold rows first refusal effect clean_buffer sum same given owner_of
plays_guarded = refl

-- none above 32,767
abbrev pub full : List Exchange
full = call call_raise 1 0 zeros answers refused counter_full ∷ call call_lower 1 0 zeros answers ok 0 0 1 zeros
    ∷ call call_raise 1 0 zeros answers ok 0 0 1 zeros ∷ []

pub plays_full : Plays (laid 0 (32767 ∷ []) two) (started ++ full)
unfolding request played laid_over step without enter from keep fold rows first refusal effect clean_buffer sum same given owner_of
plays_full = refl

-- 2 waits and then 3, of one priority; H raises twice: the longest waiter wakes first
abbrev pub in_turn : List Exchange
in_turn =
    call call_start 2 0 zeros answers ok 0 0 2 zeros
    ∷ call call_lower 1 0 zeros answers ok 0 0 0 zeros
    ∷ call call_start 3 0 zeros answers ok 0 0 3 zeros
    ∷ call call_lower 1 0 zeros answers ok 0 0 0 zeros
    ∷ call call_start 1 0 zeros answers ok 0 0 1 zeros
    ∷ call call_raise 1 0 zeros answers ok 0 0 1 zeros
    ∷ call call_stop 1 0 zeros answers ok 0 0 2 zeros
    ∷ call call_raise 1 0 zeros answers ok 0 0 2 zeros
    ∷ call call_stop 2 0 zeros answers ok 0 0 3 zeros
    ∷ []

pub plays_in_turn : Plays (laid 0 (0 ∷ []) four_of) in_turn
unfolding request played laid_over step without enter from keep fold rows first refusal effect clean_buffer sum same given owner_of
plays_in_turn = refl

-- 2 waits and is cleaned: it is out of the queue, and the counter, 0 again, is 1 after H's raise, so that H's own LOWER doesn't wait
abbrev pub cleaned_away : List Exchange
cleaned_away =
    call call_start 2 0 zeros answers ok 0 0 2 zeros
    ∷ call call_lower 1 0 zeros answers ok 0 0 0 zeros
    ∷ call call_start 1 0 zeros answers ok 0 0 1 zeros
    ∷ call call_clean 2 0 zeros answers ok 0 0 1 zeros
    ∷ call call_raise 1 0 zeros answers ok 0 0 1 zeros
    ∷ call call_lower 1 0 zeros answers ok 0 0 1 zeros
    ∷ call call_stop 1 0 zeros answers ok 0 0 0 zeros
    ∷ []

pub plays_cleaned_away : Plays (laid 0 (0 ∷ []) four_of) cleaned_away
unfolding request played laid_over step without enter from keep fold rows first refusal effect clean_buffer sum same given owner_of
plays_cleaned_away = refl

-- B waits for the semaphore; A's message is queued there and doesn't wake it: with A stopped nobody runs
abbrev pub not_by_message : List Exchange
not_by_message =
    call call_start 2 0 zeros answers ok 0 0 2 zeros
    ∷ call call_lower 1 0 zeros answers ok 0 0 0 zeros
    ∷ call call_start 1 0 zeros answers ok 0 0 1 zeros
    ∷ call call_send 2 0 zeros answers ok 0 1 1 zeros
    ∷ call call_stop 1 0 zeros answers ok 0 0 0 zeros
    ∷ []

pub plays_not_by_message : Plays (laid 0 (0 ∷ []) two) not_by_message
unfolding request played laid_over step without enter from keep fold rows first refusal effect clean_buffer sum same given owner_of
plays_not_by_message = refl

-- ---- reasons
-- 2 waits, and H raises
abbrev pub raised_once : Machine
raised_once = after (laid 0 (0 ∷ []) four_of) (Start 2 ∷ Lower 1 ∷ Start 1 ∷ Raise 1 ∷ [])

-- A wakes by its delay (reason 2) and lowers without waiting
abbrev pub woken_by_delay : List Request
woken_by_delay = call call_start 1 0 zeros ∷ call call_wait_event 1 0 zeros ∷ call call_tick 0 0 zeros ∷ []

-- "the longest waiter wakes with new reason 5, its LOWER done and not asked again"; RAISE leaves its caller's reason, and "An accepted LOWER
-- sets the caller's reason to 0"
pub record Reasons : Type 0 where
  pub woken : (raised_once.process 2 4 ≡ 1) × (raised_once.process 2 5 ≡ 5) × (raised_once.process 2 15 ≡ 0)
  pub counter : (raised_once.counter 1 ≡ 0) × (raised_once.waiters 1 ≡ [])
  pub raiser : (after (laid 0 (1 ∷ []) two) (woken_by_delay ++ (Raise 1 ∷ []))).process 1 5 ≡ 2
  pub lowerer : (after (laid 0 (1 ∷ []) two) (woken_by_delay ++ (Lower 1 ∷ []))).process 1 5 ≡ 0

pub reasons : Reasons
unfolding request laid_over step without enter from keep fold first refusal effect sum same given owner_of after
reasons = record { woken = (refl, refl, refl); counter = (refl, refl); raiser = refl; lowerer = refl }

-- ---- the words
-- A and then B wait for semaphore 1 of two: "FFFE, first and last waiter, zero", linked through process words 0 and 1, word 15 naming it
abbrev pub two_wait : List Request
two_wait = Start 1 ∷ Start 2 ∷ Lower 1 ∷ Lower 1 ∷ []

abbrev pub words_waiting : List ℕ
unfolding from
words_waiting =
    (2 ∷ 1 ∷ 0 ∷ 0 ∷ 0 ∷ 2 ∷ 0 ∷ 0 ∷ [])
    ++ map (λ d. 0) (from 0 64)
    ++ (2 ∷ 0 ∷ 0 ∷ 0 ∷ 5 ∷ 0 ∷ 0 ∷ 0 ∷ 0 ∷ 5 ∷ 1 ∷ 1 ∷ 0x4100 ∷ 0 ∷ 0 ∷ 1
    ∷ 0 ∷ 1 ∷ 0 ∷ 0 ∷ 5 ∷ 0 ∷ 0 ∷ 0 ∷ 0 ∷ 3 ∷ 0 ∷ 0 ∷ 0x4200 ∷ 0 ∷ 0 ∷ 1
    ∷ 0 ∷ 0 ∷ 1 ∷ 0 ∷ 0 ∷ 0 ∷ 0 ∷ 0 ∷ 0 ∷ 0
    ∷ 0xFFFE ∷ 1 ∷ 2 ∷ 0 ∷ 3 ∷ 0 ∷ 0 ∷ 0 ∷ [])

pub waiting_words : image (after (laid 0 (0 ∷ 3 ∷ []) two) two_wait) ≡ words_waiting
unfolding request image after laid_over step without enter from keep fold rows first refusal effect sum same given owner_of home
waiting_words = refl

-- ---- refusals
-- whatever stands where no semaphore is: 19 comes before 20
abbrev pub stale : Machine
stale = put_semaphore 2 32767 [] (after (laid 0 (1 ∷ []) two) (Start 1 ∷ []))

abbrev pub one_process : List ℕ
one_process = 5 ∷ 1 ∷ 0x4100 ∷ 0 ∷ 0 ∷ []

-- "More than 16, or a counter outside its range, is refused at layout with 11"; 12 counts four words each
pub record Refusals : Type 0 where
  pub no_semaphore : refusal stale (Raise 2) ≡ 19
  pub largest : layout_refusal one_process 0 (map (λ s. 32767) (from 1 16)) 162 ≡ 0
  pub too_short : layout_refusal one_process 0 (map (λ s. 32767) (from 1 16)) 161 ≡ 12
  pub too_many : layout_refusal one_process 0 (map (λ s. 0) (from 1 17)) 200 ≡ 11
  pub too_large : layout_refusal one_process 0 (0 ∷ 32768 ∷ []) 200 ≡ 11

pub refusals : Refusals
unfolding
    request laid_over step without enter from keep fold first refusal effect sum same given owner_of after
    entries fives each apart startable layout_refusal
refusals = record { no_semaphore = refl; largest = refl; too_short = refl; too_many = refl; too_large = refl }

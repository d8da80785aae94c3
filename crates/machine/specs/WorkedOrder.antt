-- Worked examples, further: readings an outsider would take another way, the second edition, ages, and how far entries walk, by computation.
-- Assumes nothing.
use Rattle.std.specs.Prelude.{◌≡◌, refl, List, [], ◌∷◌, ◌++◌, ℕ}
use Rattle.machine.specs.Numbers.{call_send, call_wait_answer, call_wait_event, call_send_answer, call_wait_interrupt, call_start, call_stop, call_tick}
use Rattle.machine.specs.Numbers.{call_interrupt, call_list, sent_to_oneself, no_free_buffer, device_taken}
use Rattle.machine.specs.Queue.{same, without, enter, passed, from, keep, fold}
use Rattle.machine.specs.Machine.{Machine, zeros, given}
use Rattle.machine.specs.Request.{Request, request}
use Rattle.machine.specs.Refusal.{first, refusal}
use Rattle.machine.specs.Step.{refused, rows, older, effect, step, after}
use Rattle.machine.specs.Walk.{Walk, effort, walk}
use Rattle.machine.specs.Layout.{Entry, laid_over, laid, sum, owner_of}
use Rattle.machine.specs.Worked.{Exchange, call, ◌answers◌, lists, ok, played, Plays, named, two, ask, reply, started}

-- ---- readings an outsider would take another way
-- A and B of one priority, A without a buffer
abbrev pub equals : List Entry
equals = named 4 0 0x4100 ∷ named 4 1 0x4200 ∷ []

-- row 8 stands above row 5; a wake goes behind its equals
abbrev pub in_order : List Exchange
in_order = started ++ (call call_send 1 0 ask answers refused sent_to_oneself ∷ call call_send 2 0 ask answers refused no_free_buffer ∷ [])

pub plays_in_order : Plays (laid 0 [] equals) in_order
unfolding request played laid_over step without enter from keep fold rows first refusal effect sum same given owner_of
plays_in_order = refl

-- A, the current, waits for an interrupt, and its wake goes in front of B
abbrev pub ahead : List Exchange
ahead = started ++ (call call_wait_interrupt 0 0 zeros answers ok 0 0 2 zeros ∷ call call_interrupt 0 0 zeros answers ok 1 0 1 zeros ∷ [])

pub plays_ahead : Plays (laid 0 [] equals) ahead
unfolding request played laid_over step without enter from keep fold rows first refusal effect sum same given owner_of
plays_ahead = refl

-- C above A and B
abbrev pub above : List Entry
above = equals ++ (named 5 0 0x4300 ∷ [])

-- three ticks: each gives the slice to the other
abbrev pub turns : List Exchange
turns =
    started
    ++ (call call_tick 0 0 zeros answers ok 0 0 2 zeros ∷ call call_tick 0 0 zeros answers ok 0 0 1 zeros
    ∷ call call_tick 0 0 zeros answers ok 0 0 2 zeros ∷ [])

pub plays_turns : Plays (laid 0 [] equals) turns
unfolding request played laid_over step without enter from keep fold rows first refusal effect sum same given owner_of
plays_turns = refl

-- a tick wakes A, and the current B goes behind it
abbrev pub equal_wakes : List Exchange
equal_wakes = started ++ (call call_wait_event 1 0 zeros answers ok 0 0 2 zeros ∷ call call_tick 0 0 zeros answers ok 1 0 1 zeros ∷ [])

pub plays_equal_wakes : Plays (laid 0 [] equals) equal_wakes
unfolding request played laid_over step without enter from keep fold rows first refusal effect sum same given owner_of
plays_equal_wakes = refl

-- a tick wakes A and then B
abbrev pub both_wake : List Exchange
both_wake =
    started
    ++ (call call_wait_event 1 0 zeros answers ok 0 0 2 zeros ∷ call call_wait_event 1 0 zeros answers ok 0 0 0 zeros
    ∷ call call_tick 0 0 zeros answers ok 2 0 1 zeros ∷ [])

pub plays_both_wake : Plays (laid 0 [] equals) both_wake
unfolding request played laid_over step without enter from keep fold rows first refusal effect sum same given owner_of
plays_both_wake = refl

-- with nobody running there is nothing to move; who is woken then isn't moved
abbrev pub nobody_runs : List Exchange
nobody_runs =
    call call_tick 0 0 zeros answers ok 0 0 0 zeros
    ∷ call call_start 1 0 zeros answers ok 0 0 1 zeros
    ∷ call call_wait_event 1 0 zeros answers ok 0 0 0 zeros
    ∷ call call_tick 0 0 zeros answers ok 1 0 1 zeros
    ∷ []

pub plays_nobody_runs : Plays (laid 0 [] equals) nobody_runs
unfolding request played laid_over step without enter from keep fold rows first refusal effect sum same given owner_of
plays_nobody_runs = refl

-- a tick that wakes C moves the current B behind A all the same
abbrev pub higher_wakes : List Exchange
higher_wakes =
    started
    ++ (call call_tick 0 0 zeros answers ok 0 0 2 zeros
    ∷ call call_start 3 0 zeros answers ok 0 0 3 zeros
    ∷ call call_wait_event 1 0 zeros answers ok 0 0 2 zeros
    ∷ call call_tick 0 0 zeros answers ok 1 0 3 zeros
    ∷ call call_stop 3 0 zeros answers ok 0 0 1 zeros
    ∷ [])

pub plays_higher_wakes : Plays (laid 0 [] above) higher_wakes
unfolding request played laid_over step without enter from keep fold rows first refusal effect sum same given owner_of
plays_higher_wakes = refl

-- H, and A, B and C below it of one priority
abbrev pub four_of : List Entry
four_of = named 5 0 0x4800 ∷ named 4 0 0x4100 ∷ named 4 0 0x4200 ∷ named 4 0 0x4300 ∷ []

-- A and B wait for interrupts, C and then H run. An interrupt's wake goes between H and C, and one after it in front of the first: as each
-- is stopped the next is current
abbrev pub between : List Exchange
between =
    call call_start 2 0 zeros answers ok 0 0 2 zeros
    ∷ call call_start 3 0 zeros answers ok 0 0 2 zeros
    ∷ call call_start 4 0 zeros answers ok 0 0 2 zeros
    ∷ call call_wait_interrupt 0 0 zeros answers ok 0 0 3 zeros
    ∷ call call_wait_interrupt 1 0 zeros answers ok 0 0 4 zeros
    ∷ call call_start 1 0 zeros answers ok 0 0 1 zeros
    ∷ call call_interrupt 0 0 zeros answers ok 2 0 1 zeros
    ∷ call call_interrupt 1 0 zeros answers ok 3 0 1 zeros
    ∷ call call_stop 1 0 zeros answers ok 0 0 3 zeros
    ∷ call call_stop 3 0 zeros answers ok 0 0 2 zeros
    ∷ call call_stop 2 0 zeros answers ok 0 0 4 zeros
    ∷ []

pub plays_between : Plays (laid 0 [] four_of) between
unfolding request played laid_over step without enter from keep fold rows first refusal effect sum same given owner_of
plays_between = refl

-- "leaves the running queue and enters again" is no wake: A, woken by its delay, keeps that reason when a tick moves it behind B
abbrev pub moved : List Request
moved = call call_start 1 0 zeros ∷ call call_wait_event 1 0 zeros ∷ call call_tick 0 0 zeros ∷ call call_start 2 0 zeros ∷ call call_tick 0 0 zeros ∷ []

pub moved_keeps : ((after (laid 0 [] equals) moved).running ≡ 2 ∷ 1 ∷ []) × ((after (laid 0 [] equals) moved).process 1 5 ≡ 2)
unfolding request after laid_over step without enter from keep fold rows first refusal effect sum same given owner_of
moved_keeps = (refl, refl)

-- ---- the second edition
-- without a waiter: in edition 1 the interrupt is kept, a further one changes nothing, the next 05 has it at once, and the one after
-- waits; in edition 0 it is lost
abbrev pub early : List Exchange
early =
    call call_interrupt 7 0 zeros answers ok 0 0 1 zeros
    ∷ call call_interrupt 7 0 zeros answers ok 0 0 1 zeros
    ∷ call call_wait_interrupt 7 9 zeros answers ok 3 0 1 zeros
    ∷ call call_wait_interrupt 7 0 zeros answers ok 0 0 2 zeros
    ∷ call call_wait_interrupt 7 0 zeros answers refused device_taken
    ∷ call call_interrupt 7 0 zeros answers ok 1 0 1 zeros
    ∷ []

pub plays_early : Plays (laid 1 [] two) (started ++ early)
unfolding request played laid_over step without enter from keep fold rows first refusal effect sum same given owner_of
plays_early = refl

abbrev pub lost : List Exchange
lost = call call_interrupt 7 0 zeros answers ok 0 0 1 zeros ∷ call call_wait_interrupt 7 0 zeros answers ok 0 0 2 zeros ∷ []

pub plays_lost : Plays (laid 0 [] two) (started ++ lost)
unfolding request played laid_over step without enter from keep fold rows first refusal effect sum same given owner_of
plays_lost = refl

-- ---- ages
-- ticks count from the send, through every standing; freed and sent again, the buffer is young again
abbrev pub ages : List Exchange
ages =
    call call_tick 0 0 zeros answers ok 0 0 1 zeros
    ∷ call call_send 2 0 ask answers ok 0 1 1 zeros
    ∷ call call_tick 0 0 zeros answers ok 0 0 1 zeros
    ∷ call call_wait_answer 1 0 zeros answers ok 0 0 2 zeros
    ∷ call call_wait_event 0 0 zeros answers ok 1 1 2 ask
    ∷ call call_send_answer 1 0 reply answers ok 0 0 1 zeros
    ∷ call call_tick 0 0 zeros answers ok 0 0 1 zeros
    ∷ (lists (call call_list 2 0 zeros) (ok 1 0 1 zeros) (1 ∷ 1 ∷ 2 ∷ 3 ∷ 2 ∷ []))
    ∷ call call_wait_answer 1 0 zeros answers ok 2 1 1 reply
    ∷ call call_send 2 0 ask answers ok 0 1 1 zeros
    ∷ (lists (call call_list 1 0 zeros) (ok 1 0 1 zeros) (1 ∷ 1 ∷ 2 ∷ 1 ∷ 0 ∷ []))
    ∷ []

pub plays_ages : Plays (laid 0 [] two) (started ++ ages)
unfolding request played laid_over step without enter from keep fold rows first refusal effect sum same given owner_of
plays_ages = refl

pub oldest : (older 1 65534 ≡ 65535) × (older 1 65535 ≡ 65535)
oldest = (refl, refl)

-- ---- how far entries walk
-- the calls' walks, one after the other
unfoldable pub walks : Machine → List Request → List Walk
walks m [] = []
walks m (r ∷ l) = walk m r ∷ walks (step m r).machine l

abbrev pub far : ℕ → ℕ → ℕ → ℕ → Walk
far entries passed most moved = record { entries = entries; passed = passed; most = most; moved = moved }

-- each start passes the equal; a tick's move passes it too; A woken by interrupt passes C only; C and A wait for a delay of 1,
-- and A's wake passes B, C's nobody, and then B's move both; a refused start
abbrev pub ways : List Request
ways =
    call call_start 1 0 zeros ∷ call call_start 2 0 zeros ∷ call call_stop 1 0 zeros ∷ call call_start 1 0 zeros ∷ call call_tick 0 0 zeros
    ∷ call call_wait_interrupt 0 0 zeros ∷ call call_start 3 0 zeros ∷ call call_interrupt 0 0 zeros
    ∷ call call_wait_event 1 0 zeros ∷ call call_wait_event 1 0 zeros ∷ call call_tick 0 0 zeros ∷ call call_start 3 0 zeros ∷ []

pub far_enough : walks (laid 0 [] above) ways ≡
    far 1 0 0 0 ∷ far 1 1 1 0 ∷ far 0 0 0 0 ∷ far 1 1 1 0 ∷ far 0 0 0 1
    ∷ far 0 0 0 0 ∷ far 1 0 0 0 ∷ far 1 1 1 0
    ∷ far 0 0 0 0 ∷ far 0 0 0 0 ∷ far 2 1 1 2 ∷ far 0 0 0 0 ∷ []
unfolding request walks walk effort passed laid_over step without enter from keep fold rows first refusal effect sum same given owner_of
far_enough = refl

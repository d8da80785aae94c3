-- Worked examples of what no other run would notice: words, reasons, orders and refusals at the edges of the calls, and the walks of 01, 04 and 0D, by
-- computation. Assumes nothing.
use Rattle.std.specs.Prelude.{◌≡◌, refl, List, [], ◌∷◌, ◌++◌, ℕ}
use Rattle.machine.specs.Numbers.{reason_none, reason_event, reason_delay, call_send, call_wait_answer, call_wait_event, call_send_answer}
use Rattle.machine.specs.Numbers.{call_wait_interrupt, call_start, call_stop, call_clean, call_tick, call_interrupt, call_list, call_lower, call_raise}
use Rattle.machine.specs.Numbers.{wrong_buffer, wrong_state, room_too_short, edition_first, edition_second}
use Rattle.machine.specs.Queue.{same, without, enter, passed, from, keep, fold}
use Rattle.machine.specs.Machine.{four, zeros, given, message, reason}
use Rattle.machine.specs.Moves.{clean_buffer}
use Rattle.machine.specs.Request.{Request, request}
use Rattle.machine.specs.Refusal.{first, refusal}
use Rattle.machine.specs.Step.{refused, rows, effect, step, after}
use Rattle.machine.specs.Walk.{effort, walk}
use Rattle.machine.specs.Layout.{Entry, laid_over, laid, sum, owner_of}
use Rattle.machine.specs.Worked.{Exchange, call, ◌answers◌, lists, ok, played, Plays, named, two, pair, ask, reply, started}
use Rattle.machine.specs.WorkedOrder.{walks, far}

-- ---- answers and refusals
-- "answered with 8000 hex and three zeros", "by rising number": A has sent both its buffers to B, and finds the answers in that order
abbrev pub taken_back : List Exchange
taken_back =
    call call_send 2 0 ask answers ok 0 1 1 zeros
    ∷ call call_send 2 0 ask answers ok 0 2 1 zeros
    ∷ call call_clean 2 0 zeros answers ok 2 0 1 zeros
    ∷ call call_wait_event 0 0 zeros answers ok 2 1 1 (four 0x8000 0 0 0)
    ∷ call call_wait_event 0 0 zeros answers ok 2 2 1 (four 0x8000 0 0 0)
    ∷ []

pub plays_taken_back : Plays (laid 0 [] pair) (started ++ taken_back)
unfolding request played laid_over step without enter from keep fold rows first refusal effect clean_buffer sum same given owner_of
plays_taken_back = refl

-- a delay of 2 ends at the second tick
abbrev pub two_ticks : List Exchange
two_ticks =
    call call_wait_event 2 0 zeros answers ok 0 0 2 zeros
    ∷ call call_tick 0 0 zeros answers ok 0 0 2 zeros
    ∷ call call_tick 0 0 zeros answers ok 1 0 1 zeros
    ∷ []

pub plays_two_ticks : Plays (laid 0 [] two) (started ++ two_ticks)
unfolding request played laid_over step without enter from keep fold rows first refusal effect sum same given owner_of
plays_two_ticks = refl

-- "Receiver a: .. 3 stays": B has answered, and is cleaned; A collects what it said
abbrev pub answer_stays : List Exchange
answer_stays =
    call call_send 2 0 ask answers ok 0 1 1 zeros
    ∷ call call_wait_answer 1 0 zeros answers ok 0 0 2 zeros
    ∷ call call_wait_event 0 0 zeros answers ok 1 1 2 ask
    ∷ call call_send_answer 1 0 reply answers ok 0 0 1 zeros
    ∷ call call_clean 2 0 zeros answers ok 0 0 1 zeros
    ∷ call call_wait_answer 1 0 zeros answers ok 2 1 1 reply
    ∷ []

pub plays_answer_stays : Plays (laid 0 [] two) (started ++ answer_stays)
unfolding request played laid_over step without enter from keep fold rows first refusal effect clean_buffer sum same given owner_of
plays_answer_stays = refl

-- A's buffer is orphaned: A, cleaned again, leaves it so; A may not wait for it; and B's answer frees it, whatever it says
abbrev pub orphan : List Exchange
orphan =
    call call_send 2 0 ask answers ok 0 1 1 zeros
    ∷ call call_wait_event 0 0 zeros answers ok 0 0 2 zeros
    ∷ call call_wait_event 0 0 zeros answers ok 1 1 2 ask
    ∷ call call_clean 1 0 zeros answers ok 1 0 2 zeros
    ∷ call call_clean 1 0 zeros answers ok 0 0 2 zeros
    ∷ call call_start 1 0 zeros answers ok 0 0 1 zeros
    ∷ call call_wait_answer 1 0 zeros answers refused wrong_buffer
    ∷ call call_wait_event 0 0 zeros answers ok 0 0 2 zeros
    ∷ call call_send_answer 1 0 reply answers ok 0 0 2 zeros
    ∷ (lists (call call_list 2 0 zeros) (ok 0 0 2 zeros) [])
    ∷ []

pub plays_orphan : Plays (laid 0 [] two) (started ++ orphan)
unfolding request played laid_over step without enter from keep fold rows first refusal effect clean_buffer sum same given owner_of
plays_orphan = refl

-- "caller not receiver": A may not answer what B holds; a process that waits may not be started
abbrev pub not_yours : List Exchange
not_yours =
    call call_send 2 0 ask answers ok 0 1 1 zeros
    ∷ call call_wait_event 1 0 zeros answers ok 0 0 2 zeros
    ∷ call call_start 1 0 zeros answers refused wrong_state
    ∷ call call_wait_event 0 0 zeros answers ok 1 1 2 ask
    ∷ call call_tick 0 0 zeros answers ok 1 0 1 zeros
    ∷ call call_send_answer 1 0 reply answers refused wrong_buffer
    ∷ []

pub plays_not_yours : Plays (laid 0 [] two) (started ++ not_yours)
unfolding request played laid_over step without enter from keep fold rows first refusal effect sum same given owner_of
plays_not_yours = refl

-- "five words each": a listing of one row with room for four words, and for five
abbrev pub room_for : ℕ → Request
unfolding request
room_for n = request 11 1 0 zeros n

abbrev pub narrow : List Exchange
narrow =
    call call_send 2 0 ask answers ok 0 1 1 zeros
    ∷ room_for 4 answers refused room_too_short
    ∷ (lists (room_for 5) (ok 1 0 1 zeros) (1 ∷ 1 ∷ 2 ∷ 1 ∷ 0 ∷ []))
    ∷ []

pub plays_narrow : Plays (laid 0 [] two) (started ++ narrow)
unfolding request played laid_over step without enter from keep fold rows first refusal effect sum same given owner_of
plays_narrow = refl

-- ---- reasons
-- A and B with a buffer each
abbrev pub owners : List Entry
owners = named 5 1 0x4100 ∷ named 3 1 0x4200 ∷ []

abbrev pub reason_of : ℕ → List Entry → List Request → ℕ
reason_of edition list calls = reason (after (laid edition [] list) calls) 1

-- A waits for an event, and B's message wakes it
abbrev pub woken_by_message : List Request
woken_by_message = call call_start 1 0 zeros ∷ call call_start 2 0 zeros ∷ call call_wait_event 0 0 zeros ∷ call call_send 1 0 ask ∷ []

-- B answers what A waits for
abbrev pub woken_by_answer : List Request
woken_by_answer = call call_start 1 0 zeros ∷ call call_start 2 0 zeros ∷ call call_send 2 0 ask ∷ call call_wait_answer 1 0 zeros
    ∷ call call_wait_event 0 0 zeros ∷ call call_send_answer 1 0 reply ∷ []

-- A's delay ends, and an interrupt is kept
abbrev pub woken_by_delay : List Request
woken_by_delay = call call_start 1 0 zeros ∷ call call_wait_event 1 0 zeros ∷ call call_tick 0 0 zeros ∷ call call_interrupt 7 0 zeros ∷ []

-- "reason 1", of a send's and of an answer's wake; "Accepted 02, 03, 05 set the caller's reason to 0", those that return at once too
pub reasons :
    (reason_of edition_first owners woken_by_message ≡ reason_event)
    × (reason_of edition_first owners (woken_by_message ++ (call call_wait_event 0 0 zeros ∷ [])) ≡ reason_none)
    × (reason_of edition_first owners woken_by_answer ≡ reason_event)
    × (reason_of edition_first owners (woken_by_answer ++ (call call_wait_answer 1 0 zeros ∷ [])) ≡ reason_none)
    × (reason_of edition_second owners woken_by_delay ≡ reason_delay)
    × (reason_of edition_second owners (woken_by_delay ++ (call call_wait_interrupt 7 0 zeros ∷ [])) ≡ reason_none)
unfolding request after laid_over step without enter from keep fold rows first refusal effect sum same given owner_of
reasons = (refl, refl, refl, refl, refl, refl)

-- ---- words
-- B holds A's message, A is cleaned, and B answers: the buffer is free, and its words are 0
abbrev pub orphan_answered : List Request
orphan_answered = call call_start 1 0 zeros ∷ call call_start 2 0 zeros ∷ call call_send 2 0 ask ∷ call call_wait_event 0 0 zeros
    ∷ call call_wait_event 0 0 zeros ∷ call call_clean 1 0 zeros ∷ call call_send_answer 1 0 reply ∷ []

pub orphan_words : (message (after (laid 0 [] two) orphan_answered) 1 ≡ zeros) × ((after (laid 0 [] two) orphan_answered).buffer 1 4 ≡ 0)
unfolding request after laid_over step without enter from keep fold rows first refusal effect clean_buffer sum same given owner_of
orphan_words = (refl, refl)

-- ---- walks
-- three of one priority, with a buffer each
abbrev pub crowd : List Entry
crowd = named 4 1 0x4100 ∷ named 4 1 0x4200 ∷ named 4 1 0x4300 ∷ []

-- A waits for an event, B and C run, and B's message wakes A behind both; A asks B and waits, and B's answer wakes it behind both
abbrev pub messages : List Request
messages =
    call call_start 1 0 zeros ∷ call call_wait_event 0 0 zeros ∷ call call_start 2 0 zeros ∷ call call_start 3 0 zeros ∷ call call_send 1 0 ask
    ∷ call call_stop 2 0 zeros ∷ call call_stop 3 0 zeros ∷ call call_wait_event 0 0 zeros ∷ call call_send 2 0 ask ∷ call call_wait_answer 1 0 zeros
    ∷ call call_start 3 0 zeros ∷ call call_start 2 0 zeros ∷ call call_stop 3 0 zeros ∷ call call_wait_event 0 0 zeros ∷ call call_start 3 0 zeros
    ∷ call call_send_answer 1 0 reply ∷ []

pub walks_of_messages : walks (laid 0 [] crowd) messages ≡
    far 1 0 0 0 ∷ far 0 0 0 0 ∷ far 1 0 0 0 ∷ far 1 1 1 0 ∷ far 1 2 2 0
    ∷ far 0 0 0 0 ∷ far 0 0 0 0 ∷ far 0 0 0 0 ∷ far 0 0 0 0 ∷ far 0 0 0 0
    ∷ far 1 0 0 0 ∷ far 1 1 1 0 ∷ far 0 0 0 0 ∷ far 0 0 0 0 ∷ far 1 1 1 0 ∷ far 1 2 2 0 ∷ []
unfolding request walks walk effort passed laid_over step without enter from keep fold rows first refusal effect sum same given owner_of
walks_of_messages = refl

-- A waits for a semaphore at 0, B runs with C, and its RAISE wakes A behind both
abbrev pub raises : List Request
raises = call call_start 1 0 zeros ∷ call call_lower 1 0 zeros ∷ call call_start 2 0 zeros ∷ call call_start 3 0 zeros ∷ call call_raise 1 0 zeros
    ∷ call call_raise 1 0 zeros ∷ []

pub walks_of_raises : walks (laid 0 (0 ∷ []) crowd) raises ≡ far 1 0 0 0 ∷ far 0 0 0 0 ∷ far 1 0 0 0 ∷ far 1 1 1 0 ∷ far 1 2 2 0 ∷ far 0 0 0 0 ∷ []
unfolding request walks walk effort passed laid_over step without enter from keep fold rows first refusal effect sum same given owner_of
walks_of_raises = refl

-- Logs read by the nine lines of 'Reading a log': for each line a log that ends by it, and what that log leaves open with process 1. Assumes nothing.
use Rattle.std.specs.Prelude.{◌≡◌, refl, List, [], ◌∷◌, ◌++◌, ℕ}
use Rattle.machine.specs.Numbers.{call_send, call_wait_answer, call_wait_event, call_send_answer, call_start, call_stop, call_clean, call_tick}
use Rattle.machine.specs.Queue.{same, from, keep}
use Rattle.machine.specs.Machine.{Words, four, zeros}
use Rattle.machine.specs.Request.{request}
use Rattle.machine.specs.Step.{Answer}
use Rattle.machine.specs.Layout.{Entry, sum, owner_of}
use Rattle.machine.specs.Log.{Call, Log, talk_of, move, read, left, open_with, listed}

-- process 1 has buffers 1 and 2, process 2 has none
abbrev pub two : List Entry
two =
    record { priority = 5; owns = 2; name₀ = 0x4100; name₁ = 0; name₂ = 0 } ∷ record { priority = 3; owns = 0; name₀ = 0x4200; name₁ = 0; name₂ = 0 } ∷ []

-- call number n with part a, and its answer
abbrev called : ℕ → ℕ → Answer → Call
called n a r = record { number = n; a = a; b = 0; words = four 1 2 3 4; room = 0; answer = r }

abbrev answers : ℕ → ℕ → ℕ → Words → Answer
answers kind b now ws = record { number = 0; kind = kind; buffer = b; current = now; words = ws }

-- nothing but the current process
abbrev plain : ℕ → Answer
plain now = answers 0 0 now zeros

-- a clean that changes one standing
abbrev cleaned : ℕ → ℕ → Call
cleaned a now = called call_clean a (answers 1 0 now zeros)

-- ---- the logs, each with its last call
-- 1 sends to 2: queued
abbrev pub sent : List Call
sent = called call_start 1 (plain 1) ∷ called call_start 2 (plain 1) ∷ called call_send 2 (answers 0 1 1 zeros) ∷ []

-- and once more, in its other buffer
abbrev pub sent_twice : List Call
sent_twice = sent ++ (called call_send 2 (answers 0 2 1 zeros) ∷ [])

-- 1 waits for the answer, and 2 takes the message: held
abbrev pub taken : List Call
taken = sent ++ (called call_wait_answer 1 (plain 2) ∷ called call_wait_event 0 (answers 1 1 2 (four 1 2 3 4)) ∷ [])

-- 2 answers
abbrev pub answered : List Call
answered = taken ++ (called call_send_answer 1 (plain 1) ∷ [])

-- 1 is cleaned while 2 holds the message
abbrev pub orphaned : List Call
orphaned = taken ++ (cleaned 1 2 ∷ [])

-- 1 is stopped, 2 takes the message, 1 is started and answers its own message, which is refused
abbrev pub refused : List Call
refused =
    sent ++ (called call_stop 1 (plain 2) ∷ called call_wait_event 0 (answers 1 1 2 (four 1 2 3 4)) ∷ called call_start 1 (plain 1)
    ∷ called call_send_answer 1 (record { number = 6; kind = 0; buffer = 0; current = 0; words = zeros }) ∷ [])

-- 1 collects the answer, by 02 and by 03
abbrev pub collected : List Call
collected = answered ++ (called call_wait_answer 1 (answers 2 1 1 (four 1 2 3 4)) ∷ [])

abbrev pub collected_by_03 : List Call
collected_by_03 = answered ++ (called call_wait_event 0 (answers 2 1 1 (four 1 2 3 4)) ∷ [])

-- 2 answers the orphan
abbrev pub orphan_answered : List Call
orphan_answered = orphaned ++ (called call_send_answer 1 (plain 2) ∷ [])

-- the owner is cleaned, of a queued and of an answered one
abbrev pub owner_gone : List Call
owner_gone = sent ++ (cleaned 1 2 ∷ [])

abbrev pub owner_gone_answered : List Call
owner_gone_answered = answered ++ (cleaned 1 2 ∷ [])

-- the receiver is cleaned, of a queued, a held and an orphaned one
abbrev pub receiver_gone : List Call
receiver_gone = sent ++ (cleaned 2 1 ∷ [])

abbrev pub receiver_gone_held : List Call
receiver_gone_held = taken ++ (cleaned 2 1 ∷ [])

abbrev pub orphan_gone : List Call
orphan_gone = orphaned ++ (cleaned 2 0 ∷ [])

-- the receiver is stopped; ticks before the send, and after it in two standings
abbrev pub stopped : List Call
stopped = sent ++ (called call_stop 2 (plain 1) ∷ called call_tick 0 (plain 1) ∷ [])

abbrev pub ticked : List Call
ticked = called call_tick 0 (plain 0) ∷ sent ++ (called call_tick 0 (plain 1) ∷ cleaned 2 1 ∷ called call_tick 0 (plain 1) ∷ [])

-- all of them
abbrev pub logs : List (List Call)
logs =
    sent ∷ sent_twice ∷ taken ∷ collected ∷ collected_by_03 ∷ answered ∷ orphan_answered ∷ owner_gone
    ∷ owner_gone_answered ∷ orphaned ∷ receiver_gone ∷ receiver_gone_held ∷ orphan_gone ∷ refused ∷ stopped ∷ ticked ∷ []

-- the log of these calls
abbrev pub log_of : List Call → Log
log_of calls = record { list = two; calls = calls }

-- these calls leave process 1 this listing
abbrev pub Leaves : List Call → List ℕ → Type 0
Leaves calls listing = listed (left (log_of calls)) (open_with (log_of calls) 1) ≡ listing

-- ---- the nine lines, a statement for each log
-- (1), of the buffer answered and no other
pub sends : Leaves sent (1 ∷ 1 ∷ 2 ∷ 1 ∷ 0 ∷ [])
unfolding request move read keep from same owner_of sum listed
sends = refl

pub sends_twice : Leaves sent_twice (1 ∷ 1 ∷ 2 ∷ 1 ∷ 0 ∷ 2 ∷ 1 ∷ 2 ∷ 1 ∷ 0 ∷ [])
unfolding request move read keep from same owner_of sum listed
sends_twice = refl

-- (2)
pub takes : Leaves taken (1 ∷ 1 ∷ 2 ∷ 2 ∷ 0 ∷ [])
unfolding request move read keep from same owner_of sum listed
takes = refl

-- (3), by 02 and by 03
pub collects : Leaves collected []
unfolding request move read keep from same owner_of sum listed
collects = refl

pub collects_by_03 : Leaves collected_by_03 []
unfolding request move read keep from same owner_of sum listed
collects_by_03 = refl

-- (4)
pub answers_held : Leaves answered (1 ∷ 1 ∷ 2 ∷ 3 ∷ 0 ∷ [])
unfolding request move read keep from same owner_of sum listed
answers_held = refl

-- (5)
pub answers_orphan : Leaves orphan_answered []
unfolding request move read keep from same owner_of sum listed
answers_orphan = refl

-- (6), queued and answered
pub owner_cleaned : Leaves owner_gone []
unfolding request move read keep from same owner_of sum listed
owner_cleaned = refl

pub owner_cleaned_answered : Leaves owner_gone_answered []
unfolding request move read keep from same owner_of sum listed
owner_cleaned_answered = refl

-- (7)
pub owner_cleaned_held : Leaves orphaned (1 ∷ 1 ∷ 2 ∷ 4 ∷ 0 ∷ [])
unfolding request move read keep from same owner_of sum listed
owner_cleaned_held = refl

-- (8), queued and held
pub receiver_cleaned : Leaves receiver_gone (1 ∷ 1 ∷ 2 ∷ 3 ∷ 0 ∷ [])
unfolding request move read keep from same owner_of sum listed
receiver_cleaned = refl

pub receiver_cleaned_held : Leaves receiver_gone_held (1 ∷ 1 ∷ 2 ∷ 3 ∷ 0 ∷ [])
unfolding request move read keep from same owner_of sum listed
receiver_cleaned_held = refl

-- (9)
pub orphan_cleaned : Leaves orphan_gone []
unfolding request move read keep from same owner_of sum listed
orphan_cleaned = refl

-- "Only accepted calls count"
pub refused_counts_not : Leaves refused (1 ∷ 1 ∷ 2 ∷ 2 ∷ 0 ∷ [])
unfolding request move read keep from same owner_of sum listed
refused_counts_not = refl

-- "Nothing else moves it": stop; and the ticks since the send count, through every standing
pub stop_moves_nothing : Leaves stopped (1 ∷ 1 ∷ 2 ∷ 1 ∷ 1 ∷ [])
unfolding request move read keep from same owner_of sum listed
stop_moves_nothing = refl

pub ticks_count : Leaves ticked (1 ∷ 1 ∷ 2 ∷ 3 ∷ 2 ∷ [])
unfolding request move read keep from same owner_of sum listed
ticks_count = refl

-- one tick more after many
pub worked_age : read 1 (talk_of 1 2 1 65534) (called call_tick 0 (plain 1) ∷ called call_tick 0 (plain 1) ∷ []) ≡ talk_of 1 2 1 65535
unfolding request move read
worked_age = refl

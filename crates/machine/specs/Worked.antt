-- Worked examples: the worked run, its words, and the slips that docs/MONITOR.md, 6 warns of, all by computation. Assumes nothing.
use Rattle.std.specs.Prelude.{◌≡◌, refl, List, [], ◌∷◌, ◌++◌, map, ℕ}
use Rattle.machine.specs.Numbers.{call_send, call_wait_answer, call_wait_event, call_send_answer, call_wait_interrupt, call_start, call_stop}
use Rattle.machine.specs.Numbers.{call_clean, call_tick, call_interrupt, call_list, sent_to_oneself, no_free_buffer, wrong_buffer}
use Rattle.machine.specs.Queue.{same, without, enter, from, keep, fold}
use Rattle.machine.specs.Machine.{Machine, Words, four, zeros, given}
use Rattle.machine.specs.Moves.{clean_buffer}
use Rattle.machine.specs.Request.{Request, request}
use Rattle.machine.specs.Refusal.{first, refusal}
use Rattle.machine.specs.Step.{Answer, Outcome, refused, rows, effect, step, after}
use Rattle.machine.specs.Layout.{Entry, laid_over, laid, sum, owner_of}
use Rattle.machine.specs.Words.{image, home}

-- ---- a table of calls
-- a call, what it answers, and what it lists
pub record Exchange : Type 0 where
  pub asked : Request
  pub answer : Answer
  pub listing : List ℕ

-- call number k with parts a, b and ws, room for 128 rows
abbrev pub call : ℕ → ℕ → ℕ → Words → Request
unfolding request
call k a b ws = request k a b ws 640

infix 70 ◌answers◌
abbrev pub ◌answers◌ : Request → Answer → Exchange
r answers s = record { asked = r; answer = s; listing = [] }

abbrev pub lists : Request → Answer → List ℕ → Exchange
lists r s l = record { asked = r; answer = s; listing = l }

-- number 0, kind, buffer, current, words
abbrev pub ok : ℕ → ℕ → ℕ → Words → Answer
ok kind b now ws = record { number = 0; kind = kind; buffer = b; current = now; words = ws }

-- the exchanges as the machine answers them, one after the other
unfoldable pub played : Machine → List Exchange → List Exchange
played m [] = []
played m (l ∷ ls) =
    let o : Outcome = step m l.asked in
    record { asked = l.asked; answer = o.answer; listing = o.listing } ∷ played o.machine ls

-- the machine answers and lists as the exchanges say; each run below has a statement of its own, by whose name a wrong one is told
abbrev pub Plays : Machine → List Exchange → Type 0
Plays m run = played m run ≡ run

-- ---- the worked run
abbrev pub named : ℕ → ℕ → ℕ → Entry
named priority owns letter = record { priority = priority; owns = owns; name₀ = letter; name₁ = 0; name₂ = 0 }

-- A of priority 5 with one buffer, B of priority 3 with none
abbrev pub two : List Entry
two = named 5 1 0x4100 ∷ named 3 0 0x4200 ∷ []

abbrev pub ask : Words
ask = four 0x1111 0x2222 0x3333 0x4444

abbrev pub reply : Words
reply = four 0 10 0 0

abbrev pub seven : List Exchange
seven =
    call call_start 1 0 zeros answers ok 0 0 1 zeros
    ∷ call call_start 2 0 zeros answers ok 0 0 1 zeros
    ∷ call call_send 2 0 ask answers ok 0 1 1 zeros
    ∷ call call_wait_answer 1 0 zeros answers ok 0 0 2 zeros
    ∷ call call_wait_event 0 0 zeros answers ok 1 1 2 ask
    ∷ call call_send_answer 1 0 reply answers ok 0 0 1 zeros
    ∷ (lists (call call_list 1 0 zeros) (ok 1 0 1 zeros) (1 ∷ 1 ∷ 2 ∷ 3 ∷ 0 ∷ []))
    ∷ []

-- collecting; a send to oneself; the conversation once more, and 04 repeated by its receiver while the owner is stopped;
-- a tick at delay 1; the owner cleaned while its buffer is held
abbrev pub further : List Exchange
further =
    call call_wait_answer 1 0 zeros answers ok 2 1 1 reply
    ∷ call call_send 1 0 ask answers refused sent_to_oneself
    ∷ call call_send 2 0 ask answers ok 0 1 1 zeros
    ∷ call call_wait_answer 1 0 zeros answers ok 0 0 2 zeros
    ∷ call call_wait_event 0 0 zeros answers ok 1 1 2 ask
    ∷ call call_send_answer 1 0 reply answers ok 0 0 1 zeros
    ∷ call call_stop 1 0 zeros answers ok 0 0 2 zeros
    ∷ call call_send_answer 1 0 reply answers refused wrong_buffer
    ∷ call call_wait_event 1 0 zeros answers ok 0 0 0 zeros
    ∷ call call_tick 0 0 zeros answers ok 1 0 2 zeros
    ∷ call call_start 1 0 zeros answers ok 0 0 1 zeros
    ∷ call call_wait_event 0 0 zeros answers ok 2 1 1 reply
    ∷ call call_send 2 0 ask answers ok 0 1 1 zeros
    ∷ call call_wait_event 0 0 zeros answers ok 0 0 2 zeros
    ∷ call call_wait_event 0 0 zeros answers ok 1 1 2 ask
    ∷ call call_clean 1 0 zeros answers ok 1 0 2 zeros
    ∷ (lists (call call_list 2 0 zeros) (ok 1 0 2 zeros) (1 ∷ 1 ∷ 2 ∷ 4 ∷ 0 ∷ []))
    ∷ []

pub worked : Plays (laid 0 [] two) (seven ++ further)
unfolding request played laid_over step without enter from keep fold rows first refusal effect clean_buffer sum same given owner_of
worked = refl

-- ---- the words of the table after the run of seven
abbrev pub idle_devices : List ℕ
idle_devices = map (λ d. 0) (from 0 64)

abbrev pub words_after : List ℕ
words_after =
    (2 ∷ 1 ∷ 1 ∷ 2 ∷ 0 ∷ 0 ∷ 0 ∷ 0 ∷ idle_devices)
    ++ (2 ∷ 0 ∷ 1 ∷ 1 ∷ 1 ∷ 1 ∷ 0 ∷ 0 ∷ 0 ∷ 5 ∷ 1 ∷ 1 ∷ 0x4100 ∷ 0 ∷ 0 ∷ 0
    ∷ 0 ∷ 1 ∷ 0 ∷ 0 ∷ 1 ∷ 0 ∷ 0 ∷ 0 ∷ 0 ∷ 3 ∷ 0 ∷ 0 ∷ 0x4200 ∷ 0 ∷ 0 ∷ 0
    ∷ 0 ∷ 0 ∷ 1 ∷ 2 ∷ 3 ∷ 0 ∷ 0 ∷ 10 ∷ 0 ∷ 0 ∷ [])

pub worked_words : image (after (laid 0 [] two) (map (λ (l : Exchange). l.asked) seven)) ≡ words_after
unfolding request image after laid_over step without enter from keep fold rows first refusal effect sum same given owner_of home
worked_words = refl

-- ---- slips to guard against, each as a run whose answer the slip would change
-- A with two buffers, B
abbrev pub pair : List Entry
pair = named 5 2 0x4100 ∷ named 3 0 0x4200 ∷ []

abbrev pub started : List Exchange
started = call call_start 1 0 zeros answers ok 0 0 1 zeros ∷ call call_start 2 0 zeros answers ok 0 0 1 zeros ∷ []

-- "Freeing a held buffer when its owner is cleaned": then the send would be given buffer 1 again
abbrev pub held_stays : List Exchange
held_stays =
    call call_send 2 0 ask answers ok 0 1 1 zeros
    ∷ call call_wait_event 0 0 zeros answers ok 0 0 2 zeros
    ∷ call call_wait_event 0 0 zeros answers ok 1 1 2 ask
    ∷ call call_clean 1 0 zeros answers ok 1 0 2 zeros
    ∷ call call_start 1 0 zeros answers ok 0 0 1 zeros
    ∷ call call_send 2 0 ask answers refused no_free_buffer
    ∷ []

pub plays_held_stays : Plays (laid 0 [] two) (started ++ held_stays)
unfolding request played laid_over step without enter from keep fold rows first refusal effect clean_buffer sum same given owner_of
plays_held_stays = refl

-- "waking an owner that waits for another buffer": A waits for buffer 2, and B answers buffer 1
abbrev pub another_is_awaited : List Exchange
another_is_awaited =
    call call_send 2 0 ask answers ok 0 1 1 zeros
    ∷ call call_send 2 0 ask answers ok 0 2 1 zeros
    ∷ call call_wait_answer 2 0 zeros answers ok 0 0 2 zeros
    ∷ call call_wait_event 0 0 zeros answers ok 1 1 2 ask
    ∷ call call_send_answer 1 0 reply answers ok 0 0 2 zeros
    ∷ []

-- "02 taking only the queue's head": buffer 2 stands behind buffer 1 in A's event queue
abbrev pub not_the_head : List Exchange
not_the_head =
    another_is_awaited
    ++ (call call_wait_event 0 0 zeros answers ok 1 2 2 ask
    ∷ call call_send_answer 2 0 ask answers ok 0 0 1 zeros
    ∷ call call_wait_answer 2 0 zeros answers ok 2 2 1 ask
    ∷ [])

pub plays_not_the_head : Plays (laid 0 [] pair) (started ++ not_the_head)
unfolding request played laid_over step without enter from keep fold rows first refusal effect clean_buffer sum same given owner_of
plays_not_the_head = refl

-- "leaving the device word after a delay ends": the interrupt then finds nobody
abbrev pub device_is_left : List Exchange
device_is_left =
    call call_wait_interrupt 63 1 zeros answers ok 0 0 2 zeros
    ∷ call call_tick 0 0 zeros answers ok 1 0 1 zeros
    ∷ call call_interrupt 63 0 zeros answers ok 0 0 1 zeros
    ∷ []

pub plays_device_is_left : Plays (laid 0 [] two) (started ++ device_is_left)
unfolding request played laid_over step without enter from keep fold rows first refusal effect clean_buffer sum same given owner_of
plays_device_is_left = refl

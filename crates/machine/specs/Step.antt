-- docs/MONITOR.md, 6: what each accepted request does and answers, and the step of a call. Assumes nothing: these are definitions.
use Rattle.std.specs.Prelude.{Bool, ◌&&◌, ◌||◌, List, [], ◌∷◌, ◌++◌, ℕ, zero, suc, ◌+◌, ◌-◌, min, length, eqb}
use Rattle.machine.specs.Numbers.{state_stopped, state_waits_event, state_waits_answer, state_waits_interrupt, state_waits_semaphore, reason_none}
use Rattle.machine.specs.Numbers.{reason_event, reason_delay, reason_interrupt, reason_raise, standing_free, standing_queued, standing_held}
use Rattle.machine.specs.Numbers.{standing_answered, standing_orphaned, kind_message, kind_answer, kind_kept, no_such_call, edition_second, most_age}
use Rattle.machine.specs.Queue.{if, head, keep, fold}
use Rattle.machine.specs.Machine.{Machine, state, delay, owner, receiver, standing, age, edition, kept, waiter, current, Words, zeros, message}
use Rattle.machine.specs.Machine.{processes, buffers, below_zero, up, down, put_device, put_semaphore, set_reason, set_delay, set_awaited}
use Rattle.machine.specs.Machine.{set_awaited_device, set_semaphore, set_receiver, set_standing, set_age}
use Rattle.machine.specs.Moves.{write, wake, requeue, pause, off_semaphore, stop, free, unlink, append, answer_with, clean_buffer}
use Rattle.machine.specs.Request.{Request, Send, WaitAnswer, WaitEvent, SendAnswer, WaitInterrupt, Start, Stop, Clean, Tick, Interrupt, ListOpen}
use Rattle.machine.specs.Request.{Lower, Raise, Unknown}
use Rattle.machine.specs.Refusal.{free_own, shown, among, refusal}

-- ---- what comes back
-- "An answer has number, kind, buffer, current afterwards, four words"
pub record Answer : Type 0 where
  pub number : ℕ
  pub kind : ℕ
  pub buffer : ℕ
  pub current : ℕ
  pub words : Words

-- the machine afterwards, the answer, and the words put into the listing room
pub record Outcome : Type 0 where
  pub machine : Machine
  pub answer : Answer
  pub listing : List ℕ

-- an accepted call; "parts not named are 0"
abbrev pub accept : ℕ → ℕ → Words → Machine → List ℕ → Outcome
accept kind b ws m listing =
    record { machine = m; answer = record { number = 0; kind = kind; buffer = b; current = current m; words = ws }; listing = listing }

-- one that lists nothing
abbrev pub done : ℕ → ℕ → Words → Machine → Outcome
done kind b ws m = accept kind b ws m []

-- with nothing to tell but who is current
abbrev pub plainly : Machine → Outcome
plainly m = done 0 0 zeros m

-- "A refusal has its number and zeros"
abbrev pub refused : ℕ → Answer
refused n = record { number = n; kind = 0; buffer = 0; current = 0; words = zeros }

-- and changes nothing
abbrev pub refuse : ℕ → Machine → Outcome
refuse n m = record { machine = m; answer = refused n; listing = [] }

-- of an accepted layout: "the answer all zeros"
abbrev pub zero_answer : Answer
zero_answer = record { number = 0; kind = 0; buffer = 0; current = 0; words = zeros }

-- ---- the machines that the calls lead to
-- 01: the caller's buffer b goes last in a's event queue, standing 1; its age is 0, as it was free
abbrev pub queued : ℕ → ℕ → Words → Machine → Machine
queued a b ws m = append a b (write b ws (set_standing b standing_queued (set_receiver b a m)))

-- "a in state 2 wakes, reason 1"
abbrev pub sent : ℕ → ℕ → Words → Machine → Machine
sent a b ws m = if (eqb (state m a) state_waits_event) (wake reason_event a (queued a b ws m)) (queued a b ws m)

-- "standing 3 is unlinked wherever it stands and freed"
abbrev pub collected : ℕ → ℕ → Machine → Machine
collected p b m = set_reason p reason_none (free b (unlink p b m))

-- "a message becomes held"
abbrev pub held : ℕ → ℕ → Machine → Machine
held p b m = set_reason p reason_none (set_standing b standing_held (unlink p b m))

-- 04: "from standing 2" answered, "from standing 4" freed
abbrev pub answered_or_freed : ℕ → Words → Machine → Machine
answered_or_freed b ws m = if (eqb (standing m b) standing_held) (answer_with b ws m) (free b m)

-- states 2, 3 and 4
abbrev pub waits_event : ℕ → ℕ → Machine → Machine
waits_event d p m = set_delay p d (pause state_waits_event p m)

abbrev pub waits_answer : ℕ → ℕ → Machine → Machine
waits_answer b p m = set_awaited p b (pause state_waits_answer p m)

abbrev pub waits_interrupt : ℕ → ℕ → ℕ → Machine → Machine
waits_interrupt a d p m = put_device a p (set_delay p d (set_awaited_device p (a + 1) (pause state_waits_interrupt p m)))

-- 05 on a kept interrupt: "clears it and returns at once", "the caller still running with reason 0"
abbrev pub interrupted : ℕ → ℕ → Machine → Machine
interrupted a p m = put_device a 0 (set_reason p reason_none m)

-- 0A without a waiter: "In edition 1 an interrupt without a waiter is kept"; in edition 0 "nothing changed"
abbrev pub unawaited : ℕ → Machine → Machine
unawaited a m = if (eqb (edition m) edition_second) (put_device a kept m) m

-- 0C: "LOWER takes one off; below zero the caller waits, new state 5, last in the semaphore's own queue"
abbrev pub lowered : ℕ → ℕ → Machine → Machine
lowered a p m =
    let c : ℕ = down (m.counter a) in
    if (below_zero c)
    (put_semaphore a c (m.waiters a ++ (p ∷ [])) (set_semaphore p a (pause state_waits_semaphore p m)))
    (put_semaphore a c (m.waiters a) (set_reason p reason_none m))

-- 0D: "at zero or below the longest waiter wakes with new reason 5"; taken from the queue it adds the one
abbrev pub relieved : ℕ → Machine → Machine
relieved p m = wake reason_raise p (off_semaphore p m)

-- "RAISE adds one"
abbrev pub raised : ℕ → Machine → Machine
raised a m = if (below_zero (m.counter a)) (relieved (head (m.waiters a)) m) (put_semaphore a (up (m.counter a)) (m.waiters a) m)

-- 08: "as stop, if not stopped"; reason 0
abbrev pub halted : ℕ → Machine → Machine
halted p m = if (eqb (state m p) state_stopped) (set_reason p reason_none m) (stop p m)

-- "then all buffers by rising number"
abbrev pub cleaned : ℕ → Machine → Machine
cleaned p m = fold (clean_buffer p) (buffers m) (halted p m)

-- cleaning p changes b's standing
abbrev pub changes : Machine → ℕ → ℕ → Bool
changes m p b =
    (eqb (owner m b) p && among (standing m b) (standing_queued ∷ standing_held ∷ standing_answered ∷ []))
    || (eqb (receiver m b) p && among (standing m b) (standing_queued ∷ standing_held ∷ standing_orphaned ∷ []))

-- 09: p's delay, if above 0, falls by 1
abbrev pub fall : ℕ → Machine → Machine
fall p m = set_delay p (delay m p - 1) m

-- "each delay above 0 falls by 1"
abbrev pub fallen : Machine → Machine
fallen m = fold fall (processes m) m

-- "processes whose delay has just fallen to 0", rising
abbrev pub expiring : Machine → List ℕ
expiring m = keep (λ p. eqb (delay m p) 1) (processes m)

-- they "wake by rising process number, reason 2"
abbrev pub woken : Machine → Machine
woken m = fold (wake reason_delay) (expiring m) (fallen m)

-- "one more at each tick while open, staying at 65,535 once there"
abbrev pub older : ℕ → ℕ → ℕ
older standing age = if (eqb standing standing_free) age (min (age + 1) most_age)

abbrev pub grow : ℕ → Machine → Machine
grow b m = set_age b (older (standing m b) (age m b)) m

abbrev pub grown : Machine → Machine
grown m = fold grow (buffers m) m

-- "After the delays and wakes, the process that was current before the tick" goes behind its equals; the ages grow
abbrev pub ticked : Machine → Machine
ticked m = grown (requeue (current m) (woken m))

-- 0B: "buffer, owner, receiver, standing" and age of each buffer
abbrev pub row : Machine → ℕ → List ℕ → List ℕ
row m b l = b ∷ owner m b ∷ receiver m b ∷ standing m b ∷ age m b ∷ l

unfoldable pub rows : Machine → List ℕ → List ℕ
rows m [] = []
rows m (b ∷ l) = row m b (rows m l)

-- ---- what each accepted request does
unfoldable pub effect : Machine → Request → Outcome
effect m (Send a ws) = let b : ℕ = free_own m (current m) in done 0 b zeros (sent a b ws m)
effect m (WaitAnswer a) =
    if (eqb (standing m a) standing_answered)
    (done kind_answer a (message m a) (collected (current m) a m))
    (plainly (waits_answer a (current m) m))
effect m (WaitEvent d) =
    let b : ℕ = head (m.events (current m)) in
    if (eqb b 0) (plainly (waits_event d (current m) m))
    (if (eqb (standing m b) standing_queued)
    (done kind_message b (message m b) (held (current m) b m))
    (done kind_answer b (message m b) (collected (current m) b m)))
effect m (SendAnswer a ws) = plainly (answered_or_freed a ws m)
effect m (WaitInterrupt a d) =
    if (eqb (m.device a) kept)
    (done kind_kept 0 zeros (interrupted a (current m) m))
    (plainly (waits_interrupt a d (current m) m))
effect m (Start a) = plainly (wake reason_none a m)
effect m (Stop a) = plainly (stop a m)
effect m (Clean a) = done (length (keep (changes m a) (buffers m))) 0 zeros (cleaned a m)
effect m Tick = done (length (expiring m)) 0 zeros (ticked m)
effect m (Interrupt a) = let p : ℕ = waiter m a in if (eqb p 0) (plainly (unawaited a m)) (done p 0 zeros (wake reason_interrupt p m))
effect m (ListOpen a room) = accept (length (shown m a)) 0 zeros m (rows m (shown m a))
effect m (Lower a) = plainly (lowered a (current m) m)
effect m (Raise a) = plainly (raised a m)
effect m Unknown = refuse no_such_call m

-- refused with that number, or done
abbrev pub judge : ℕ → Outcome → Machine → Outcome
judge zero o m = o
judge (suc n) o m = refuse (suc n) m

-- one call on a legal machine
unfoldable pub step : Machine → Request → Outcome
step m r = judge (refusal m r) (effect m r) m

-- the machine after a run of requests
unfoldable pub after : Machine → List Request → Machine
after m [] = m
after m (r ∷ l) = after (step m r).machine l

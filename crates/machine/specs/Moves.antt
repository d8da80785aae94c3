-- docs/MONITOR.md, 5: the moves that the calls are made of, on machines. Assumes nothing: these are definitions.
use Rattle.std.specs.Prelude.{Bool, ◌&&◌, ◌||◌, [], ◌∷◌, ◌++◌, ℕ, suc, ◌+◌, eqb}
use Rattle.machine.specs.Numbers.{state_stopped, state_running, state_waits_event, state_waits_answer, reason_none, reason_event, reason_interrupt}
use Rattle.machine.specs.Numbers.{standing_free, standing_queued, standing_held, standing_answered, standing_orphaned}
use Rattle.machine.specs.Records.{buffer_message, buffer_second, buffer_third, buffer_fourth}
use Rattle.machine.specs.Queue.{if, same, without, enter}
use Rattle.machine.specs.Machine.{Machine, state, awaited, awaited_device, semaphore, priority, owner, receiver, standing, up, Words, four, zeros}
use Rattle.machine.specs.Machine.{put_running, put_events, put_buffer, put_devices, put_semaphore, set_state, set_reason, set_delay, set_awaited}
use Rattle.machine.specs.Machine.{set_awaited_device, set_semaphore, set_receiver, set_standing, set_age}

-- four words at buffer b
abbrev pub write : ℕ → Words → Machine → Machine
write b ws m =
    put_buffer b buffer_fourth ws.w₃ (put_buffer b buffer_third ws.w₂
    (put_buffer b buffer_second ws.w₁ (put_buffer b buffer_message ws.w₀ m)))

-- the word of the device that p waits for becomes 0
abbrev pub off_device : ℕ → Machine → Machine
off_device p m = put_devices (λ d. same (suc d) (awaited_device m p) 0 (m.device d)) m

-- "words 6 to 8 and its device word 0"
abbrev pub end_wait : ℕ → Machine → Machine
end_wait p m = set_awaited_device p 0 (set_awaited p 0 (set_delay p 0 (off_device p m)))

-- the lowest priority behind which p goes: "behind all of equal or higher priority", but woken by interrupt "in front of its
-- equals, still behind all of higher priority"
abbrev pub bar : ℕ → ℕ → Machine → ℕ
bar reason p m = if (eqb reason reason_interrupt) (priority m p + 1) (priority m p)

-- "into the running queue", for that reason
abbrev pub enter_running : ℕ → ℕ → Machine → Machine
enter_running reason p m = put_running (enter (priority m) (bar reason p m) p m.running) m

-- "Waking p: state 1, words 6 to 8 and its device word 0, reason set, into the running queue"
abbrev pub wake : ℕ → ℕ → Machine → Machine
wake reason p m = enter_running reason p (set_reason p reason (set_state p state_running (end_wait p m)))

-- p out of the running queue
abbrev pub leave_running : ℕ → Machine → Machine
leave_running p m = put_running (without p m.running) m

-- p "leaves the running queue and enters again behind its equals"; "if current was 0 there is nothing to move"
abbrev pub requeue : ℕ → Machine → Machine
requeue p m = if (eqb p 0) m (enter_running reason_none p (leave_running p m))

-- p leaves it, in another state, with reason 0
abbrev pub pause : ℕ → ℕ → Machine → Machine
pause state p m = set_reason p reason_none (set_state p state (leave_running p m))

-- "takes it from the queue and adds one to the counter": p, of the semaphore that its word 15 names; there is no semaphore 0
abbrev pub off_semaphore : ℕ → Machine → Machine
off_semaphore p m = set_semaphore p 0 (put_semaphore (semaphore m p) (up (m.counter (semaphore m p))) (without p (m.waiters (semaphore m p))) m)

-- "out of running queue and waits, state 0, words 0, 1, 6 to 8 and its device word 0; event queue kept"
abbrev pub stop : ℕ → Machine → Machine
stop p m = pause state_stopped p (end_wait p (off_semaphore p m))

-- "Freeing a buffer sets its standing, links, receiver and message words to 0", and its age; its links are 0 as it is in no queue
abbrev pub free : ℕ → Machine → Machine
free b m = write b zeros (set_age b 0 (set_receiver b 0 (set_standing b standing_free m)))

-- b out of p's event queue, wherever it stands
abbrev pub unlink : ℕ → ℕ → Machine → Machine
unlink p b m = put_events p (without b (m.events p)) m

-- b last in p's event queue
abbrev pub append : ℕ → ℕ → Machine → Machine
append p b m = put_events p (m.events p ++ (b ∷ [])) m

-- 04: "words replaced, standing 3, last in the owner's event queue"
abbrev pub answered : ℕ → Words → Machine → Machine
answered b ws m = append (owner m b) b (set_standing b standing_answered (write b ws m))

-- p waits for an event, or for the answer in buffer b
abbrev pub waits_for : ℕ → ℕ → Machine → Bool
waits_for p b m = eqb (state m p) state_waits_event || (eqb (state m p) state_waits_answer && eqb (awaited m p) b)

-- "an owner in state 2, or in state 3 for this buffer"
abbrev pub waiting : ℕ → Machine → Bool
waiting b m = waits_for (owner m b) b m

-- "wakes, reason 1"
abbrev pub answer_with : ℕ → Words → Machine → Machine
answer_with b ws m = if (waiting b m) (wake reason_event (owner m b) (answered b ws m)) (answered b ws m)

-- the answer to a conversation whose receiver is cleaned
abbrev pub withdrawn : Words
withdrawn = four 0x8000 0 0 0

-- 08: what cleaning p does to buffer b.
-- "Owner a: 1 and 3 unlinked and freed, 2 becomes 4. Receiver a: 1 is unlinked; 1 and 2 are answered; 4 freed; 3 stays"
unfoldable pub clean_buffer : ℕ → ℕ → Machine → Machine
clean_buffer p b m =
    let s : ℕ = standing m b in
    if (eqb (owner m b) p)
    (if (eqb s standing_queued) (free b (unlink (receiver m b) b m))
    (if (eqb s standing_answered) (free b (unlink p b m))
    (if (eqb s standing_held) (set_standing b standing_orphaned m) m)))
    (if (eqb (receiver m b) p)
    (if (eqb s standing_queued) (answer_with b withdrawn (unlink p b m))
    (if (eqb s standing_held) (answer_with b withdrawn m)
    (if (eqb s standing_orphaned) (free b m) m)))
    m)

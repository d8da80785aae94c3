-- docs/MONITOR.md, 7, whole: every row of the table for calls, whatever the call. Assumes nothing: these are definitions.
use Rattle.std.specs.Prelude.{Bool, not, ◌&&◌, ◌||◌, List, [], ◌∷◌, ℕ, ◌*◌, length, eqb, ltb}
use Rattle.machine.specs.Numbers.{state_stopped, standing_free, standing_held, standing_orphaned, call_send, call_wait_answer, call_wait_event}
use Rattle.machine.specs.Numbers.{call_send_answer, call_wait_interrupt, call_start, call_stop, call_clean, call_interrupt, call_list, call_lower, call_raise}
use Rattle.machine.specs.Numbers.{no_such_call, table_not_sound, no_current, no_such_device, no_such_process, sent_to_oneself, no_free_buffer, wrong_buffer}
use Rattle.machine.specs.Numbers.{wrong_state, device_taken, room_too_short, no_such_semaphore, counter_full, last_device, most_counter}
use Rattle.machine.specs.Request.{last_call}
use Rattle.machine.specs.Queue.{if}
use Rattle.machine.specs.Machine.{Machine, state, owner, receiver, standing, waiter, semaphores, current}
use Rattle.machine.specs.Refusal.{Row, ◌when◌, first, among, outside, free_own, shown, row_width}

-- the rows for call k with part a and n words of room, on words that are not sound, or on the machine m that they show
abbrev pub refusal_rows : Bool → Machine → ℕ → ℕ → ℕ → List Row
refusal_rows unsound m k a n =
    -- 13: call number not 01 to 0D
    (no_such_call when outside k last_call)
    -- 1: any call but layout: table not sound
    ∷ (table_not_sound when unsound)
    -- 2: 01 to 05, 0C and 0D, current is 0
    ∷ (no_current when among k (call_send ∷ call_wait_answer ∷ call_wait_event ∷ call_send_answer ∷ call_wait_interrupt ∷ call_lower ∷ call_raise ∷ [])
    && eqb (current m) 0)
    -- 3: device above 63 (05, 0A)
    ∷ (no_such_device when among k (call_wait_interrupt ∷ call_interrupt ∷ []) && ltb last_device a)
    -- 4: a not in 1 to P (01, 06, 07, 08, 0B)
    ∷ (no_such_process when among k (call_send ∷ call_start ∷ call_stop ∷ call_clean ∷ call_list ∷ []) && outside a m.P)
    -- 8: send to oneself
    ∷ (sent_to_oneself when eqb k call_send && eqb a (current m))
    -- 5: send, no own buffer free
    ∷ (no_free_buffer when eqb k call_send && eqb (free_own m (current m)) 0)
    -- 6: buffer not in 1 to B; 02: not own, or standing 0 or 4; 04: caller not receiver, or standing not 2 or 4
    ∷ (wrong_buffer when among k (call_wait_answer ∷ call_send_answer ∷ []) && (outside a m.B || if (eqb k call_wait_answer)
    (not (eqb (owner m a) (current m)) || among (standing m a) (standing_free ∷ standing_orphaned ∷ []))
    (not (eqb (receiver m a) (current m)) || not (among (standing m a) (standing_held ∷ standing_orphaned ∷ [])))))
    -- 7: start unless stopped; stop if stopped
    ∷ (wrong_state when among k (call_start ∷ call_stop ∷ []) && if (eqb k call_start) (not (eqb (state m a) state_stopped)) (eqb (state m a) state_stopped))
    -- 9: 05: device has a waiter; a kept interrupt is none
    ∷ (device_taken when eqb k call_wait_interrupt && not (eqb (waiter m a) 0))
    -- 10: listing room under five words for each buffer to be shown
    ∷ (room_too_short when eqb k call_list && ltb n (row_width * length (shown m a)))
    -- 19: 0C, 0D: a semaphore that isn't there
    ∷ (no_such_semaphore when among k (call_lower ∷ call_raise ∷ []) && outside a (semaphores m))
    -- 20: 0D: counter at 32,767
    ∷ (counter_full when eqb k call_raise && eqb (m.counter a) most_counter)
    ∷ []

-- the number that the table gives a call: that of the first row that applies, 0 for none
abbrev pub refusal_number : Bool → Machine → ℕ → ℕ → ℕ → ℕ
refusal_number unsound m k a n = first (refusal_rows unsound m k a n)

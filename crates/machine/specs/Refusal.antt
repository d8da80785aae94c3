-- docs/MONITOR.md, 7: the rows of its table, and the first that applies. Assumes nothing: these are definitions.
use Rattle.std.specs.Prelude.{Bool, true, false, not, ◌&&◌, ◌||◌, List, [], ◌∷◌, ℕ, ◌*◌, length, eqb, ltb}
use Rattle.machine.specs.Numbers.{state_stopped, standing_free, standing_held, standing_orphaned, no_such_call, no_current, no_such_device}
use Rattle.machine.specs.Numbers.{no_such_process, sent_to_oneself, no_free_buffer, wrong_buffer, wrong_state, device_taken, room_too_short}
use Rattle.machine.specs.Numbers.{no_such_semaphore, counter_full, last_device, most_counter}
use Rattle.machine.specs.Queue.{head, keep}
use Rattle.machine.specs.Machine.{Machine, state, owner, receiver, standing, waiter, semaphores, current, buffers}
use Rattle.machine.specs.Request.{Request, Send, WaitAnswer, WaitEvent, SendAnswer, WaitInterrupt, Start, Stop, Clean, Tick, Interrupt, ListOpen}
use Rattle.machine.specs.Request.{Lower, Raise, Unknown}

-- ---- what the rows ask
-- b is p's, and free
abbrev pub is_free_own : Machine → ℕ → ℕ → Bool
is_free_own m p b = eqb (owner m b) p && eqb (standing m b) standing_free

-- "the caller's lowest free buffer", 0 if there is none
abbrev pub free_own : Machine → ℕ → ℕ
free_own m p = head (keep (is_free_own m p) (buffers m))

-- b is "not free with owner or receiver a"
abbrev pub is_shown : Machine → ℕ → ℕ → Bool
is_shown m a b = not (eqb (standing m b) standing_free) && (eqb (owner m b) a || eqb (receiver m b) a)

-- the buffers that a listing for a shows, rising
abbrev pub shown : Machine → ℕ → List ℕ
shown m a = keep (is_shown m a) (buffers m)

-- the words of room that each buffer shown takes
abbrev pub row_width : ℕ
row_width = 5

-- x is one of l
abbrev pub among : ℕ → List ℕ → Bool
among x [] = false
among x (y ∷ l) = eqb x y || among x l

-- "not in 1 to n"
abbrev pub outside : ℕ → ℕ → Bool
outside x n = eqb x 0 || ltb n x

-- ---- the table
-- a row: its number, and whether it applies
pub data Row : Type 0 where
  ◌when◌ : ℕ → Bool → Row

infix 10 ◌when◌
-- "the upper line wins": the number of the first row that applies, 0 for none
unfoldable pub first : List Row → ℕ
first [] = 0
first ((n when true) ∷ l) = n
first ((n when false) ∷ l) = first l

-- the number of the refusal, 0 for none: the rows of docs/MONITOR.md, 7 that can apply to each request, in their order.
-- Row 13 is Unknown's, and row 1 is for words that show no legal machine (Sound)
unfoldable pub refusal : Machine → Request → ℕ
refusal m (Send a ws) = first
    ((no_current when eqb (current m) 0) ∷ (no_such_process when outside a m.P)
    ∷ (sent_to_oneself when eqb a (current m)) ∷ (no_free_buffer when eqb (free_own m (current m)) 0) ∷ [])
refusal m (WaitAnswer a) = first
    ((no_current when eqb (current m) 0)
    ∷ (wrong_buffer when outside a m.B
    || (not (eqb (owner m a) (current m)) || among (standing m a) (standing_free ∷ standing_orphaned ∷ []))) ∷ [])
refusal m (WaitEvent d) = first
    ((no_current when eqb (current m) 0) ∷ [])
refusal m (SendAnswer a ws) = first
    ((no_current when eqb (current m) 0)
    ∷ (wrong_buffer when outside a m.B
    || (not (eqb (receiver m a) (current m)) || not (among (standing m a) (standing_held ∷ standing_orphaned ∷ [])))) ∷ [])
refusal m (WaitInterrupt a d) = first
    ((no_current when eqb (current m) 0) ∷ (no_such_device when ltb last_device a) ∷ (device_taken when not (eqb (waiter m a) 0)) ∷ [])
refusal m (Start a) = first
    ((no_such_process when outside a m.P) ∷ (wrong_state when not (eqb (state m a) state_stopped)) ∷ [])
refusal m (Stop a) = first
    ((no_such_process when outside a m.P) ∷ (wrong_state when eqb (state m a) state_stopped) ∷ [])
refusal m (Clean a) = first ((no_such_process when outside a m.P) ∷ [])
refusal m Tick = 0
refusal m (Interrupt a) = first ((no_such_device when ltb last_device a) ∷ [])
refusal m (ListOpen a room) = first
    ((no_such_process when outside a m.P) ∷ (room_too_short when ltb room (row_width * length (shown m a))) ∷ [])
refusal m (Lower a) = first
    ((no_current when eqb (current m) 0) ∷ (no_such_semaphore when outside a (semaphores m)) ∷ [])
refusal m (Raise a) = first
    ((no_current when eqb (current m) 0) ∷ (no_such_semaphore when outside a (semaphores m)) ∷ (counter_full when eqb (m.counter a) most_counter) ∷ [])
refusal m Unknown = no_such_call

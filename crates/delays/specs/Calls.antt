-- What the monitor's calls are to the clocks: the events that a request stands for, on the machine on which it is made. Assumes nothing: these are
-- definitions.
use Rattle.std.specs.Prelude.{Bool, not, ◌&&◌, ◌||◌, List, [], ◌∷◌, ◌++◌, ℕ, ◌<◌, eqb}
use Rattle.machine.specs.Numbers.{state_waits_event, standing_queued, standing_held}
use Rattle.machine.specs.Queue.{if, head}
use Rattle.machine.specs.Machine.{Machine, state, owner, receiver, standing, kept, waiter, below_zero, current, buffers}
use Rattle.machine.specs.Moves.{waiting, clean_buffer}
use Rattle.machine.specs.Request.{Request, Send, WaitAnswer, WaitEvent, SendAnswer, WaitInterrupt, Start, Stop, Clean, Tick, Interrupt, ListOpen}
use Rattle.machine.specs.Request.{Lower, Raise, Unknown}
use Rattle.machine.specs.Refusal.{refusal}
use Rattle.machine.specs.Step.{halted, step}
use Rattle.delays.specs.Words.{unless}
use Rattle.delays.specs.Delays.{Event}
use Rattle.delays.specs.Delays as clock

-- p wakes, where it is so
abbrev pub wakes_if : Bool → ℕ → List Event
wakes_if t p = if t (clock.Wake p ∷ []) []

-- cleaning p answers buffer b, and its owner waits for that: "Receiver a: .. 1 and 2 are answered"
abbrev pub wakes_owner : ℕ → ℕ → Machine → Bool
wakes_owner p b m = not (eqb (owner m b) p) && (eqb (receiver m b) p && ((eqb (standing m b) standing_queued || eqb (standing m b) standing_held)
    && waiting b m))

-- whom cleaning p wakes, buffer by buffer
unfoldable pub clean_wakes : ℕ → List ℕ → Machine → List Event
clean_wakes p [] m = []
clean_wakes p (b ∷ l) m = wakes_if (wakes_owner p b m) (owner m b) ++ clean_wakes p l (clean_buffer p b m)

-- what an accepted request stands for; a 05 that finds its interrupt kept waits for nothing, and who waits for a semaphore has no delay
unfoldable pub meant : Machine → Request → List Event
meant m (Send a ws) = wakes_if (eqb (state m a) state_waits_event) a
meant m (WaitAnswer a) = []
meant m (WaitEvent d) = if (eqb (head (m.events (current m))) 0) (clock.Wait (current m) d ∷ []) []
meant m (SendAnswer a ws) = wakes_if (eqb (standing m a) standing_held && waiting a m) (owner m a)
meant m (WaitInterrupt a d) = if (eqb (m.device a) kept) [] (clock.Wait (current m) d ∷ [])
meant m (Start a) = clock.Wake a ∷ []
meant m (Stop a) = clock.Stop a ∷ []
meant m (Clean a) = clock.Clean a ∷ clean_wakes a (buffers m) (halted a m)
meant m Tick = clock.Tick ∷ []
meant m (Interrupt a) = if (eqb (waiter m a) 0) [] (clock.Wake (waiter m a) ∷ [])
meant m (ListOpen a room) = []
meant m (Lower a) = []
meant m (Raise a) = wakes_if (below_zero (m.counter a)) (head (m.waiters a))
meant m Unknown = []

-- and nothing for a refused one
unfoldable pub events_of : Machine → Request → List Event
events_of m r = unless (refusal m r) (meant m r) []

-- of a run of requests
unfoldable pub events_all : Machine → List Request → List Event
events_all m [] = []
events_all m (r ∷ l) = events_of m r ++ events_all (step m r).machine l

-- a delay is a word
abbrev pub DelayFits : Request → Type 0
DelayFits (Send a ws) = Unit {0}
DelayFits (WaitAnswer a) = Unit {0}
DelayFits (WaitEvent d) = d < 65536
DelayFits (SendAnswer a ws) = Unit {0}
DelayFits (WaitInterrupt a d) = d < 65536
DelayFits (Start a) = Unit {0}
DelayFits (Stop a) = Unit {0}
DelayFits (Clean a) = Unit {0}
DelayFits Tick = Unit {0}
DelayFits (Interrupt a) = Unit {0}
DelayFits (ListOpen a room) = Unit {0}
DelayFits (Lower a) = Unit {0}
DelayFits (Raise a) = Unit {0}
DelayFits Unknown = Unit {0}

abbrev pub DelaysFit : List Request → Type 0
DelaysFit [] = Unit {0}
DelaysFit (r ∷ l) = DelayFits r × DelaysFit l

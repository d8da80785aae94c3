-- What the moves of a conversation ask of the machine, legal or under way: a message queued, a conversation answered. Assumes nothing: these are definitions.
use Rattle.std.specs.Prelude.{Bool, true, List, ◌≡◌, ℕ, eqb}
use Rattle.machine.specs.Numbers.{state_waits_event, reason_event, standing_held}
use Rattle.machine.specs.Queue.{if, Range}
use Rattle.machine.specs.Machine.{Machine, state, owner, standing}
use Rattle.machine.specs.Moves.{wake, waiting}
use Rattle.table.specs.Promise.{Does, Gives}
use Rattle.machine.specs.Legal.{Legal}
use Rattle.machine.specs.Words.{home}
use Rattle.table.specs.Fits.{InNoQueue, EventsFit, MayWake}
use Rattle.table.specs.Links.{position}
use Rattle.answers.specs.Promise.{arrival}

-- ---- own buffers
-- p is a process of a legal machine, where own buffers stand together
abbrev pub MayOwn : ℕ → Machine → Type 0
MayOwn p m = Legal m × Range m.P p

-- ---- wakes
-- p may wake, if it is to
abbrev pub MayWakeIf : Bool → ℕ → Machine → Type 0
MayWakeIf waits p m = waits ≡ true → MayWake p m

-- ---- buffers that go into a queue
-- buffer b, in no queue, may go into p's event queue
pub record MayJoin (p b : ℕ) (m : Machine) : Type 0 where
  pub process : Range m.P p
  pub fits : EventsFit m.B (home m.buffer) p (m.events p)
  pub buffer : InNoQueue b m

-- buffer b may go back to its owner p
abbrev pub MayReturn : ℕ → ℕ → Machine → Type 0
MayReturn p b m = MayJoin p b m × (owner m b ≡ p)

-- buffer b may be answered: it goes to its owner, who may wake if it waits for that
pub record MayAnswer (b : ℕ) (m : Machine) : Type 0 where
  pub joins : MayJoin (owner m b) b m
  pub wakes : MayWakeIf (waiting b m) (owner m b) m

-- buffer b may be sent to a, who may wake if it waits for an event
pub record MaySend (a b : ℕ) (m : Machine) : Type 0 where
  pub joins : MayJoin a b m
  pub wakes : MayWakeIf (eqb (state m a) state_waits_event) a m

-- buffer b may be answered, if it is held, and is in no queue
pub record MayAnswerOrFree (b : ℕ) (m : Machine) : Type 0 where
  pub answers : standing m b ≡ standing_held → MayAnswer b m
  pub frees : InNoQueue b m

-- ---- arrivals
-- from t to u the machine changes by f, by which `who` may enter the running queue, reason 1, to the position r
pub record Passes (t u : List ℕ) (May : Machine → Type 0) (f : Machine → Machine) (who : Machine → ℕ) (r : ℕ) : Type 0 where
  pub words : Does t u May f
  pub arrives : Gives t May (λ m. arrival 1 (who m) m (f m)) r

-- p wakes if it is to
pub record WakesIf (t u : List ℕ) (waits : Bool) (p r : ℕ) : Type 0 where
  pub words : Does t u (MayWakeIf waits p) (λ m. if waits (wake reason_event p m) m)
  pub arrives : Gives t (MayWakeIf waits p) (λ m. if waits (position 1 p m) 0) r

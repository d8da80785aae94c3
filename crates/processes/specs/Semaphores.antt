-- What the parts of calls 0C and 0D ask. Assumes nothing: these are definitions.
use Rattle.std.specs.Prelude.{List, ◌≡◌, ℕ}
use Rattle.machine.specs.Numbers.{counter_below_zero}
use Rattle.machine.specs.Queue.{Range, Out}
use Rattle.machine.specs.Machine.{Machine, semaphore, semaphores}
use Rattle.table.specs.Fits.{ProcessesFit, Pauses, MayWalk, MayRiseFirst, MayEndWait}

-- p is current, in no other queue of processes, and a is a semaphore
pub record WaitsInQueue (P S : ℕ) (named : ℕ → ℕ) (running : List ℕ) (waiters : ℕ → List ℕ) (p a : ℕ) : Type 0 where
  pub pauses : Pauses P named running p
  pub semaphore : Range S a
  pub fits : ProcessesFit P named a (waiters a)
  pub out : (s : ℕ) → Range S s → Out p (waiters s)

abbrev pub MayWaitInQueue : ℕ → ℕ → Machine → Type 0
MayWaitInQueue p a m = WaitsInQueue m.P (semaphores m) (semaphore m) m.running m.waiters p a

-- and one may be taken off its counter, which isn't the lowest number
abbrev pub MayTakeOne : ℕ → ℕ → Machine → Type 0
MayTakeOne p a m = MayWaitInQueue p a m × (m.counter a ≡ counter_below_zero → ⊥)

-- p, the longest waiter of semaphore s, may leave its queue, and then enter the running queue
pub record MayRelieve (s p : ℕ) (m : Machine) : Type 0 where
  pub process : Range m.P p
  pub rises : MayRiseFirst s p m
  pub waits : MayEndWait p m
  pub fits : MayWalk m
  pub new : Out p m.running

-- What the parts of call 09 ask and promise: a tick, one process after the other. Assumes nothing: these are definitions.
use Rattle.std.specs.Prelude.{List, ℕ, eqb}
use Rattle.machine.specs.Numbers.{reason_delay}
use Rattle.machine.specs.Queue.{if, Range}
use Rattle.machine.specs.Machine.{Machine, delay}
use Rattle.machine.specs.Moves.{wake}
use Rattle.machine.specs.Legal.{Legal}
use Rattle.machine.specs.Step.{fall, woken}
use Rattle.machine.specs.Walk.{Walk, waking}
use Rattle.table.specs.Promise.{Does, Gives}
use Rattle.answers.specs.Promise.{arrival}

-- the delay of p falls by 1, and if it has just fallen to 0, p wakes, reason 2
abbrev pub tick_one : ℕ → Machine → Machine
tick_one p m = if (eqb (delay m p) 1) (wake reason_delay p (fall p m)) (fall p m)

abbrev pub MayTick : ℕ → Machine → Type 0
MayTick p m = Legal m × Range m.P p

-- from the words t to the words u a tick passed for p, which woke to the position r in the running queue; 0: it did not
pub record TicksOne (t u : List ℕ) (p r : ℕ) : Type 0 where
  pub words : Does t u (MayTick p) (tick_one p)
  pub arrives : Gives t (MayTick p) (λ m. arrival reason_delay p m (tick_one p m)) r

-- from the words t to the words u all delays fell, and w is the walk of those that woke
pub record TicksAll (t u : List ℕ) (w : Walk) : Type 0 where
  pub words : Does t u Legal woken
  pub walk : Gives t Legal (λ m. (waking m).walk) w

-- What the loop of `running::behind` keeps, and what falls. Assumes nothing.
use mathlib.Core.Path.{◌≡◌}
use Prim.Native.Nat.{◌-◌}
use Rattle.machine.specs.Queue.{next}
use Rattle.machine.specs.Machine.{Machine, priority}
use Rattle.machine.specs.Words.{Shows}
use Rattle.table.specs.Fits.{MayWalk}
use Rattle.table.proofs.Walk.{Walk}
use Rattle.table.proofs.running.behind.Given as goal

abbrev pub invariant-loop-follower : goal.invariant-loop-follower
invariant-loop-follower l =
    (m : Machine) → Shows l.t m → MayWalk m → Walk m.P (priority m) l.bar m.running l.at l.passed × (l.follower ≡ next m.running l.at)

abbrev pub decreases-loop-follower : goal.decreases-loop-follower
decreases-loop-follower l = 65536 - l.passed

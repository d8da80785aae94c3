-- What the loop of `queued` keeps, and what falls. Assumes nothing.
use Prim.Native.Nat.{◌-◌}
use Rattle.screen.specs.Reading.{queued}
use Rattle.screen.proofs.TwoLoops.{Following}
use Rattle.screen.proofs.queued.Given as goal

abbrev pub invariant-loop-b : goal.invariant-loop-b
invariant-loop-b l = Following l.t l.p l.b l.count

abbrev pub decreases-loop-b : goal.decreases-loop-b
decreases-loop-b l = queued l.t l.p - l.count

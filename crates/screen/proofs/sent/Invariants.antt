-- What the loop of `sent` keeps, and what falls. Assumes nothing.
use Rattle.screen.proofs.TwoLoops.{Passing}
use Rattle.screen.proofs.sent.Given as goal

abbrev pub invariant-loop-left : goal.invariant-loop-left
invariant-loop-left l = Passing l.t l.p l.left l.at l.count

abbrev pub decreases-loop-left : goal.decreases-loop-left
decreases-loop-left l = l.left

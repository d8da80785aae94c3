-- What the loop of `front::same_block` keeps. Assumes nothing.
use Rattle.compare.specs.Promise.{SameFrom}
use Rattle.compare.proofs.front.same_block.Given as goal

abbrev pub invariant-loop-i : goal.invariant-loop-i
invariant-loop-i l = SameFrom l.one l.two l.at l.i l.same

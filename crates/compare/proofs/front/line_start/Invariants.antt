-- What the loop of `front::line_start` keeps. Assumes nothing.
use Rattle.compare.proofs.Sharing.{NoEnd}
use Rattle.compare.proofs.front.line_start.Given as goal

abbrev pub invariant-loop-i : goal.invariant-loop-i
invariant-loop-i l = NoEnd l.log l.at l.i

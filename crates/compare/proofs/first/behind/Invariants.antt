-- What the loop of `first::behind` keeps. Assumes nothing.
use Rattle.compare.proofs.Cutting.{Cutting}
use Rattle.compare.proofs.first.behind.Given as goal

abbrev pub invariant-loop-i : goal.invariant-loop-i
invariant-loop-i l = Cutting l.log l.lines l.i l.left

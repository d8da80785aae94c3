-- What the loop of `front::common` keeps. Assumes nothing.
use Rattle.compare.specs.Common.{Shares}
use Rattle.compare.proofs.front.common.Given as goal

abbrev pub invariant-loop-i : goal.invariant-loop-i
invariant-loop-i l = Shares l.one l.two l.i

-- What the loop of `first::run` keeps. Assumes nothing.
use Rattle.compare.proofs.Bytes.{Gone}
use Rattle.compare.proofs.first.run.Given as goal

abbrev pub invariant-loop-i : goal.invariant-loop-i
invariant-loop-i l = Gone l.one l.two l.i

-- What the loop of `digits::sixteen_zeros` keeps. Assumes nothing.
use Rattle.lines.specs.Promise.{ZerosFrom}
use Rattle.lines.proofs.digits.sixteen_zeros.Given as goal

abbrev pub invariant-loop-i : goal.invariant-loop-i
invariant-loop-i l = ZerosFrom l.line l.at l.i l.all

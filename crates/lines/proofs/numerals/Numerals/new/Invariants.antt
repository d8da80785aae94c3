-- What the loop of `Numerals::new` keeps. Assumes nothing.
use Rattle.lines.proofs.Worth.{MadeTo}
use Rattle.lines.proofs.numerals.Numerals.new.Given as goal

abbrev pub invariant-loop-n : goal.invariant-loop-n
invariant-loop-n l = MadeTo l.n l.worths l.pairs

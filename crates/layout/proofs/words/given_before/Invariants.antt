-- What the loop of `words::given_before` keeps. Assumes nothing.
use mathlib.Core.Path.{◌≡◌}
use Rattle.machine.specs.Machine.{given}
use Rattle.layout.proofs.Given.{owns}
use Rattle.layout.proofs.words.given_before.Given as goal

abbrev pub invariant-loop-i : goal.invariant-loop-i
invariant-loop-i l = (l.sum ≡ given (owns l.list) l.i)

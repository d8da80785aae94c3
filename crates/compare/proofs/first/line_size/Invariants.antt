-- What the loop of `first::line_size` keeps. Assumes nothing.
use mathlib.Core.Path.{◌≡◌}
use Prim.Native.Nat.{◌+◌}
use lib.ListN.{drop}
use Rattle.compare.specs.Promise.{line_size}
use Rattle.compare.proofs.first.line_size.Given as goal

abbrev pub invariant-loop-i : goal.invariant-loop-i
invariant-loop-i l = line_size l.log ≡ l.i + line_size (drop l.i l.log)

-- What the loop of `failing` keeps: the records before r are right. Assumes nothing.
use mathlib.Core.Path.{◌≡◌}
use Prim.Native.Nat.{◌+◌, ◌-◌, ◌≤◌}
use Rattle.why.specs.Clause.{clause_of, right}
use Rattle.why.specs.Fault.{lowest}
use Rattle.why.proofs.failing.Given as goal

abbrev pub invariant-loop-r : goal.invariant-loop-r
invariant-loop-r l = (l.r ≤ l.r-end + 1) × (lowest (right l.words (clause_of l.c)) (l.r - 1) ≡ 0)

-- What the loop of `why` keeps: the clauses before c hold. Assumes nothing.
use mathlib.Core.Path.{◌≡◌}
use Prim.Native.Nat.{◌-◌}
use Rattle.why.specs.Fault.{lowest}
use Rattle.why.proofs.Telling.{passes}
use Rattle.why.proofs.why.Given as goal

abbrev pub invariant-loop-c : goal.invariant-loop-c
invariant-loop-c l = lowest (passes l.words) (l.c - 1) ≡ 0

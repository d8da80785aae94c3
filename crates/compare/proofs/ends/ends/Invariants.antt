-- What the loop of `ends::ends` keeps, and what falls. Assumes nothing.
use mathlib.Core.Path.{◌≡◌}
use Prim.Native.Nat.{◌+◌, ◌-◌, ◌≤◌, ◌%◌}
use lib.ListN.{drop}
use Rattle.compare.specs.Promise.{ends}
use Rattle.compare.proofs.ends.ends.Given as goal

abbrev pub invariant-loop-at : goal.invariant-loop-at
invariant-loop-at l = (l.at % 240 ≡ 0) × (l.at ≤ l.whole) × (ends l.log ≡ l.count + ends (drop l.at l.log))

abbrev pub decreases-loop-at : goal.decreases-loop-at
decreases-loop-at l = l.whole - l.at

-- What the loop of `front::blocks` keeps, and what falls. Assumes nothing.
use mathlib.Core.Path.{◌≡◌}
use Prim.Native.Nat.{◌-◌, ◌≤◌, ◌%◌}
use Rattle.compare.specs.Common.{Shares}
use Rattle.compare.proofs.front.blocks.Given as goal

abbrev pub invariant-loop-at : goal.invariant-loop-at
invariant-loop-at l = (l.at % 240 ≡ 0) × (l.at ≤ l.whole) × Shares l.one l.two l.at

abbrev pub decreases-loop-at : goal.decreases-loop-at
decreases-loop-at l = l.whole - l.at

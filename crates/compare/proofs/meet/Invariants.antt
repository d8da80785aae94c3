-- What the loop of `meet` keeps, and what falls. Assumes nothing.
use Prim.Native.Nat.{◌+◌, ◌-◌}
use lib.ListN.{length}
use Rattle.compare.proofs.Leftover.{Left}
use Rattle.compare.proofs.meet.Given as goal

abbrev pub invariant-loop-place : goal.invariant-loop-place
invariant-loop-place l = Left l.one l.two l.place.one l.place.two

abbrev pub decreases-loop-place : goal.decreases-loop-place
decreases-loop-place l = (length l.one - l.place.one) + (length l.two - l.place.two)

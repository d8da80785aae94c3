-- What the loop of `pass` keeps, and what falls. Assumes nothing.
use Prim.Native.Nat.{◌+◌, ◌-◌}
use lib.ListN.{length}
use Rattle.compare.proofs.Walk.{Passing}
use Rattle.compare.proofs.pass.Given as goal

abbrev pub invariant-loop-place : goal.invariant-loop-place
invariant-loop-place l = Passing l.one l.two l.initial.room l.full l.place.one l.place.two l.number l.count l.room

abbrev pub decreases-loop-place : goal.decreases-loop-place
decreases-loop-place l = (length l.one - l.place.one) + (length l.two - l.place.two)

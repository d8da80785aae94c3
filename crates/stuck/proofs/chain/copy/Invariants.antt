-- What the loop of `chain::copy` keeps. Assumes nothing.
use Prim.Native.Nat.{◌-◌}
use Rattle.stuck.specs.Chain.{down}
use Rattle.stuck.proofs.Steps.{Writing}
use Rattle.stuck.proofs.chain.copy.Given as goal

abbrev pub invariant-loop-i : goal.invariant-loop-i
invariant-loop-i l = Writing (down l.listed) l.initial.room l.room 0 l.all l.n (l.all - l.i) l.i

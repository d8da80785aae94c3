-- What the loop of `rounds::members` keeps, and what falls. Assumes nothing.
use Prim.Native.Nat.{◌-◌}
use Rattle.machine.specs.Sound.{P_of}
use Rattle.stuck.specs.Waiting.{of_table}
use Rattle.stuck.specs.Chain.{chain_length}
use Rattle.stuck.proofs.Counting.{Counting}
use Rattle.stuck.proofs.rounds.members.Given as goal

abbrev pub invariant-loop-p : goal.invariant-loop-p
invariant-loop-p l = Counting (of_table l.t) (P_of l.t) l.a l.p l.n

abbrev pub decreases-loop-p : goal.decreases-loop-p
decreases-loop-p l = chain_length (of_table l.t) (P_of l.t) l.a - l.n

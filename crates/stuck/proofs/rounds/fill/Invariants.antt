-- What the loop of `rounds::fill` keeps, and what falls. Assumes nothing.
use Prim.Native.Nat.{◌-◌}
use Rattle.machine.specs.Sound.{P_of}
use Rattle.stuck.specs.Waiting.{of_table}
use Rattle.stuck.proofs.Growing.{Filling}
use Rattle.stuck.proofs.rounds.fill.Given as goal

abbrev pub invariant-loop-at : goal.invariant-loop-at
invariant-loop-at l = Filling (of_table l.t) (P_of l.t) l.initial.room l.room l.at l.a

abbrev pub decreases-loop-at : goal.decreases-loop-at
decreases-loop-at l = P_of l.t - l.a

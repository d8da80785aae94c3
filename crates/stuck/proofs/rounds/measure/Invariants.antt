-- What the loop of `rounds::measure` keeps. Assumes nothing.
use Prim.Native.Nat.{◌+◌}
use Rattle.machine.specs.Sound.{P_of}
use Rattle.stuck.specs.Waiting.{of_table}
use Rattle.stuck.specs.Rings.{Met}
use Rattle.stuck.proofs.Growing.{Measuring}
use Rattle.stuck.proofs.rounds.measure.Given as goal

abbrev pub invariant-loop-before : goal.invariant-loop-before
invariant-loop-before l =
    Measuring (of_table l.t) (P_of l.t) l.sizes l.rings l.words l.before × Met (of_table l.t) (P_of l.t) (l.before + 1) l.met

-- What the loop of `meetings::lowest` keeps. Assumes nothing.
use Rattle.machine.specs.Sound.{P_of}
use Rattle.stuck.specs.Waiting.{of_table}
use Rattle.stuck.proofs.Lowest.{GoingRound}
use Rattle.stuck.proofs.meetings.lowest.Given as goal

abbrev pub invariant-loop-n : goal.invariant-loop-n
invariant-loop-n l = GoingRound (of_table l.t) (P_of l.t) l.p l.low l.q l._n

-- What the loop of `chain::write` keeps. Assumes nothing.
use Rattle.machine.specs.Queue.{Range}
use Rattle.machine.specs.Sound.{P_of}
use Rattle.stuck.specs.Waiting.{of_table}
use Rattle.stuck.specs.Chain.{along}
use Rattle.stuck.proofs.Steps.{Writing}
use Rattle.stuck.proofs.chain.write.Given as goal

abbrev pub invariant-loop-i : goal.invariant-loop-i
invariant-loop-i l = Writing (along (of_table l.t)) l.initial.room l.room l.at l.a l.n l.p l.i × Range (P_of l.t) l.p

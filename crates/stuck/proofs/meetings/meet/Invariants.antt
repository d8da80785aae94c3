-- What the loop of `meetings::meet` keeps, and what falls. Assumes nothing.
use Rattle.machine.specs.Sound.{P_of}
use Rattle.lists.specs.Counts.{count}
use Rattle.stuck.specs.Waiting.{of_table}
use Rattle.stuck.proofs.Marks.{unmet, Meeting}
use Rattle.stuck.proofs.meetings.meet.Given as goal

abbrev pub invariant-loop-met : goal.invariant-loop-met
invariant-loop-met l = Meeting (of_table l.t) (P_of l.t) l.a l.met l.p

abbrev pub decreases-loop-met : goal.decreases-loop-met
decreases-loop-met l = count (unmet l.met) (P_of l.t)

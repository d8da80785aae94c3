-- `meet` meets its contract. The loop's invariant: the rest of what is left of both logs is the rest of the logs. Assumes nothing.
use Rattle.compare.proofs.Leftover.{left_more}
use Rattle.compare.proofs.meet.Goals as goal

pub loop-place-preserved : goal.loop-place-preserved
loop-place-preserved c = left_more c.loop-place.invariant c.step.ensures c.loop-place-test.true c.if-place-two.true

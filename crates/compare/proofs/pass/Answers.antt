-- `pass` meets its contract. The loop's invariant: what the lines left give, with what was counted and stored, is the whole. Assumes nothing.
use Rattle.compare.proofs.Walk.{passing_more, passing_ends}
use Rattle.compare.proofs.pass.Goals as goal

pub loop-place-preserved : goal.loop-place-preserved
loop-place-preserved c = passing_more c.loop-place.invariant c.step-passed.ensures c.put-count.ensures

pub returns : goal.returns
returns c = passing_ends c.loop-place.invariant c.if-place-one.false c.if-place-two.false

-- `part` meets its contract. Assumes nothing.
use Rattle.compare.proofs.Leftover.{rests_second, rests_first}
use Rattle.compare.proofs.part.Goals as goal

pub returns-then-place-two : goal.returns-then-place-two
returns-then-place-two c = rests_second c.requires c.if-place-two.true _ _

pub returns : goal.returns
returns c = rests_first c.requires c.if-place-two.false _ _

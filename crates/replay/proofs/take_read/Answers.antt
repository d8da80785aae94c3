-- `take_read` meets its contract: the bytes that the read gave are a block of their own. Assumes nothing.
use Rattle.replay.proofs.Opening.{counted}
use Rattle.replay.proofs.take_read.Goals as goal

pub returns-clause-written : goal.returns-clause-written
returns-clause-written g c input h = rw (← counted _ c.ranges.got c.count-count.ensures.value) (c.take_block.ensures.written input h)

-- `read_block` meets its contract: as many bytes are taken as the read gave. Assumes nothing.
use mathlib.Core.Path.{ap}
use Rattle.replay.proofs.Streaming.{writes_since}
use Rattle.replay.proofs.read_block.Goals as goal

pub returns-clause-written : goal.returns-clause-written
returns-clause-written g c input h =
    let e = c.read-got.ensures in
    writes_since e.failed (ap g.W.Write.contents e.output) (rw c.take_read.ensures.taken.count (c.take_read.ensures.written input h))

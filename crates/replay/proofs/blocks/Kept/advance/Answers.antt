-- `advance` meets its contract: a line is fed, from the part of the block that wasn't taken. Assumes nothing.
use native.Mathlib.Omega.{arith}
use Rattle.replay.proofs.Opening.{fed_more, fed_gathers}
use Rattle.replay.proofs.blocks.Kept.advance.Goals as goal

pub overflow_add-result : goal.overflow_add-result
overflow_add-result c = omega (arith, fed_more c.args.block.now c.requires.0 c.feed-one.ensures c.requires.1)

pub returns : goal.returns
returns c =
    let r = c.requires in
    let f = c.feed-one.ensures in
    (fed_gathers c.args.block.now r.0 f r.1 r.2 c.feed-one.auto.out, (fed_more c.args.block.now r.0 f r.1).0)

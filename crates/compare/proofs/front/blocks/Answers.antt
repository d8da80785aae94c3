-- `front::blocks` meets its contract. The loop's invariant: the bytes up to here are the same. Assumes nothing.
use native.Mathlib.Omega.{arith}
use Rattle.compare.proofs.Sharing.{shares_block}
use Rattle.compare.proofs.front.blocks.Goals as goal

pub loop-at-preserved : goal.loop-at-preserved
loop-at-preserved c =
    (omega arith, omega arith, shares_block c.loop-at.invariant.2 (omega arith) (omega arith) (omega arith) c.same_block.ensures c.if-not-same_block.false)

pub returns-else-not-same_block : goal.returns-else-not-same_block
returns-else-not-same_block c =
    shares_block c.loop-at.invariant.2 (omega arith) (omega arith) (omega arith) c.same_block.ensures c.if-not-same_block.false

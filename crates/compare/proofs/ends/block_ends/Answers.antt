-- `ends::block_ends` meets its contract. The loop's invariant: what is counted and the ends from here on are all. Assumes nothing.
use native.Mathlib.Omega.{arith}
use lib.ListN.{get_or}
use Rattle.compare.proofs.Counting.{byte_marks, mark_few, ends_stop, ends_go}
use Rattle.compare.proofs.ends.block_ends.Goals as goal

pub loop-byte-preserved : goal.loop-byte-preserved
loop-byte-preserved c =
    let l = c.loop-byte in
    let b = get_or c.args.block.now l.byte-index 0 in (
      omega (arith, byte_marks b, mark_few b),
      omega (arith, l.invariant.1, byte_marks b, ends_go c.args.block.now l.byte-index (omega arith)),
    )

pub returns : goal.returns
returns c = omega (arith, c.loop-byte.invariant.1, ends_stop c.args.block.now c.loop-byte.byte-index (omega arith))

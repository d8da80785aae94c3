-- `ends::ends` meets its contract. The loop's invariant: what is counted and the ends from here on are all. Assumes nothing.
use Prim.Native.Nat.{◌+◌}
use native.Mathlib.Omega.{arith}
use Rattle.compare.proofs.WholeLines.{ends_few}
use Rattle.compare.proofs.Counting.{ends_part, ends_whole}
use Rattle.compare.proofs.ends.ends.Goals as goal
use Rattle.compare.proofs.ends.ends.Goals.{else-loop-at-test, then-loop-at-test+else-whole-at-gt240}

pub overflow_add-count : goal.overflow_add-count
overflow_add-count c = omega (arith, c.loop-at.invariant.2, ends_part c.args.log.now (omega arith) c.block_ends.ensures, ends_few c.args.log.now)

pub loop-at-preserved : goal.loop-at-preserved
loop-at-preserved c = (omega arith, omega arith, omega (arith, c.loop-at.invariant.2, ends_part c.args.log.now (omega arith) c.block_ends.ensures))

pub returns : goal.returns
returns c =
    elim c.loop-at-test.branch [
      | else-loop-at-test w ↦ rw w.count-is (ends_whole c.args.log.now _ c.loop-at.invariant.2 (omega arith) (omega arith) c.block_ends-2.ensures)
      | then-loop-at-test+else-whole-at-gt240 w ↦
          rw w.count-is
          (ends_whole c.args.log.now _ {at = c.loop-at.at + 240}
          (omega (arith, c.loop-at.invariant.2, ends_part c.args.log.now (omega arith) w.block_ends.ensures))
          (omega arith) (omega arith) c.block_ends-2.ensures)
    ]

pub overflow_add-result : goal.overflow_add-result
overflow_add-result c = omega (arith, returns c, ends_few c.args.log.now)

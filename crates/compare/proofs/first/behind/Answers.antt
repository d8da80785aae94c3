-- `first::behind` meets its contract. The loop's invariant: what is left of the lines, behind what is passed. Assumes nothing.
use native.Mathlib.Omega.{arith}
use Rattle.compare.proofs.Cutting.{cutting_none, cutting_other, cutting_end, cutting_behind, cutting_over}
use Rattle.compare.proofs.first.behind.Goals as goal
use Rattle.compare.proofs.first.behind.Goals.{then-byte-eq10+else-left-eq0, else-byte-eq10}

pub returns-then-lines-eq0 : goal.returns-then-lines-eq0
returns-then-lines-eq0 c = rw c.if-lines-eq0.true (cutting_none _)

pub returns-then-left-eq0 : goal.returns-then-left-eq0
returns-then-left-eq0 c = cutting_behind c.loop-i.invariant (omega arith) c.if-byte-eq10.true c.if-left-eq0.true

pub loop-i-preserved : goal.loop-i-preserved
loop-i-preserved c =
    elim c.if-byte-eq10.branch [
      | then-byte-eq10+else-left-eq0 w ↦ rw w.left-is (cutting_end c.loop-i.invariant (omega arith) w.if-byte-eq10.true w.if-left-eq0.false)
      | else-byte-eq10 w ↦ rw w.left-is (cutting_other c.loop-i.invariant (omega arith) w.if-byte-eq10.false)
    ]

pub returns : goal.returns
returns c = cutting_over c.loop-i.invariant (omega arith)

-- `LineBegun::fill` meets its contract: a line ends at byte i, one byte more is of it, or it goes on past the block. Assumes nothing.
use mathlib.Core.Path.{◌≡◌}
use native.Mathlib.Omega.{arith}
use lib.ListN.{length}
use Rattle.turn.proofs.Bytes.{end_goes, end_comes, end_none, takes_more}
use Rattle.turn.proofs.begun.LineBegun.fill.Goals as goal

pub returns-then-block-i-eq10 : goal.returns-then-block-i-eq10
returns-then-block-i-eq10 c =
    let l = c.loop-i in
    record { takes = l.invariant.0; all = end_comes _ _ c.loop-i-test.true c.if-block-i-eq10.true l.invariant.1 }

pub loop-i-preserved : goal.loop-i-preserved
loop-i-preserved c =
    let l = c.loop-i in
    let goes = c.if-block-i-eq10.false in
    (takes_more l.invariant.0 c.loop-i-test.true goes c.put.new.self.few.1 c.put.ensures, end_goes _ _ c.loop-i-test.true goes l.invariant.1)

pub returns : goal.returns
returns c =
    let l = c.loop-i in
    let block = c.args.block.now in
    let e : l.i ≡ length block = omega (arith, c.loop-i-test.false, l.auto.i-end) in
    record { takes = rw e at l.invariant.0; all = omega (arith, rw e at l.invariant.1, end_none block) }

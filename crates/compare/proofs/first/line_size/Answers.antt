-- `first::line_size` meets its contract. The loop's invariant: the first i bytes are of the line. Assumes nothing.
use native.Mathlib.Omega.{arith}
use Rattle.compare.proofs.Bytes.{size_ends, size_stops, size_goes}
use Rattle.compare.proofs.first.line_size.Goals as goal

pub returns-then-byte-eq10 : goal.returns-then-byte-eq10
returns-then-byte-eq10 c = omega (arith, c.loop-i.invariant, size_stops c.args.log.now c.loop-i.i (omega arith) c.if-byte-eq10.true)

pub loop-i-preserved : goal.loop-i-preserved
loop-i-preserved c = omega (arith, c.loop-i.invariant, size_goes c.args.log.now c.loop-i.i (omega arith) c.if-byte-eq10.false)

pub returns : goal.returns
returns c = omega (arith, c.loop-i.invariant, size_ends c.args.log.now c.loop-i.i (omega arith))

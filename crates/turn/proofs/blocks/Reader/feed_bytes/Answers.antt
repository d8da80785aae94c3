-- `feed_bytes` meets its contract: the block is of the line begun, or a line ends in it and has its turn. Assumes nothing.
use mathlib.Core.Path.{refl}
use native.Mathlib.Omega.{arith}
use Rattle.turn.proofs.Feeding.{same_shape, feeds_on, feeds_line}
use Rattle.turn.proofs.blocks.Reader.feed_bytes.Goals as goal

pub returns-then-taken-block : goal.returns-then-taken-block
returns-then-taken-block c =
    let f = c.fill-taken.ensures in
    feeds_on f.takes refl c.if-taken-block.true f.all

pub returns : goal.returns
returns c =
    let f = c.fill-taken.ensures in
    feeds_line (omega (arith, f.takes.within, c.if-taken-block.false)) f.all c.clear.ensures
    (λ begun b. same_shape c.fill-taken.new.self.few.0 (f.takes.stored begun b))
    (rw c.text.ensures at c.turn-next.ensures)

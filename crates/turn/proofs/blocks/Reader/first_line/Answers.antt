-- `first_line` meets its contract: the line was read where it stands, or nothing is promised. Assumes nothing.
use mathlib.Core.Path.{sym, ◌∙◌}
use native.Mathlib.Omega.{arith}
use lib.Seq.{length-take-le}
use borrow.Author.Tests.{eqb-true}
use Rattle.lines.proofs.Run.{digits_unless_other}
use Rattle.turn.proofs.Bytes.{digits_end}
use Rattle.turn.proofs.blocks.Reader.first_line.Goals as goal

pub slice_bounds-read-end : goal.slice_bounds-read-end
slice_bounds-read-end c = sym (length-take-le 26 c.args.block.now (omega (arith, c.if-block-gt-LINE_DIGITS.true)))

pub returns-then-block-eq10 : goal.returns-then-block-eq10
returns-then-block-eq10 c n =
    let block = c.args.block.now in
    let ends = c.if-block-gt-LINE_DIGITS.true in
    record {
      none = eqb-true _ 0 (sym c.is_empty.ensures ∙ c.if-is_empty.true);
      size = digits_end block 26 (digits_unless_other _ (λ z. n (c.read.ensures ∙ z))) ends c.if-block-eq10.true;
      ends = ends;
      read = c.read.ensures;
    }

-- `read` meets its contract: a line of another length, one with another byte, and 26 digits, whose parts are read in their places. Assumes nothing.
use mathlib.Core.Bool.{false}
use mathlib.Core.Path.{sym, ap, refl, ◌∙◌}
use native.Mathlib.Omega.{arith}
use borrow.Author.Tests.{ne_eqb}
use Rattle.lines.specs.Line.{shape}
use Rattle.lines.specs.Promise.{numbers}
use Rattle.lines.proofs.Values.{zero_words}
use Rattle.lines.proofs.Worth.{zeros_digits, head, head_none, shape_read, shape_other}
use Rattle.lines.proofs.read.Goals as goal

pub returns-then-line-ne-LINE_DIGITS : goal.returns-then-line-ne-LINE_DIGITS
unfolding shape
returns-then-line-ne-LINE_DIGITS c = rw (ne_eqb _ _ c.if-line-ne-LINE_DIGITS.true) refl

pub returns-then-number-a : goal.returns-then-number-a
returns-then-number-a c =
    let size = c.if-line-ne-LINE_DIGITS.false in
    ap numbers (sym (shape_other _ size (head_none size c.pair-number.ensures.reads c.word-a.ensures c.word-b.ensures c.if-number-a.true)))

pub returns-then-sixteen_zeros : goal.returns-then-sixteen_zeros
returns-then-sixteen_zeros c =
    let line = c.args.line.now in
    let size = c.if-line-ne-LINE_DIGITS.false in
    let h = head size c.pair-number.ensures.reads c.word-a.ensures c.word-b.ensures c.if-number-a.false in
    let each = c.sixteen_zeros.ensures.each c.if-sixteen_zeros.true in
    c.shape_of.ensures
    ∙ ap numbers (sym (shape_read size h (zeros_digits line 10 16 (omega arith) each) (zero_words line 10 (omega arith) each)))

pub returns-in_default : goal.returns-in_default
returns-in_default c =
    let size = c.if-line-ne-LINE_DIGITS.false in
    let h = head size c.pair-number.ensures.reads c.word-a.ensures c.word-b.ensures c.if-number-a.false in
    ap numbers (sym (shape_other _ size (h.rest false (rw c.in_default.is at c.words.ensures))))

pub returns : goal.returns
returns c =
    let size = c.if-line-ne-LINE_DIGITS.false in
    let h = head size c.pair-number.ensures.reads c.word-a.ensures c.word-b.ensures c.if-number-a.false in
    let w = rw c.in-Some.is at c.words.ensures in
    c.shape_of-2.ensures ∙ ap numbers (sym (shape_read size h w.0 w.1))

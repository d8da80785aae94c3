-- `read` meets its contract: one pass decides, and one stores; without a table one pass does both. Assumes nothing.
use native.Mathlib.Omega.{arith}
use Rattle.std.proofs.lemmas.Result.{err_from_is_err_and}
use Rattle.tape.proofs.Answer.{counted_converts, comes_plain, comes_refused, comes_done}
use Rattle.tape.proofs.read.Goals as goal

pub returns-then-words-eq0 : goal.returns-then-words-eq0
returns-then-words-eq0 c =
    rw c.in_ok-mode.ensures at
    (comes_plain _ _ _ _ c.in_ok-mode.mode (rw c.counted-words.ensures at c.if-words-eq0.true)
    c.requires c.without_table-plain.ensures)

pub by_table-requires : goal.by_table-requires
by_table-requires c =
    (rw c.counted-words.ensures (counted_converts _ c.marks-marks.ensures (rw c.counted-words.ensures at c.if-words-eq0.false) c.requires), omega arith)

pub returns-in_err-by_table : goal.returns-in_err-by_table
returns-in_err-by_table c =
    let p = err_from_is_err_and c.from_residual-in_err-by_table.result c.from_residual-in_err-by_table.ensures.1 in
    rw (p.1, p.2)
    (rw c.in_ok-mode.ensures at
    (comes_refused _ _ _ _ c.in_ok-mode.mode (rw c.counted-words.ensures at c.in_err-by_table.ensures)))

pub by_table-requires-2 : goal.by_table-requires-2
by_table-requires-2 c =
    (rw c.counted-words.ensures (counted_converts _ c.marks-marks.ensures (rw c.counted-words.ensures at c.if-words-eq0.false) c.requires), omega arith)

pub returns : goal.returns
returns c =
    rw c.in_ok-mode.ensures at
    (comes_done _ _ _ _ c.in_ok-mode.mode (rw c.counted-words.ensures at c.in_ok-by_table.ensures)
    (rw c.counted-words.ensures at c.by_table-2.ensures))

-- `counted` meets its contract. Assumes nothing.
use mathlib.Core.Logic.{inl, inr}
use mathlib.Core.Path.{sym}
use native.Mathlib.Omega.{arith}
use lib.Seq.{take_all, length-take-le}
use Rattle.tape.proofs.counted.Goals as goal

pub slice_bounds-result-end-then-table-gt-TABLE_WORDS_MOST : goal.slice_bounds-result-end-then-table-gt-TABLE_WORDS_MOST
slice_bounds-result-end-then-table-gt-TABLE_WORDS_MOST c = sym (length-take-le 65536 c.args.table.now (omega arith))

pub returns-else-table-gt-TABLE_WORDS_MOST : goal.returns-else-table-gt-TABLE_WORDS_MOST
returns-else-table-gt-TABLE_WORDS_MOST c =
    let t = sym (take_all 65536 c.args.table.now (omega arith)) in
    elim c.in-Odd.is [ inl e ↦ rw e t | inr e ↦ rw e t ]

-- `close` meets its contract: no line is begun, or one is and has its turn; then the end of the input. Assumes nothing.
use mathlib.Core.Path.{refl, sym, ◌∙◌}
use native.Mathlib.Omega.{arith}
use borrow.Author.Tests.{eqb-true, eqb-false}
use Rattle.turn.proofs.Ending.{still_ready, ends_plain, ends_line}
use Rattle.turn.proofs.blocks.Reader.close.Goals as goal

pub returns-then-is_empty-clause-takes : goal.returns-then-is_empty-clause-takes
returns-then-is_empty-clause-takes c = ends_plain (eqb-true _ 0 (sym c.is_empty.ensures ∙ c.if-is_empty.true)) refl c.finish.ensures

pub finish-requires-2 : goal.finish-requires-2
finish-requires-2 c =
    let r = c.requires.0 in
    still_ready r c.requires.1 (c.turn-next.ensures.leads r.state r.in_words) c.turn-next.auto.out

pub returns-clause-takes : goal.returns-clause-takes
returns-clause-takes c =
    ends_line (omega arith) (eqb-false _ 0 (sym c.is_empty.ensures ∙ c.if-is_empty.false)) (rw c.text.ensures at c.turn-next.ensures) c.finish-2.ensures

-- `moves::halt` meets its contract, whether p is in the running queue or not. Assumes nothing.
use mathlib.Core.Path.{sym, ◌∙◌}
use lib.Dec.{lit<, lit≤}
use Rattle.table.proofs.Queues.{leave_none}
use Rattle.table.proofs.moves.halt.Goals as goal

pub process_word-requires : goal.process_word-requires
process_word-requires c = let p = c.requires in record { m = p.m; shows = p.shows; may = (p.may.process, lit≤ tt, lit< tt) }

pub returns-then-process_word-ne-RUNNING : goal.returns-then-process_word-ne-RUNNING
returns-then-process_word-ne-RUNNING c m s may =
    let e = c.before.process_word.ensures m s (may.process, lit≤ tt, lit< tt) in
    leave_none m _ (λ i. c.if-process_word-ne-RUNNING.true (e ∙ may.runs.1 i)) s

pub leave_running-requires : goal.leave_running-requires
leave_running-requires c =
    let p = c.requires in
    let e = c.before.before.process_word.ensures p.m p.shows (p.may.process, lit≤ tt, lit< tt) in
    record { m = p.m; shows = p.shows; may = record { fits = p.may.fits; stands = p.may.runs.0 (sym e ∙ c.before.if-process_word-ne-RUNNING.false) } }

pub returns : goal.returns
returns c m s may =
    let e = c.before.before.before.before.before.process_word.ensures m s (may.process, lit≤ tt, lit< tt) in
    c.before.before.leave_running.ensures m s (record {
      fits = may.fits;
      stands =
          may.runs.0 (sym e ∙ c.before.before.before.before.if-process_word-ne-RUNNING.false);
    })

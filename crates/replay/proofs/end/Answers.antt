-- `end` meets its contract: what the end answers fits, and is written from the start of `out` on. Assumes nothing.
use mathlib.Core.Path.{sym}
use lib.Seq.{length-take-le}
use Rattle.turn.specs.Feed.{point_after}
use Rattle.replay.proofs.Output.{end_fits, end_written}
use Rattle.replay.proofs.end.Goals as goal

pub slice_bounds-write-end : goal.slice_bounds-write-end
slice_bounds-write-end g c = end_fits c.requires.under_way c.close-last.ensures.takes c.close-last.auto.out

pub slice_bounds-write-end-2 : goal.slice_bounds-write-end-2
slice_bounds-write-end-2 g c = sym (length-take-le _ _ (end_fits c.requires.under_way c.close-last.ensures.takes c.close-last.auto.out))

pub returns-clause-written : goal.returns-clause-written
returns-clause-written g c input h =
    let p = point_after input in
    let k = c.close-last.ensures.takes.closes p.state p.begun h.in_words h.stored in
    rw (end_written input k (end_fits c.requires.under_way c.close-last.ensures.takes c.close-last.auto.out)) at c.write.ensures.written

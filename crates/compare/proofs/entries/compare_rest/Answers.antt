-- `entries::compare_rest` meets its contract. Assumes nothing.
use borrow.Author.Tests.{ltb-true, ltb-false}
use Rattle.compare.proofs.Leftover.{rests_at_second, rests_at_first, part_in_second, part_in_first}
use Rattle.compare.proofs.entries.compare_rest.Goals as goal

pub overflow_sub-start : goal.overflow_sub-start
overflow_sub-start c = part_in_second c.before.before.before.meet-place.ensures (ltb-true _ _ c.if-second.true-raw) c.before.part-size.ensures

pub returns-then-second : goal.returns-then-second
returns-then-second c = rests_at_second c.before.before.before.meet-place.ensures (ltb-true _ _ c.if-second.true-raw) c.before.part-size.ensures

pub overflow_sub-start-2 : goal.overflow_sub-start-2
overflow_sub-start-2 c = part_in_first c.before.before.before.meet-place.ensures (ltb-false _ _ c.if-second.false-raw) c.before.part-size.ensures

pub returns : goal.returns
returns c = rests_at_first c.before.before.before.meet-place.ensures (ltb-false _ _ c.if-second.false-raw) c.before.part-size.ensures

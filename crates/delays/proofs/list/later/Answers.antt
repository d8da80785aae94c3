-- `later` meets its contract, where there is an x and where not. Assumes nothing.
use Rattle.delays.proofs.Reading.{later_none, later_some}
use Rattle.delays.proofs.list.later.Goals as goal

pub returns-then-x-eq0 : goal.returns-then-x-eq0
returns-then-x-eq0 c = later_none _ _ _ c.if-x-eq0.true

pub returns : goal.returns
returns c =
    let found = c.before.before.before.before.before in
    later_some _ _ _ found.before.before.if-x-eq0.false found.difference-c.ensures c.before.before.before.sum.ensures
    c.before.before.put_difference.ensures

-- `rounds::size` meets its contract: who is met leads a ring where it has that mark, and else doesn't. Assumes nothing.
use Rattle.stuck.proofs.Marks.{met_not_lowest}
use Rattle.stuck.proofs.rounds.size.Goals as goal

pub returns-then-met-a-ne-LOWEST : goal.returns-then-met-a-ne-LOWEST
returns-then-met-a-ne-LOWEST c =
    let m = c.before.before.meet.ensures in
    (met_not_lowest m c.before.before.before.before.before.requires.1.0 c.if-met-a-ne-LOWEST.true, m)

pub members-requires : goal.members-requires
members-requires c =
    let p = c.before.before.before.before.before.requires in
    (p.0, (p.1.0, c.before.before.meet.ensures.lowest _ p.1.0 c.if-met-a-ne-LOWEST.false))

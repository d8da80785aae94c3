-- `events::append` meets its contract. Assumes nothing.
use Rattle.table.proofs.Queues.{append_adds, append_shown}
use Rattle.table.proofs.events.append.Goals as goal

pub append-requires : goal.append-requires
append-requires c =
    let p = c.before.before.requires in
    record { m = p.m; shows = p.shows; may = append_adds p.m _ _ p.may }

pub returns : goal.returns
returns c m s may =
    let a = c.before.before.before.before.before.args in
    append_shown m a.p a.b may.process (c.before.before.append.ensures m s (append_adds m a.p a.b may))

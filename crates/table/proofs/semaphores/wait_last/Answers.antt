-- `semaphores::wait_last` meets its contract. Assumes nothing.
use Rattle.table.proofs.Queues.{lower_adds, lower_shown}
use Rattle.table.proofs.semaphores.wait_last.Goals as goal

pub append-requires : goal.append-requires
append-requires c =
    let p = c.before.before.requires in
    record { m = p.m; shows = p.shows; may = lower_adds p.m _ _ p.may }

pub returns : goal.returns
returns c m w may =
    let a = c.before.before.before.before.before.args in
    lower_shown m a.s a.p may.semaphore.0 (c.before.before.append.ensures m w (lower_adds m a.s a.p may))

-- `running::leave_running` meets its contract. Assumes nothing.
use Rattle.table.proofs.Queues.{leave_removes}
use Rattle.table.proofs.running.leave_running.Goals as goal

pub remove-requires : goal.remove-requires
remove-requires c =
    let p = c.before.before.requires in
    record { m = p.m; shows = p.shows; may = leave_removes p.m p.may }

pub returns : goal.returns
returns c m s may = c.before.before.remove.ensures m s (leave_removes m may)

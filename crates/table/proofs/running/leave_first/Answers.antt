-- `running::leave_first` meets its contract. Assumes nothing.
use Rattle.table.proofs.Queues.{pause_removes}
use Rattle.table.proofs.running.leave_first.Goals as goal

pub remove_behind-requires : goal.remove_behind-requires
remove_behind-requires c =
    let p = c.before.before.requires in
    record { m = p.m; shows = p.shows; may = pause_removes p.m p.may }

pub returns : goal.returns
returns c m s may = c.before.before.remove_behind.ensures m s (pause_removes m may)

-- `events::unlink_first` meets its contract. Assumes nothing.
use Rattle.table.proofs.Queues.{unlink_first_removes, unlink_shown}
use Rattle.table.proofs.events.unlink_first.Goals as goal

pub remove_behind-requires : goal.remove_behind-requires
remove_behind-requires c =
    let p = c.before.before.requires in
    record { m = p.m; shows = p.shows; may = unlink_first_removes p.m _ _ p.may }

pub returns : goal.returns
returns c m s may =
    let a = c.before.before.before.before.before.args in
    unlink_shown m a.p a.b may.0.process (c.before.before.remove_behind.ensures m s (unlink_first_removes m a.p a.b may))

-- `events::unlink` meets its contract. Assumes nothing.
use Rattle.table.proofs.Queues.{unlink_removes, unlink_shown}
use Rattle.table.proofs.events.unlink.Goals as goal

pub remove-requires : goal.remove-requires
remove-requires c =
    let p = c.before.before.requires in
    record { m = p.m; shows = p.shows; may = unlink_removes p.m _ _ p.may }

pub returns : goal.returns
returns c m s may =
    let a = c.before.before.before.before.before.args in
    unlink_shown m a.p a.b may.process (c.before.before.remove.ensures m s (unlink_removes m a.p a.b may))

-- `semaphores::leave_semaphore` meets its contract: out of the queue, then counted out. Assumes nothing.
use Rattle.table.proofs.Queues.{rise_removes, rise_shown, rise_counts}
use Rattle.table.proofs.semaphores.leave_semaphore.Goals as goal

pub remove-requires : goal.remove-requires
remove-requires c =
    let p = c.before.before.requires in
    record { m = p.m; shows = p.shows; may = rise_removes p.m _ _ p.may }

pub count_out-requires : goal.count_out-requires
count_out-requires c =
    let p = c.before.before.before.before.before.before.requires in
    let s1 = c.before.before.before.remove.ensures p.m p.shows (rise_removes p.m _ _ p.may) in
    record { m = _; shows = rise_shown p.m _ _ p.may.semaphore.0 s1; may = rise_counts p.m _ _ p.may }

pub returns : goal.returns
returns c m s may =
    let after-remove = c.before.before.before.before.before.before in
    let start = after-remove.before.before.before in
    let a = start.args in
    let s1 = after-remove.remove.ensures m s (rise_removes m a.s a.p may) in
    c.before.before.count_out.ensures _ (rise_shown m a.s a.p may.semaphore.0 s1) (rise_counts m a.s a.p may)

-- `semaphores::leave_first` meets its contract: out of the queue, behind nobody, then counted out. Assumes nothing.
use Rattle.table.proofs.Queues.{rise_first_removes, rise_shown, rise_counts}
use Rattle.table.proofs.semaphores.leave_first.Goals as goal

pub remove_behind-requires : goal.remove_behind-requires
remove_behind-requires c =
    let p = c.before.before.requires in
    record { m = p.m; shows = p.shows; may = rise_first_removes p.m _ _ p.may }

pub count_out-requires : goal.count_out-requires
count_out-requires c =
    let p = c.before.before.before.before.before.before.requires in
    let s1 = c.before.before.before.remove_behind.ensures p.m p.shows (rise_first_removes p.m _ _ p.may) in
    record { m = _; shows = rise_shown p.m _ _ p.may.0.semaphore.0 s1; may = rise_counts p.m _ _ p.may.0 }

pub returns : goal.returns
returns c m s may =
    let after-remove-behind = c.before.before.before.before.before.before in
    let start = after-remove-behind.before.before.before in
    let a = start.args in
    let s1 = after-remove-behind.remove_behind.ensures m s (rise_first_removes m a.s a.p may) in
    c.before.before.count_out.ensures _ (rise_shown m a.s a.p may.0.semaphore.0 s1) (rise_counts m a.s a.p may.0)

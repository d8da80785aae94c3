-- `semaphores::wait_in_queue` meets its contract: p pauses, names the semaphore, goes last in its queue, and the counter is set. Assumes nothing.
use Rattle.answers.proofs.Promises.{can}
use Rattle.processes.proofs.Lowering.{queue_names, queue_lowers}
use Rattle.processes.proofs.semaphores.wait_in_queue.Goals as goal

-- ---- the places behind each call, each from the next
-- ---- the calls
pub pause-requires : goal.pause-requires
pause-requires c = can c.before.before.requires (λ m w may. may.pauses)

pub set_named-requires : goal.set_named-requires
set_named-requires c =
    let e = c.before.before.before in
    let p = e.requires in
    record { m = _; shows = e.pause.ensures p.m p.shows p.may.pauses; may = queue_names p.m _ _ p.may }

pub wait_last-requires : goal.wait_last-requires
wait_last-requires c =
    let e = c.before.before.before in
    let p = (e).requires in
    let s1 = e.pause.ensures p.m p.shows p.may.pauses in
    record { m = _; shows = e.set_named.ensures _ s1 (queue_names p.m _ _ p.may); may = queue_lowers p.m _ _ p.may }

pub set_counter-requires : goal.set_counter-requires
set_counter-requires c =
    let e = c.before.before.before in
    let p = (e).requires in
    let s1 = (e).pause.ensures p.m p.shows p.may.pauses in
    let s2 = e.set_named.ensures _ s1 (queue_names p.m _ _ p.may) in
    record { m = _; shows = e.wait_last.ensures _ s2 (queue_lowers p.m _ _ p.may); may = p.may.semaphore }

pub returns : goal.returns
returns c m w may =
    let e = c.before.before.before.before.before.before in
    let a = (e).args in
    let s1 = (e).pause.ensures m w may.pauses in
    let s2 = e.set_named.ensures _ s1 (queue_names m a.p a.a may) in
    let s3 = e.wait_last.ensures _ s2 (queue_lowers m a.p a.a may) in
    c.before.before.set_counter.ensures _ s3 may.semaphore

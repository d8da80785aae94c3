-- `moves::stop` meets its contract: p leaves its semaphore, the wait ends, p leaves the running queue if it is there, then state and reason are set.
-- Assumes nothing.
use lib.Dec.{lit<, lit≤}
use Rattle.table.proofs.Queues.{off_halts}
use Rattle.table.proofs.moves.stop.Goals as goal

pub off_semaphore-requires : goal.off_semaphore-requires
off_semaphore-requires c = let p = c.before.before.requires in record { m = p.m; shows = p.shows; may = p.may.off }

pub end_wait-requires : goal.end_wait-requires
end_wait-requires c =
    let p = c.before.before.before.before.before.before.requires in
    let may = p.may in
    let s1 = c.before.before.before.off_semaphore.ensures p.m p.shows may.off in
    record { m = _; shows = s1; may = may.waits }

pub halt-requires : goal.halt-requires
halt-requires c =
    let after-end-wait = c.before.before.before in
    let after-off-semaphore = after-end-wait.before.before.before.before in
    let start = after-off-semaphore.before.before.before in
    let p = start.requires in
    let may = p.may in
    let s1 = after-off-semaphore.off_semaphore.ensures p.m p.shows may.off in
    let s2 = after-end-wait.end_wait.ensures _ s1 may.waits in
    record { m = _; shows = s2; may = off_halts p.m _ may.halts }

pub set_process_word-requires : goal.set_process_word-requires
set_process_word-requires c =
    let after-halt = c.before.before.before in
    let after-end-wait = after-halt.before.before.before.before in
    let after-off-semaphore = after-end-wait.before.before.before.before in
    let start = after-off-semaphore.before.before.before in
    let p = start.requires in
    let may = p.may in
    let s1 = after-off-semaphore.off_semaphore.ensures p.m p.shows may.off in
    let s2 = after-end-wait.end_wait.ensures _ s1 may.waits in
    let s3 = after-halt.halt.ensures _ s2 (off_halts p.m _ may.halts) in
    record { m = _; shows = s3; may = (may.halts.process, lit≤ tt, lit< tt) }

pub set_process_word-requires-2 : goal.set_process_word-requires-2
set_process_word-requires-2 c =
    let after-set-process-word = c.before.before.before in
    let after-halt = after-set-process-word.before.before.before.before in
    let after-end-wait = after-halt.before.before.before.before in
    let after-off-semaphore = after-end-wait.before.before.before.before in
    let start = after-off-semaphore.before.before.before in
    let p = start.requires in
    let may = p.may in
    let s1 = after-off-semaphore.off_semaphore.ensures p.m p.shows may.off in
    let s2 = after-end-wait.end_wait.ensures _ s1 may.waits in
    let s3 = after-halt.halt.ensures _ s2 (off_halts p.m _ may.halts) in
    let s4 = after-set-process-word.set_process_word.ensures _ s3 (may.halts.process, lit≤ tt, lit< tt) in
    record { m = _; shows = s4; may = (may.halts.process, lit≤ tt, lit< tt) }

pub returns : goal.returns
returns c m s may =
    let after-set-process-word = c.before.before.before.before.before.before in
    let after-halt = after-set-process-word.before.before.before.before in
    let after-end-wait = after-halt.before.before.before.before in
    let after-off-semaphore = after-end-wait.before.before.before.before in
    let start = after-off-semaphore.before.before.before in
    let p = start.args.p in
    let s1 = after-off-semaphore.off_semaphore.ensures m s may.off in
    let s2 = after-end-wait.end_wait.ensures _ s1 may.waits in
    let s3 = after-halt.halt.ensures _ s2 (off_halts m p may.halts) in
    let s4 = after-set-process-word.set_process_word.ensures _ s3 (may.halts.process, lit≤ tt, lit< tt) in
    c.before.before.set_process_word-2.ensures _ s4 (may.halts.process, lit≤ tt, lit< tt)

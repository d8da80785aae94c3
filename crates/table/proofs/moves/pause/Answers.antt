-- `moves::pause` meets its contract: p leaves the running queue, then state and reason are set. Assumes nothing.
use lib.Dec.{lit<, lit≤}
use Rattle.table.proofs.Queues.{leaves_process}
use Rattle.table.proofs.moves.pause.Goals as goal

pub set_process_word-requires : goal.set_process_word-requires
set_process_word-requires c =
    let p = c.before.before.before.before.before.before.requires in
    let may = p.may in
    let s1 = c.before.before.before.leave_first.ensures p.m p.shows may in
    record { m = _; shows = s1; may = (leaves_process may.leaves, lit≤ tt, lit< tt) }

pub set_process_word-requires-2 : goal.set_process_word-requires-2
set_process_word-requires-2 c =
    let after-set-process-word = c.before.before.before in
    let after-leave-first = after-set-process-word.before.before.before.before in
    let start = after-leave-first.before.before.before in
    let p = start.requires in
    let may = p.may in
    let s1 = after-leave-first.leave_first.ensures p.m p.shows may in
    let s2 = after-set-process-word.set_process_word.ensures _ s1 (leaves_process may.leaves, lit≤ tt, lit< tt) in
    record { m = _; shows = s2; may = (leaves_process may.leaves, lit≤ tt, lit< tt) }

pub returns : goal.returns
returns c m s may =
    let after-set-process-word = c.before.before.before.before.before.before in
    let after-leave-first = after-set-process-word.before.before.before.before in
    let s1 = after-leave-first.leave_first.ensures m s may in
    let s2 = after-set-process-word.set_process_word.ensures _ s1 (leaves_process may.leaves, lit≤ tt, lit< tt) in
    c.before.before.set_process_word-2.ensures _ s2 (leaves_process may.leaves, lit≤ tt, lit< tt)

-- `moves::end_wait` meets its contract: device word, delay, buffer and device waited for in turn. Assumes nothing.
use lib.Dec.{lit<, lit≤}
use Rattle.table.proofs.moves.end_wait.Goals as goal

pub set_process_word-requires : goal.set_process_word-requires
set_process_word-requires c =
    let p = c.before.before.before.before.before.before.requires in
    let may = p.may in
    let s1 = c.before.before.before.off_device.ensures p.m p.shows may in
    record { m = _; shows = s1; may = (may.process, lit≤ tt, lit< tt) }

pub set_process_word-requires-2 : goal.set_process_word-requires-2
set_process_word-requires-2 c =
    let after-set-process-word = c.before.before.before in
    let after-off-device = after-set-process-word.before.before.before.before in
    let start = after-off-device.before.before.before in
    let p = start.requires in
    let may = p.may in
    let s1 = after-off-device.off_device.ensures p.m p.shows may in
    let s2 = after-set-process-word.set_process_word.ensures _ s1 (may.process, lit≤ tt, lit< tt) in
    record { m = _; shows = s2; may = (may.process, lit≤ tt, lit< tt) }

pub set_process_word-requires-3 : goal.set_process_word-requires-3
set_process_word-requires-3 c =
    let after-set-process-word2 = c.before.before.before in
    let after-set-process-word = after-set-process-word2.before.before.before.before in
    let after-off-device = after-set-process-word.before.before.before.before in
    let start = after-off-device.before.before.before in
    let p = start.requires in
    let may = p.may in
    let s1 = after-off-device.off_device.ensures p.m p.shows may in
    let s2 = after-set-process-word.set_process_word.ensures _ s1 (may.process, lit≤ tt, lit< tt) in
    let s3 = after-set-process-word2.set_process_word-2.ensures _ s2 (may.process, lit≤ tt, lit< tt) in
    record { m = _; shows = s3; may = (may.process, lit≤ tt, lit< tt) }

pub returns : goal.returns
returns c m s may =
    let after-set-process-word2 = c.before.before.before.before.before.before in
    let after-set-process-word = after-set-process-word2.before.before.before.before in
    let after-off-device = after-set-process-word.before.before.before.before in
    let s1 = after-off-device.off_device.ensures m s may in
    let s2 = after-set-process-word.set_process_word.ensures _ s1 (may.process, lit≤ tt, lit< tt) in
    let s3 = after-set-process-word2.set_process_word-2.ensures _ s2 (may.process, lit≤ tt, lit< tt) in
    c.before.before.set_process_word-3.ensures _ s3 (may.process, lit≤ tt, lit< tt)

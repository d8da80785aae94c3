-- `moves::wake` meets its contract: the wait ends, state and reason are set, and p enters the running queue. Assumes nothing.
use lib.Dec.{lit<, lit≤}
use Rattle.table.proofs.moves.wake.Goals as goal

pub end_wait-requires : goal.end_wait-requires
end_wait-requires c =
    let p = c.before.before.requires in
    let may = p.may in
    record { m = p.m; shows = p.shows; may = may.waits }

pub set_process_word-requires : goal.set_process_word-requires
set_process_word-requires c =
    let p = c.before.before.before.before.before.before.requires in
    let may = p.may in
    let s1 = c.before.before.before.end_wait.ensures p.m p.shows may.waits in
    record { m = _; shows = s1; may = (may.waits.process, lit≤ tt, lit< tt) }

pub set_process_word-requires-2 : goal.set_process_word-requires-2
set_process_word-requires-2 c =
    let after-set-process-word = c.before.before.before in
    let after-end-wait = after-set-process-word.before.before.before.before in
    let start = after-end-wait.before.before.before in
    let p = start.requires in
    let may = p.may in
    let s1 = after-end-wait.end_wait.ensures p.m p.shows may.waits in
    let s2 = after-set-process-word.set_process_word.ensures _ s1 (may.waits.process, lit≤ tt, lit< tt) in
    record { m = _; shows = s2; may = (may.waits.process, lit≤ tt, lit< tt) }

pub enter_running-requires : goal.enter_running-requires
enter_running-requires c =
    let after-set-process-word2 = c.before.before.before in
    let after-set-process-word = after-set-process-word2.before.before.before.before in
    let after-end-wait = after-set-process-word.before.before.before.before in
    let start = after-end-wait.before.before.before in
    let p = start.requires in
    let may = p.may in
    let s1 = after-end-wait.end_wait.ensures p.m p.shows may.waits in
    let s2 = after-set-process-word.set_process_word.ensures _ s1 (may.waits.process, lit≤ tt, lit< tt) in
    let s3 = after-set-process-word2.set_process_word-2.ensures _ s2 (may.waits.process, lit≤ tt, lit< tt) in
    record { m = _; shows = s3; may = may.enters }

pub returns : goal.returns
returns c =
    let after-set-process-word2 = c.before.before.before.before.before.before in
    let after-set-process-word = after-set-process-word2.before.before.before.before in
    let after-end-wait = after-set-process-word.before.before.before.before in
    let ends = after-end-wait.end_wait.ensures in
    let state = after-set-process-word.set_process_word.ensures in
    let reason = after-set-process-word2.set_process_word-2.ensures in
    let enters = c.before.before.enter_running.ensures in
    record {
      words = λ m s may. enters.words _
          (reason _ (state _ (ends m s may.waits) (may.waits.process, lit≤ tt, lit< tt)) (may.waits.process, lit≤ tt, lit< tt)) may.enters;
      gives = λ m s may. enters.gives _
          (reason _ (state _ (ends m s may.waits) (may.waits.process, lit≤ tt, lit< tt)) (may.waits.process, lit≤ tt, lit< tt)) may.enters;
    }

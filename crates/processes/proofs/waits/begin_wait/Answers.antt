-- `waits::begin_wait` meets its contract: p pauses, then its word is set. Assumes nothing.
use Rattle.table.proofs.Queues.{leaves_process}
use Rattle.answers.proofs.Promises.{can}
use Rattle.processes.proofs.waits.begin_wait.Goals as goal

pub pause-requires : goal.pause-requires
pause-requires c = can c.before.before.requires (λ m w may. may.0)

pub set_process_word-requires : goal.set_process_word-requires
set_process_word-requires c =
    let p = c.before.before.before.before.before.before.requires in
    let may = p.may in
    record { m = _; shows = c.before.before.before.pause.ensures p.m p.shows may.0; may = (leaves_process may.0.leaves, may.1, may.2) }

pub returns : goal.returns
returns c m w may =
    let s = c.before.before.before.before.before.before.pause.ensures m w may.0 in
    c.before.before.set_process_word.ensures _ s (leaves_process may.0.leaves, may.1, may.2)

-- `semaphores::go_on` meets its contract: the reason, then the counter. Assumes nothing.
use lib.Dec.{lit<, lit≤}
use Rattle.machine.specs.Machine.{put_process}
use Rattle.table.specs.Promise.{Does}
use Rattle.table.proofs.Queues.{leaves_process}
use Rattle.table.proofs.Plain.{counter_shown}
use Rattle.answers.proofs.Promises.{can}
use Rattle.processes.specs.Semaphores.{MayWaitInQueue}
use Rattle.processes.proofs.semaphores.go_on.Goals as goal
use Rattle.processes.proofs.semaphores.go_on.Goals.{After-set_process_word}

pub set_process_word-requires : goal.set_process_word-requires
set_process_word-requires c = can c.before.before.requires (λ m w may. (leaves_process may.pauses.leaves, lit≤ tt, lit< tt))

-- ---- with its reason
reasons : (e : After-set_process_word) → let a = e.args in
    Does a.t.now e.set_process_word.new.t (MayWaitInQueue a.p a.a) (put_process a.p 5 0)
reasons e m w may = e.set_process_word.ensures m w (leaves_process may.pauses.leaves, lit≤ tt, lit< tt)

pub set_counter-requires : goal.set_counter-requires
set_counter-requires c =
    let e = c.before.before.before in
    let p = e.requires in
    record { m = _; shows = reasons (goal.at.set_counter-requires c).After-set_process_word p.m p.shows p.may; may = p.may.semaphore }

pub returns : goal.returns
returns c m w may =
    let e = c.before.before.before.before.before.before in
    let a = e.args in
    counter_shown (put_process a.p 5 0 m) a.a a.x (c.before.before.set_counter.ensures _
    (reasons (goal.at.returns c).After-set_process_word m w may) may.semaphore)

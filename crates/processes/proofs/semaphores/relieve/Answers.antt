-- `semaphores::relieve` meets its contract: out of the queue of the semaphore that it names, then awake. Assumes nothing.
use Rattle.machine.specs.Moves.{off_semaphore}
use Rattle.table.specs.Promise.{Does}
use Rattle.answers.proofs.Promises.{can}
use Rattle.processes.specs.Semaphores.{MayRelieve}
use Rattle.processes.proofs.Lowering.{relieved_wakes}
use Rattle.processes.proofs.semaphores.relieve.Goals as goal
use Rattle.processes.proofs.semaphores.relieve.Goals.{After-leave_first}

pub leave_first-requires : goal.leave_first-requires
leave_first-requires c = can c.before.before.requires (λ m w may. may.rises)

-- ---- out of the queue
leaves : (e : After-leave_first) → let a = e.args in Does a.t.now e.leave_first.new.t (MayRelieve a.a a.p) (off_semaphore a.p)
leaves e m w may = rw may.rises.0.names (e.leave_first.ensures m w may.rises)

pub wake-requires : goal.wake-requires
wake-requires c =
    let e = c.before.before.before in
    let p = e.requires in
    record { m = off_semaphore e.args.p p.m; shows = leaves (goal.at.wake-requires c).After-leave_first p.m p.shows p.may; may = relieved_wakes p.m _ _ p.may }

pub returns : goal.returns
returns c =
    let e = c.before.before.before.before.before.before in
    let p = e.args.p in
    let wakes = c.before.before.wake.ensures in
    record {
      words = λ m w may. wakes.words (off_semaphore p m) (leaves (goal.at.returns c).After-leave_first m w may) (relieved_wakes m _ p may);
      gives = λ m w may. wakes.gives (off_semaphore p m) (leaves (goal.at.returns c).After-leave_first m w may) (relieved_wakes m _ p may);
    }

-- `waits::take_interrupt` meets its contract: p has no reason any more, and the device keeps nothing. Assumes nothing.
use native.Mathlib.Omega.{arith}
use Rattle.machine.specs.Machine.{put_process}
use Rattle.table.specs.Promise.{Does}
use Rattle.table.proofs.Queues.{leaves_process}
use Rattle.answers.proofs.Promises.{can}
use Rattle.processes.specs.Waits.{MayWaitDevice}
use Rattle.processes.proofs.waits.take_interrupt.Goals as goal
use Rattle.processes.proofs.waits.take_interrupt.Goals.{After-set_process_word}

pub set_process_word-requires : goal.set_process_word-requires
set_process_word-requires c = can c.before.before.requires (λ m w may. (leaves_process may.0.leaves, omega arith, omega arith))

-- ---- with its reason
reasons : (e : After-set_process_word) → let a = e.args in
    Does a.t.now e.set_process_word.new.t (MayWaitDevice a.p a.a) (put_process a.p 5 0)
reasons e m w may = e.set_process_word.ensures m w (leaves_process may.0.leaves, omega arith, omega arith)

pub set_device_word-requires : goal.set_device_word-requires
set_device_word-requires c =
    let e = c.before.before.before in
    let p = e.requires in
    record { m = _; shows = reasons (goal.at.set_device_word-requires c).After-set_process_word p.m p.shows p.may; may = p.may.1 }

pub done-requires : goal.done-requires
done-requires c =
    let e = c in
    let p = e.requires in
    record { m = _; shows = e.set_device_word.ensures _ (reasons (goal.at.done-requires c).After-set_process_word p.m p.shows p.may) p.may.1; may = tt }

pub returns : goal.returns
returns c m w may =
    let e = c in
    let s = e.set_device_word.ensures _ (reasons (goal.at.returns c).After-set_process_word m w may) may.1 in
    record { answer = c.done.ensures _ s tt; words = s }

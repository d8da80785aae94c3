-- `waits::begin_device_wait` meets its contract: p waits, then its delay and the device word are set. Assumes nothing.
use native.Mathlib.Omega.{arith}
use Prim.Native.Nat.{◌+◌}
use Rattle.machine.specs.Machine.{put_process}
use Rattle.machine.specs.Moves.{pause}
use Rattle.table.specs.Promise.{Does}
use Rattle.table.proofs.Queues.{leaves_process}
use Rattle.answers.proofs.Promises.{can}
use Rattle.processes.specs.Waits.{MayWaitDevice}
use Rattle.processes.proofs.waits.begin_device_wait.Goals as goal
use Rattle.processes.proofs.waits.begin_device_wait.Goals.{After-begin_wait, After-set_process_word}

pub overflow_add-a : goal.overflow_add-a
overflow_add-a c = omega (arith, c.before.before.requires.may.1)

pub begin_wait-requires : goal.begin_wait-requires
begin_wait-requires c = can c.before.before.requires (λ m w may. (may.0, omega arith, omega arith))

-- ---- the places behind each call, each from the next, and what the words show there
waits : (e : After-begin_wait) → let a = e.args in
    Does a.t.now e.begin_wait.new.t (MayWaitDevice a.p a.a) (λ m. put_process a.p 8 (a.a + 1) (pause 4 a.p m))
waits e m w may = e.begin_wait.ensures m w (may.0, omega arith, omega arith)

pub set_process_word-requires : goal.set_process_word-requires
set_process_word-requires c =
    let e = c.before.before.before in
    let p = e.requires in
    record {
      m = _;
      shows = waits (goal.at.set_process_word-requires c).After-begin_wait p.m p.shows p.may;
      may =
          (leaves_process p.may.0.leaves, omega arith, omega arith);
    }

delays : (e : After-set_process_word) → let a = (e).args in
    Does a.t.now e.set_process_word.new.t (MayWaitDevice a.p a.a)
    (λ m. put_process a.p 6 a.delay (put_process a.p 8 (a.a + 1) (pause 4 a.p m)))
delays e m w may = e.set_process_word.ensures _ (waits (goal.at.After-set_process_word e).After-begin_wait m w may)
    (leaves_process may.0.leaves, omega arith, omega arith)

pub set_device_word-requires : goal.set_device_word-requires
set_device_word-requires c =
    let e = c.before.before.before in
    let p = (e).requires in
    record { m = _; shows = delays (goal.at.set_device_word-requires c).After-set_process_word p.m p.shows p.may; may = p.may.1 }

pub returns : goal.returns
returns c m w may = c.before.before.set_device_word.ensures _ (delays (goal.at.returns c).After-set_process_word m w may) may.1

-- `semaphores::set_counter` meets its contract. Assumes nothing.
use native.Mathlib.Omega.{arith}
use Rattle.machine.specs.Words.{Semaphore}
use Rattle.table.proofs.Store.{in_table}
use Rattle.table.proofs.Plain.{counter_stored}
use Rattle.table.proofs.semaphores.set_counter.Goals as goal

pub offset_bounds-t-i : goal.offset_bounds-t-i
offset_bounds-t-i c =
    let p = c.requires in
    omega (arith, in_table p.shows (Semaphore _ 0) (p.may.0, p.may.1, omega arith))

pub bounds-t-i : goal.bounds-t-i
bounds-t-i c =
    let p = c.requires in
    rw c.of_semaphore-i.ensures (in_table p.shows (Semaphore _ 0) (p.may.0, p.may.1, omega arith))

pub returns : goal.returns
returns c m w may =
    let a = c.args in
    rw c.of_semaphore-i.ensures (counter_stored w a.s a.x may)

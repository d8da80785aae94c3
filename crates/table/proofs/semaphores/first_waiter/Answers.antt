-- `semaphores::first_waiter` meets its contract. Assumes nothing.
use native.Mathlib.Omega.{arith}
use mathlib.Core.Path.{◌∙◌}
use Rattle.machine.specs.Words.{Semaphore}
use Rattle.lists.proofs.Links.{first_is}
use Rattle.laws.proofs.Decoded.{process_queue_is}
use Rattle.table.proofs.Store.{in_table, word_there}
use Rattle.table.proofs.semaphores.first_waiter.Goals as goal

pub offset_bounds-t-of_semaphore : goal.offset_bounds-t-of_semaphore
offset_bounds-t-of_semaphore c =
    let p = c.before.before.requires in
    omega (arith, in_table p.shows (Semaphore _ 1) (p.may.0, p.may.1, omega arith))

pub bounds-t-of_semaphore : goal.bounds-t-of_semaphore
bounds-t-of_semaphore c =
    let p = c.before.before.before.requires in
    rw c.before.of_semaphore.ensures (in_table p.shows (Semaphore _ 1) (p.may.0, p.may.1, omega arith))

pub returns : goal.returns
returns c m w may =
    let a = c.before.before.before.args.s in
    rw c.before.of_semaphore.ensures
    (word_there w (Semaphore _ 1) (may.0, may.1, omega arith) ∙ rw (process_queue_is m a may.0) (first_is 0 (m.waiters a)))

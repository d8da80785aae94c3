-- `indices::of_head` meets its contract, for the running queue and for another. Assumes nothing.
use native.Mathlib.Omega.{arith}
use Rattle.table.proofs.Linking.{head_semaphore}
use Rattle.table.proofs.indices.of_head.Goals as goal

pub returns-then-number-eq-RUNNING_NUMBER : goal.returns-then-number-eq-RUNNING_NUMBER
returns-then-number-eq-RUNNING_NUMBER c = rw c.if-number-eq-RUNNING_NUMBER.true (omega arith)

pub returns : goal.returns
returns c =
    let a = c.before.before.before.args in
    rw (head_semaphore a.number a.side c.before.if-number-eq-RUNNING_NUMBER.false) (omega (arith, c.of_semaphore.ensures))

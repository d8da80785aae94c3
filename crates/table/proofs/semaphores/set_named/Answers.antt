-- `semaphores::set_named` meets its contract. Assumes nothing.
use Rattle.table.proofs.Plain.{named_stored}
use Rattle.table.proofs.semaphores.set_named.Goals as goal

pub returns : goal.returns
returns c m w may =
    let a = c.before.before.args in
    rw c.of_process-i.ensures (named_stored w a.p a.s may)

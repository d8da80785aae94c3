-- `words::set_process_word` meets its contract. Assumes nothing.
use Rattle.table.proofs.Plain.{process_stored}
use Rattle.table.proofs.words.set_process_word.Goals as goal

pub returns : goal.returns
returns c m s may =
    let a = c.before.before.args in
    rw c.of_process-i.ensures (process_stored s a.p a.f a.x may)

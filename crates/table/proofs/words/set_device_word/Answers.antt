-- `words::set_device_word` meets its contract. Assumes nothing.
use Rattle.table.proofs.Plain.{device_stored}
use Rattle.table.proofs.words.set_device_word.Goals as goal

pub returns : goal.returns
returns c m s may = device_stored s c.args.d c.args.x may

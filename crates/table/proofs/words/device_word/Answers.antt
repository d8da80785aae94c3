-- `words::device_word` meets its contract. Assumes nothing.
use Rattle.laws.proofs.Decoded.{shows_agree}
use Rattle.table.proofs.words.device_word.Goals as goal

pub returns : goal.returns
returns c m s may = (shows_agree s).device c.before.args.d may

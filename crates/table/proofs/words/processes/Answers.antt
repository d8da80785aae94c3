-- `words::processes` meets its contract: the word is the number of processes of what is shown. Assumes nothing.
use Rattle.laws.proofs.Decoded.{shows_agree}
use Rattle.table.proofs.words.processes.Goals as goal

pub returns : goal.returns
returns c m s may = (shows_agree s).P

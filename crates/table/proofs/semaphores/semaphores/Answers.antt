-- `semaphores::semaphores` meets its contract: the word is the number of semaphores of what is shown. Assumes nothing.
use Rattle.laws.proofs.Decoded.{shows_agree}
use Rattle.table.proofs.semaphores.semaphores.Goals as goal

pub returns : goal.returns
returns c m s may = (shows_agree s).header.1

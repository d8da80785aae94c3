-- `words::edition` meets its contract: the word is the edition of what is shown. Assumes nothing.
use Rattle.laws.proofs.Decoded.{shows_agree}
use Rattle.table.proofs.words.edition.Goals as goal

pub returns : goal.returns
returns c m s may = (shows_agree s).header.0

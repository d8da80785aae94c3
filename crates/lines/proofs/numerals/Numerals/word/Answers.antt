-- `Numerals::word` meets its contract: four bytes are worth 256 times the first two and the last two. Assumes nothing.
use Rattle.lines.proofs.Worth.{reads_word}
use Rattle.lines.proofs.numerals.Numerals.word.Goals as goal

pub returns : goal.returns
returns c = reads_word c.requires c.pair.ensures c.pair-2.ensures

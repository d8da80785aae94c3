-- `Numerals::pair` meets its contract: two bytes are worth 16 times the first and the second. Assumes nothing.
use Rattle.lines.proofs.Worth.{reads_pair}
use Rattle.lines.proofs.numerals.Numerals.pair.Goals as goal

pub returns : goal.returns
returns c = rw (c.worth.ensures.0, c.worth-2.ensures.0) (reads_pair c.args.line.now c.args.at c.requires)

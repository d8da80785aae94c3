-- `Numerals::put_word` meets its contract: four digits are two and two. Assumes nothing.
use Rattle.lines.proofs.Numbers.{length_digits, digits_split}
use Rattle.lines.proofs.Stores.{behind}
use Rattle.lines.proofs.numerals.Numerals.put_word.Goals as goal

pub returns : goal.returns
returns c = rw digits_split (behind c.put_pair.ensures c.put_pair-2.ensures (rw length_digits))

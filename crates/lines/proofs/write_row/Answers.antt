-- `write_row` meets its contract: the row's words, its age, and the line's end behind them. Assumes nothing.
use mathlib.Core.Path.{refl}
use native.Mathlib.Omega.{arith}
use Rattle.lines.specs.Digits.{digits}
use Rattle.lines.proofs.Stores.{behind}
use Rattle.lines.proofs.write_row.Goals as goal

pub returns : goal.returns
unfolding digits
returns c =
    record {
      put = behind (behind c.put_words.ensures c.put_word.ensures refl) c.end_line.ensures.put refl;
      place = omega (arith, c.end_line.ensures.place);
    }

-- `Numerals::put_words` meets its contract: zeros at a stroke, or four words, each behind the one before. Assumes nothing.
use mathlib.Core.Path.{refl, sym, ◌∙◌}
use Rattle.machine.specs.Exchange.{words_in}
use Rattle.lines.specs.Digits.{digits}
use Rattle.lines.proofs.Stores.{behind, zero_digits}
use Rattle.lines.proofs.numerals.Numerals.put_words.Goals as goal

pub returns-then-all_zero : goal.returns-then-all_zero
returns-then-all_zero c = rw (zero_digits (words_in c.args.words) (sym c.all_zero.ensures ∙ c.if-all_zero.true)) c.put_zeros.ensures

pub returns : goal.returns
unfolding digits
returns c =
    behind (behind (behind c.put_word.ensures c.put_word-2.ensures refl) c.put_word-3.ensures refl) c.put_word-4.ensures refl

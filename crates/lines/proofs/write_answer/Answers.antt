-- `write_answer` meets its contract: number, kind, buffer, current, words and the line's end, each behind the one before. Assumes nothing.
use mathlib.Core.Path.{refl}
use native.Mathlib.Omega.{arith}
use Rattle.lines.specs.Digits.{digits}
use Rattle.lines.proofs.Stores.{behind}
use Rattle.lines.proofs.write_answer.Goals as goal

pub returns : goal.returns
unfolding digits
returns c =
    let kind = behind c.put_pair.ensures c.put_word.ensures refl in
    let current = behind (behind kind c.put_word-2.ensures refl) c.put_word-3.ensures refl in
    let all = behind current c.put_words.ensures refl in
    record { put = behind all c.end_line.ensures.put refl; place = omega (arith, c.end_line.ensures.place) }

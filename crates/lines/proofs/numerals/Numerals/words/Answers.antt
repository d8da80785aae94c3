-- `Numerals::words` meets its contract: four words of digits, or one with another byte. Assumes nothing.
use Rattle.lines.proofs.Worth.{words_all, words_none}
use Rattle.lines.proofs.numerals.Numerals.words.Goals as goal

pub returns-then-w0-w1 : goal.returns-then-w0-w1
returns-then-w0-w1 c = words_none c.word-w0.ensures c.word-w1.ensures c.word-w2.ensures c.word-w3.ensures c.if-w0-w1.true

pub returns : goal.returns
returns c =
    let w = words_all c.word-w0.ensures c.word-w1.ensures c.word-w2.ensures c.word-w3.ensures c.if-w0-w1.false in
    (w.all, w.words)

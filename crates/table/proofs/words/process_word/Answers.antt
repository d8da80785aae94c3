-- `words::process_word` meets its contract. Assumes nothing.
use Rattle.laws.proofs.Decoded.{shows_agree}
use Rattle.table.proofs.words.process_word.Goals as goal

pub returns : goal.returns
returns c m s may =
    let a = c.before.before.before.args in
    rw c.before.of_process.ensures ((shows_agree s).process a.p a.f may.0 may.1 may.2)

-- `sound::header::sized` meets its contract: the value of its tests in turn. Assumes nothing.
use Rattle.sound.specs.Records.{sized}
use native.Mathlib.Omega.{arith}
use Rattle.std.proofs.lemmas.Grind.{common_steps}
use Rattle.sound.proofs.Found.{found}
use Rattle.sound.proofs.header.sized.Goals as goal

pub returns-then-words-lt-WORDS : goal.returns-then-words-lt-WORDS
unfolding sized
returns-then-words-lt-WORDS c = search found depth 12

pub returns-then-fits : goal.returns-then-fits
unfolding sized
returns-then-fits c = search found depth 12

pub returns-else-fits : goal.returns-else-fits
unfolding sized
returns-else-fits c = grind (arith, common_steps)

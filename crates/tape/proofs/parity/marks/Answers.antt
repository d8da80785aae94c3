-- `parity::marks` meets its contract: the rule of its table, by a test that computes over all 256 marks. Assumes nothing.
use mathlib.Core.Path.{refl}
use Rattle.tape.specs.Parity.{ones, odd}
use Rattle.tape.proofs.Marks.{right, rule}
use Rattle.tape.proofs.parity.marks.Goals as goal

pub returns : goal.returns
unfolding right odd ones
returns c = rule _ refl refl

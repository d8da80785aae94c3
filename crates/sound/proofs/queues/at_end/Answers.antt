-- `sound::queues::at_end` meets its contract: the value of its tests in turn. Assumes nothing.
use Rattle.sound.proofs.Found.{found}
use Rattle.sound.proofs.queues.at_end.Goals as goal

pub returns-then-before-last : goal.returns-then-before-last
returns-then-before-last c = search found depth 12

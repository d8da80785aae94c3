-- `sound::queues::running_step` meets its contract: the value of its tests in turn. Assumes nothing.
use Rattle.sound.specs.Queues.{running_step}
use Rattle.sound.proofs.Found.{found}
use Rattle.sound.proofs.queues.running_step.Goals as goal

pub returns-then-at-words : goal.returns-then-at-words
unfolding running_step
returns-then-at-words c = search found depth 12

pub returns-then-words-start : goal.returns-then-words-start
unfolding running_step
returns-then-words-start c = search found depth 12

pub returns : goal.returns
unfolding running_step
returns c = search found depth 12

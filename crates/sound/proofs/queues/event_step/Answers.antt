-- `sound::queues::event_step` meets its contract: the value of its tests in turn. Assumes nothing.
use Rattle.sound.specs.Queues.{event_step}
use Rattle.sound.proofs.Found.{found}
use Rattle.sound.proofs.queues.event_step.Goals as goal

pub returns-then-at-words : goal.returns-then-at-words
unfolding event_step
returns-then-at-words c = search found depth 12

pub returns-then-words-start : goal.returns-then-words-start
unfolding event_step
returns-then-words-start c = search found depth 12

pub returns : goal.returns
unfolding event_step
returns c = search found depth 12

-- `sound::semaphores::waiter_step` meets its contract: the value of its tests in turn. Assumes nothing.
use Rattle.sound.specs.Semaphores.{waiter_step}
use Rattle.sound.proofs.Found.{found}
use Rattle.sound.proofs.semaphores.waiter_step.Goals as goal

pub returns-then-at-words : goal.returns-then-at-words
unfolding waiter_step
returns-then-at-words c = search found depth 12

pub returns-then-words-start : goal.returns-then-words-start
unfolding waiter_step
returns-then-words-start c = search found depth 12

pub returns-then-words-start-eq-WAITS_SEMAPHORE : goal.returns-then-words-start-eq-WAITS_SEMAPHORE
unfolding waiter_step
returns-then-words-start-eq-WAITS_SEMAPHORE c = search found depth 12

pub returns-else-words-start-eq-WAITS_SEMAPHORE : goal.returns-else-words-start-eq-WAITS_SEMAPHORE
unfolding waiter_step
returns-else-words-start-eq-WAITS_SEMAPHORE c = search found depth 12

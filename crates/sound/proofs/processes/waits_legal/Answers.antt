-- `sound::processes::waits_legal` meets its contract: the value of its tests in turn. Assumes nothing.
use Rattle.sound.specs.Processes.{waits_legal}
use Rattle.sound.proofs.Found.{found}
use Rattle.sound.proofs.processes.waits_legal.Goals as goal

pub returns-then-state-eq-WAITS_ANSWER : goal.returns-then-state-eq-WAITS_ANSWER
unfolding waits_legal
returns-then-state-eq-WAITS_ANSWER c = search found depth 12

pub returns-then-state-eq-WAITS_INTERRUPT : goal.returns-then-state-eq-WAITS_INTERRUPT
unfolding waits_legal
returns-then-state-eq-WAITS_INTERRUPT c = search found depth 12

pub returns : goal.returns
unfolding waits_legal
returns c = search found depth 12

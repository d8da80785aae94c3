-- `sound::processes::state_legal` meets its contract: the value of its tests in turn. Assumes nothing.
use Rattle.sound.specs.Processes.{state_legal}
use Rattle.sound.proofs.Found.{found}
use Rattle.sound.proofs.processes.state_legal.Goals as goal

pub returns-then-state-eq-RUNNING : goal.returns-then-state-eq-RUNNING
unfolding state_legal
returns-then-state-eq-RUNNING c = search found depth 12

pub returns-then-not-off : goal.returns-then-not-off
unfolding state_legal
returns-then-not-off c = search found depth 12

pub returns-then-state-eq-STOPPED : goal.returns-then-state-eq-STOPPED
unfolding state_legal
returns-then-state-eq-STOPPED c = search found depth 12

pub returns-then-state-eq-WAITS_EVENT : goal.returns-then-state-eq-WAITS_EVENT
unfolding state_legal
returns-then-state-eq-WAITS_EVENT c = search found depth 12

pub returns-then-state-eq-WAITS_ANSWER : goal.returns-then-state-eq-WAITS_ANSWER
unfolding state_legal
returns-then-state-eq-WAITS_ANSWER c = search found depth 12

pub returns : goal.returns
unfolding state_legal
returns c = search found depth 12

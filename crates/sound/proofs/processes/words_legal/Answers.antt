-- `sound::processes::words_legal` meets its contract: the value of its tests in turn. Assumes nothing.
use Rattle.sound.specs.Processes.{words_legal}
use Rattle.sound.proofs.Found.{found}
use Rattle.sound.proofs.processes.words_legal.Goals as goal

pub returns-then-not-prioritized : goal.returns-then-not-prioritized
unfolding words_legal
returns-then-not-prioritized c = search found depth 12

pub returns-then-words-start-ne0 : goal.returns-then-words-start-ne0
unfolding words_legal
returns-then-words-start-ne0 c = search found depth 12

pub returns-then-not-state_legal : goal.returns-then-not-state_legal
unfolding words_legal
returns-then-not-state_legal c = search found depth 12

pub returns : goal.returns
unfolding words_legal
returns c = search found depth 12

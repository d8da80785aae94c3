-- `sound::processes::process_legal` meets its contract: the value of its tests in turn. Assumes nothing.
use Rattle.sound.specs.Processes.{process_legal}
use Rattle.sound.proofs.Found.{found}
use Rattle.sound.proofs.processes.process_legal.Goals as goal

pub returns-then-not-words_legal : goal.returns-then-not-words_legal
unfolding process_legal
returns-then-not-words_legal c = search found depth 12

pub returns-then-not-name_ok : goal.returns-then-not-name_ok
unfolding process_legal
returns-then-not-name_ok c = search found depth 12

pub returns : goal.returns
unfolding process_legal
returns c = search found depth 12

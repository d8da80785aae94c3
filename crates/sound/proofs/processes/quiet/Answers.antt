-- `sound::processes::quiet` meets its contract: the value of its tests in turn. Assumes nothing.
use Rattle.sound.proofs.Found.{found}
use Rattle.sound.proofs.processes.quiet.Goals as goal

pub returns : goal.returns
returns c = search found depth 12

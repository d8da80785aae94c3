-- `sound::devices::device` meets its contract: the value of its tests in turn. Assumes nothing.
use Rattle.sound.specs.Devices.{device}
use Rattle.sound.proofs.Found.{found}
use Rattle.sound.proofs.devices.device.Goals as goal

pub returns-then-p-eq0 : goal.returns-then-p-eq0
unfolding device
returns-then-p-eq0 c = search found depth 12

pub returns-then-p : goal.returns-then-p
unfolding device
returns-then-p c = search found depth 12

pub returns : goal.returns
unfolding device
returns c = search found depth 12

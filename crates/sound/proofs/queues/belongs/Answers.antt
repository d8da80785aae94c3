-- `sound::queues::belongs` meets its contract: the value of its tests in turn. Assumes nothing.
use Rattle.sound.specs.Queues.{belongs}
use Rattle.sound.proofs.Found.{found}
use Rattle.sound.proofs.queues.belongs.Goals as goal

pub returns-then-standing-eq-QUEUED : goal.returns-then-standing-eq-QUEUED
unfolding belongs
returns-then-standing-eq-QUEUED c = search found depth 12

pub returns : goal.returns
unfolding belongs
returns c = search found depth 12

-- What falls from a call of `follow_running` to the next: the links left. Assumes nothing.
use Rattle.sound.proofs.queues.+follow_running.Given as goal

abbrev pub decreases-follow_running : goal.decreases-follow_running
decreases-follow_running l = l.left

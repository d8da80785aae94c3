-- What falls from a call of `follow_waiters` to the next. Assumes nothing.
use Rattle.sound.proofs.semaphores.+follow_waiters.Given as goal

abbrev pub decreases-follow_waiters : goal.decreases-follow_waiters
decreases-follow_waiters l = l.left

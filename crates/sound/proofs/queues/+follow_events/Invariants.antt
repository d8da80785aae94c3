-- What falls from a call of `follow_events` to the next: the links left. Assumes nothing.
use Rattle.sound.proofs.queues.+follow_events.Given as goal

abbrev pub decreases-follow_events : goal.decreases-follow_events
decreases-follow_events l = l.left

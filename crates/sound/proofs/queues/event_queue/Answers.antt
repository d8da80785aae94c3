-- `sound::queues::event_queue` meets its contract: empty, or followed. Assumes nothing.
use Rattle.sound.proofs.Following.{follow_ends}
use Rattle.sound.proofs.queues.event_queue.Goals as goal

pub returns-then-first-eq0 : goal.returns-then-first-eq0
returns-then-first-eq0 c = follow_ends _ _ _ _ _ _ _ _ c.before.before.if-first-eq0.true c.before.last_event.ensures c.at_end.ensures

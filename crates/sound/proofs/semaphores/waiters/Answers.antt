-- `sound::semaphores::waiters` meets its contract: nobody, or followed. Assumes nothing.
use mathlib.Core.Path.{refl}
use Rattle.sound.proofs.Following.{follow_ends}
use Rattle.sound.proofs.semaphores.waiters.Goals as goal

pub returns-then-first-eq0 : goal.returns-then-first-eq0
returns-then-first-eq0 c = follow_ends _ _ _ _ _ _ _ _ c.before.if-first-eq0.true refl c.at_end.ensures

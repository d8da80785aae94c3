-- `sound::names::apart` meets its contract: a mark that was not met tells a new name. Assumes nothing.
use mathlib.Core.Path.{sym}
use Rattle.sound.proofs.names.apart.Goals as goal

pub returns-then-met-eq0 : goal.returns-then-met-eq0
returns-then-met-eq0 c = sym (c.before.before.requires.1.1 c.if-met-eq0.true)

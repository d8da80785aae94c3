-- `next` meets its contract: a link above P is none. Assumes nothing.
use native.Mathlib.Omega.{arith}
use Rattle.delays.proofs.Reading.{next_none, next_link}
use Rattle.delays.proofs.words.next.Goals as goal

pub returns-then-link-t : goal.returns-then-link-t
returns-then-link-t c = (next_none _ _ c.if-link-t.true, omega arith)

pub returns-else-link-t : goal.returns-else-link-t
returns-else-link-t c = (next_link _ _ c.if-link-t.false, c.if-link-t.false)

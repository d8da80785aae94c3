-- `running::bar` meets its contract: the priority, and one more for reason 3. Assumes nothing.
use native.Mathlib.Omega.{arith}
use borrow.Author.Tests.{eq-eqb, ne_eqb}
use Rattle.table.proofs.running.bar.Goals as goal

pub returns-then-reason-eq-INTERRUPT : goal.returns-then-reason-eq-INTERRUPT
returns-then-reason-eq-INTERRUPT c m w i = rw (
  eq-eqb _ 3 c.if-reason-eq-INTERRUPT.true,
  c.before.process_word-priority.ensures m w (i, omega arith, omega arith),
)

pub returns : goal.returns
returns c m w i = rw (ne_eqb _ 3 c.if-reason-eq-INTERRUPT.false, c.before.process_word-priority.ensures m w (i, omega arith, omega arith))

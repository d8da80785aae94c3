-- `semaphores::lower_refusal` meets its contract: row 2, 19 or none. Assumes nothing.
use borrow.Author.Tests.{eq-eqb, ne_eqb}
use Rattle.machine.specs.Refusal.{first, refusal}
use Rattle.answers.proofs.Promises.{can}
use Rattle.processes.proofs.semaphores.lower_refusal.Goals as goal

pub returns-then-current-eq0 : goal.returns-then-current-eq0
unfolding refusal first
returns-then-current-eq0 c m w L = rw (← c.before.current.ensures m w tt, eq-eqb _ 0 c.if-current-eq0.true)

pub semaphores-requires : goal.semaphores-requires
semaphores-requires c = can c.before.before.before.requires (λ m w L. tt)

pub returns-then-outside : goal.returns-then-outside
unfolding refusal first
returns-then-outside c m w L =
    rw (
      ← c.before.before.before.before.current.ensures m w tt,
      ne_eqb _ 0 c.before.before.before.if-current-eq0.false,
      ← c.before.before.semaphores.ensures m w tt,
      ← c.before.outside.ensures,
      c.if-outside.true,
    )

pub returns : goal.returns
unfolding refusal first
returns c m w L =
    rw (
      ← c.before.before.before.before.current.ensures m w tt,
      ne_eqb _ 0 c.before.before.before.if-current-eq0.false,
      ← c.before.before.semaphores.ensures m w tt,
      ← c.before.outside.ensures,
      c.if-outside.false,
    )

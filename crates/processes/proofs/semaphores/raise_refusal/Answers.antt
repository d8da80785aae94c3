-- `semaphores::raise_refusal` meets its contract: row 2, 19, 20 or none. Assumes nothing.
use mathlib.Core.Path.{sym, ◌∙◌}
use borrow.Author.Tests.{eq-eqb, ne_eqb}
use Rattle.machine.specs.Machine.{Machine, semaphores}
use Rattle.machine.specs.Words.{Shows}
use Rattle.machine.specs.Refusal.{first, refusal}
use Rattle.lists.proofs.Tests.{inside}
use Rattle.table.specs.Fits.{IsSemaphore}
use Rattle.answers.proofs.Promises.{can}
use Rattle.processes.proofs.semaphores.raise_refusal.Goals as goal
use Rattle.processes.proofs.semaphores.raise_refusal.Goals.{Else-outside}

pub returns-then-current-eq0 : goal.returns-then-current-eq0
unfolding refusal first
returns-then-current-eq0 c m w L = rw (← c.before.current.ensures m w tt, eq-eqb _ 0 c.if-current-eq0.true)

pub semaphores-requires : goal.semaphores-requires
semaphores-requires c = can c.before.before.before.requires (λ m w L. tt)

pub returns-then-outside : goal.returns-then-outside
unfolding refusal first
returns-then-outside c m w L =
    rw (
      ← c.before.before.before.before.current.ensures m w tt,
      ne_eqb _ 0 c.before.before.before.if-current-eq0.false,
      ← c.before.before.semaphores.ensures m w tt,
      ← c.before.outside.ensures,
      c.if-outside.true,
    )

-- ---- there is such a semaphore
is_there : (e : Else-outside) → let a = (e).args in (m : Machine) → Shows a.t.now m → IsSemaphore a.a m
is_there e m w = inside (semaphores m) _ (sym (rw (← e.before.before.semaphores.ensures m w tt) e.before.outside.ensures) ∙ e.if-outside.false)

pub counter_word-requires : goal.counter_word-requires
counter_word-requires c = can (c).requires (λ m w L. is_there (goal.at.counter_word-requires c).Else-outside m w)

pub returns-then-counter_word-eq-MOST_COUNTER : goal.returns-then-counter_word-eq-MOST_COUNTER
unfolding refusal first
returns-then-counter_word-eq-MOST_COUNTER c m w L =
    let e = c.before.before in
    rw (
      ← e.before.current.ensures m w tt,
      ne_eqb _ 0 e.if-current-eq0.false,
      ← e.before.before.semaphores.ensures m w tt,
      ← e.before.outside.ensures,
      e.if-outside.false,
      ← c.before.counter_word.ensures m w (is_there (goal.at.returns-then-counter_word-eq-MOST_COUNTER c).Else-outside m w),
      eq-eqb _ 32767 c.if-counter_word-eq-MOST_COUNTER.true,
    )

pub returns : goal.returns
unfolding refusal first
returns c m w L =
    let e = c.before.before in
    rw (
      ← e.before.current.ensures m w tt,
      ne_eqb _ 0 e.if-current-eq0.false,
      ← e.before.before.semaphores.ensures m w tt,
      ← e.before.outside.ensures,
      e.if-outside.false,
      ← c.before.counter_word.ensures m w (is_there (goal.at.returns c).Else-outside m w),
      ne_eqb _ 32767 c.if-counter_word-eq-MOST_COUNTER.false,
    )

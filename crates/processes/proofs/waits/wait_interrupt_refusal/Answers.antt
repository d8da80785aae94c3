-- `waits::wait_interrupt_refusal` meets its contract: row 2, 3, 9 or none. Assumes nothing.
use native.Mathlib.Omega.{arith}
use borrow.Author.Tests.{eq-eqb, ne_eqb, lt-ltb, le-ltb}
use Rattle.machine.specs.Refusal.{first, refusal}
use Rattle.answers.proofs.Promises.{can}
use Rattle.processes.proofs.waits.wait_interrupt_refusal.Goals as goal

pub returns-then-current-eq0 : goal.returns-then-current-eq0
unfolding refusal first
returns-then-current-eq0 c d m w L = rw (← c.before.current.ensures m w tt, eq-eqb _ 0 c.if-current-eq0.true)

pub returns-then-a-gt-LAST : goal.returns-then-a-gt-LAST
unfolding refusal first
returns-then-a-gt-LAST c d m w L = rw (← c.before.before.current.ensures m w tt, ne_eqb _ 0 c.before.if-current-eq0.false, lt-ltb 63 _ c.if-a-gt-LAST.true)

pub waiter-requires : goal.waiter-requires
waiter-requires c = can c.before.before.before.before.requires (λ m w L. omega (arith, c.if-a-gt-LAST.false))

pub returns-then-waiter-ne0 : goal.returns-then-waiter-ne0
unfolding refusal first
returns-then-waiter-ne0 c d m w L =
    let runs = c.before.before.before in
    let low = c.before.before.if-a-gt-LAST.false in
    rw (
      ← runs.before.current.ensures m w tt,
      ne_eqb _ 0 runs.if-current-eq0.false,
      le-ltb 63 _ low,
      ← c.before.waiter.ensures m w (omega arith),
      ne_eqb _ 0 c.if-waiter-ne0.true,
    )

pub returns : goal.returns
unfolding refusal first
returns c d m w L =
    let runs = c.before.before.before in
    let low = c.before.before.if-a-gt-LAST.false in
    rw (
      ← runs.before.current.ensures m w tt,
      ne_eqb _ 0 runs.if-current-eq0.false,
      le-ltb 63 _ low,
      ← c.before.waiter.ensures m w (omega arith),
      eq-eqb _ 0 c.if-waiter-ne0.false,
    )

-- `semaphores::take_one` meets its contract: below zero p waits, otherwise it goes on. Assumes nothing.
use mathlib.Core.Path.{sym, ap, ◌∙◌}
use Rattle.machine.specs.Machine.{down}
use Rattle.answers.proofs.Promises.{can}
use Rattle.processes.proofs.semaphores.take_one.Goals as goal

pub counter_word-requires : goal.counter_word-requires
counter_word-requires c = can c.requires (λ m w may. may.0.semaphore)

pub lower-x-requires : goal.lower-x-requires
lower-x-requires c =
    let p = c.requires in
    λ k. p.may.1 (sym (c.counter_word.ensures p.m p.shows p.may.0.semaphore) ∙ k)

pub wait_in_queue-requires : goal.wait_in_queue-requires
wait_in_queue-requires c = can c.requires (λ m w may. may.0)

pub returns-then-below_zero : goal.returns-then-below_zero
returns-then-below_zero c m w may =
    let here = c.before.before.before.before in
    let e = here.before.before.lower-x.ensures ∙ ap down (here.before.before.before.counter_word.ensures m w may.0.semaphore) in
    rw (← e, ← here.before.below_zero.ensures, here.if-below_zero.true) (c.before.before.wait_in_queue.ensures m w may.0)

pub go_on-requires : goal.go_on-requires
go_on-requires c = can c.requires (λ m w may. may.0)

pub returns : goal.returns
returns c m w may =
    let here = c.before.before.before.before in
    let e = here.before.before.lower-x.ensures ∙ ap down (here.before.before.before.counter_word.ensures m w may.0.semaphore) in
    rw (← e, ← here.before.below_zero.ensures, here.if-below_zero.false) (c.before.before.go_on.ensures m w may.0)

-- `waits::unawaited` meets its contract: the device word is set in edition 1 only. Assumes nothing.
use mathlib.Core.Path.{sym, ◌∙◌}
use borrow.Author.Tests.{eq-eqb, ne_eqb}
use Rattle.machine.specs.Machine.{edition}
use Rattle.answers.proofs.Promises.{can}
use Rattle.processes.proofs.waits.unawaited.Goals as goal

pub edition-requires : goal.edition-requires
edition-requires c = can c.requires (λ m w may. tt)

pub returns-then-edition-ne-SECOND : goal.returns-then-edition-ne-SECOND
returns-then-edition-ne-SECOND c m w may = (let e = c.before.edition.ensures m w tt in rw (ne_eqb (edition m) 1 (λ k. c.if-edition-ne-SECOND.true (e ∙ k))) w)

pub returns : goal.returns
returns c m w may = (let e = c.before.before.before.before.before.edition.ensures m w tt in
    rw (eq-eqb (edition m) 1 (sym e ∙ c.before.before.before.before.if-edition-ne-SECOND.false)) (c.before.before.set_device_word.ensures m w may))

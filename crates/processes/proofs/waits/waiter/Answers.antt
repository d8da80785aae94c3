-- `waits::waiter` meets its contract: the device word, and nobody where an interrupt is kept. Assumes nothing.
use mathlib.Core.Path.{sym, ◌∙◌}
use Rattle.machine.specs.Machine.{kept}
use Rattle.lists.proofs.Links.{yes_same, no_same}
use Rattle.processes.proofs.waits.waiter.Goals as goal

pub returns-then-word : goal.returns-then-word
returns-then-word c m w may = (let e = c.before.device_word-word.ensures m w may in sym (yes_same _ kept 0 _ (sym e ∙ c.if-word.true)))

pub returns : goal.returns
returns c m w may = (let e = c.before.device_word-word.ensures m w may in e ∙ sym (no_same _ kept 0 _ (λ k. c.if-word.false (e ∙ k))))

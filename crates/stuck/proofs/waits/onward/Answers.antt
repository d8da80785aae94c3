-- `waits::onward` meets its contract: p itself, or whom it waits for. Assumes nothing.
use mathlib.Core.Path.{sym, ◌∙◌}
use Rattle.stuck.proofs.Steps.{onward_stays, onward_goes}
use Rattle.stuck.proofs.waits.onward.Goals as goal

pub returns-then-state-ne-WAITS_ANSWER : goal.returns-then-state-ne-WAITS_ANSWER
returns-then-state-ne-WAITS_ANSWER c = (onward_stays _ _ (λ e. c.if-state-ne-WAITS_ANSWER.true (c.before.state.ensures ∙ e)), c.before.before.before.requires.1)

pub holder-requires : goal.holder-requires
holder-requires c = let p = c.before.before.before.requires in (p.0, (p.1, sym c.before.state.ensures ∙ c.if-state-ne-WAITS_ANSWER.false))

pub returns : goal.returns
returns c =
    let three = sym c.before.before.state.ensures ∙ c.before.if-state-ne-WAITS_ANSWER.false in
    (c.holder.ensures.0 ∙ onward_goes _ _ three, c.holder.ensures.1)

-- `layout` meets its contract: rows 11 and 12, or the table laid out. Assumes nothing.
use mathlib.Core.Path.{refl, sym, ap, ◌∙◌}
use Rattle.machine.specs.Step.{refused}
use Rattle.answers.proofs.Exits.{number_some}
use Rattle.monitor.proofs.layout.Goals as goal

pub returns-in-Err : goal.returns-in-Err
returns-in-Err c =
    let e = c.in-Err.ensures in
    record { answer = c.refused.ensures ∙ ap refused (c.from.ensures ∙ e); words = λ z. absurd (number_some c.in-Err.refusal (e ∙ z)); unchanged = λ n. refl }

pub returns : goal.returns
returns c =
    let z = sym c.in_default.ensures in
    record { answer = c.zero_answer.ensures ∙ ap refused (sym z); words = λ _. c.lay.ensures; unchanged = λ n. absurd (n z) }

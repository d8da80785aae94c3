-- `tape_read` meets its contract: what was read is told in numbers. Assumes nothing.
use mathlib.Core.Path.{ap, ◌∙◌}
use mir.Syntax.{w32}
use mir.Facts.{to_z-of_z}
use Rattle.tape.specs.Promise.{refusal}
use Rattle.tape.proofs.Answer.{answers_refused, answers_done}
use Rattle.tape.proofs.tape_read.Goals as goal

pub returns-in-Ok : goal.returns-in-Ok
returns-in-Ok c =
    let z = to_z-of_z c.ranges.base in
    answers_done _ _ _ _ _ (c.inside.ensures.0 ∙ z) c.in-Ok.ensures
    (to_z-of_z {w = w32} (record { sfits = c.outside.type_inv }) ∙ c.outside.ensures) c.status.ensures

pub returns-in-Err : goal.returns-in-Err
returns-in-Err c =
    let z = to_z-of_z c.ranges.base in
    answers_refused _ _ _ _ _ (c.inside.ensures.0 ∙ z) c.in-Err.ensures (c.refused.ensures ∙ ap (refusal _) z)

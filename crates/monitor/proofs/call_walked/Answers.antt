-- `call_walked` meets its contract: row 13, row 1, or a sound table's call served. Assumes nothing.
use mathlib.Core.Path.{sym, ap, ◌∙◌}
use borrow.Author.Tests.{not-true, not-false}
use Rattle.machine.specs.Step.{refused}
use Rattle.machine.specs.Request.{last_call}
use Rattle.machine.specs.Queue.{Range}
use Rattle.lists.proofs.Tests.{differ, inside, outside_false}
use Rattle.monitor.proofs.CallEnds.{walked_unknown, walked_unsound}
use Rattle.monitor.proofs.call_walked.Goals as goal
use Rattle.monitor.proofs.call_walked.Goals.{Else-unknown}

-- past the first test the number is a call's
known : (c : Else-unknown) → Range last_call c.args.call.number
known c = inside last_call _ (sym c.outside-unknown.ensures ∙ c.if-unknown.false)

pub returns-then-unknown : goal.returns-then-unknown
returns-then-unknown c =
    walked_unknown (λ r. differ (sym (sym c.outside-unknown.ensures ∙ c.if-unknown.true) ∙ outside_false last_call _ r))
    (c.still.ensures.answer ∙ c.refused.ensures ∙ ap refused c.from.ensures) c.still.ensures.walk

pub returns-then-not-sound : goal.returns-then-not-sound
returns-then-not-sound c =
    walked_unsound (known (goal.at.returns-then-not-sound c).Else-unknown)
    (λ S. differ (sym (c.sound.ensures.1 S) ∙ not-true _ c.if-not-sound.true-raw))
    (c.still-then-not-sound.ensures.answer ∙ c.refused-then-not-sound.ensures ∙ ap refused c.from-then-not-sound.ensures) c.still-then-not-sound.ensures.walk

pub serve_walked-requires : goal.serve_walked-requires
serve_walked-requires c = c.sound.ensures.0 (not-false _ c.if-not-sound.false-raw)

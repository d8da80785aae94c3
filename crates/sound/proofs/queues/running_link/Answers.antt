-- `sound::queues::running_link` meets its contract: none left, or a wrong process, or one link further. Assumes nothing.
use native.Mathlib.Omega.{arith}
use mathlib.Core.Bool.{false≢true}
use mathlib.Core.Path.{◌∙◌}
use Rattle.sound.proofs.Found.{not_call_yes, not_call_no}
use Rattle.sound.proofs.Following.{follow_spent, follow_stops, wrong_link, right_link}
use Rattle.sound.proofs.QueuesTold.{running_range, limit_of}
use Rattle.sound.proofs.queues.running_link.Goals as goal

pub returns-then-left-eq0 : goal.returns-then-left-eq0
returns-then-left-eq0 c = (wrong_link (follow_spent _ _ _ _ _ _ (λ z. omega arith) c.if-left-eq0.true), λ e. absurd (false≢true e))

pub returns-then-not-running_step : goal.returns-then-not-running_step
returns-then-not-running_step c =
    let stops = not_call_yes c.before.running_step.ensures c.if-not-running_step.true-raw in
    (wrong_link (follow_stops _ _ _ _ _ _ (λ z. omega arith) stops), λ e. absurd (false≢true e))

pub next_process-requires : goal.next_process-requires
next_process-requires c = omega (arith, running_range _ _ _ (not_call_no c.before.running_step.ensures c.if-not-running_step.false-raw))

pub priority_of-requires : goal.priority_of-requires
priority_of-requires c = omega (arith, running_range _ _ _ (not_call_no c.before.before.running_step.ensures c.before.if-not-running_step.false-raw))

pub returns : goal.returns
returns c =
    let passes = not_call_no c.before.before.before.running_step.ensures c.before.before.if-not-running_step.false-raw in (
      right_link _ _ _ (omega arith) (λ z. omega arith) passes c.before.next_process.ensures,
      λ e. c.priority_of.ensures ∙ limit_of _ _ (λ z. omega arith),
    )

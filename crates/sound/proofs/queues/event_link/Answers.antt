-- `sound::queues::event_link` meets its contract: none left, or a wrong buffer, or one link further. Assumes nothing.
use native.Mathlib.Omega.{arith}
use Rattle.sound.proofs.Found.{not_call_yes, not_call_no}
use Rattle.sound.proofs.Following.{follow_spent, follow_stops, wrong_link, right_link}
use Rattle.sound.proofs.QueuesTold.{event_range}
use Rattle.sound.proofs.queues.event_link.Goals as goal

pub returns-then-left-eq0 : goal.returns-then-left-eq0
returns-then-left-eq0 c = wrong_link (follow_spent _ _ _ _ _ _ (λ z. omega arith) c.if-left-eq0.true)

pub returns-then-not-event_step : goal.returns-then-not-event_step
returns-then-not-event_step c = wrong_link (follow_stops _ _ _ _ _ _ (λ z. omega arith) (not_call_yes c.before.event_step.ensures c.if-not-event_step.true-raw))

pub next_buffer-requires : goal.next_buffer-requires
next_buffer-requires c = omega (arith, event_range _ _ _ _ _ (not_call_no c.before.event_step.ensures c.if-not-event_step.false-raw))

pub returns : goal.returns
returns c =
    right_link _ _ _ (omega arith) (λ z. omega arith) (not_call_no c.before.before.event_step.ensures c.before.if-not-event_step.false-raw)
    c.next_buffer.ensures

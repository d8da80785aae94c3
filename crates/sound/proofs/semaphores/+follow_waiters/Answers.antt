-- `sound::semaphores::follow_waiters` meets its contract: following by its rules, one link a call. Assumes nothing.
use native.Mathlib.Omega.{arith}
use mathlib.Core.Path.{refl}
use Rattle.sound.proofs.Found.{not_call_yes, not_call_no}
use Rattle.sound.proofs.Following.{follow_ends, follow_spent, follow_stops, follow_goes}
use Rattle.sound.proofs.SemaphoresTold.{waiter_range}
use Rattle.sound.proofs.semaphores.+follow_waiters.Goals as goal

pub returns-then-at-eq0 : goal.returns-then-at-eq0
returns-then-at-eq0 t c = follow_ends _ _ _ _ _ _ _ _ c.if-at-eq0.true refl c.at_end.ensures

pub returns-then-left-eq0 : goal.returns-then-left-eq0
returns-then-left-eq0 t c = follow_spent _ _ _ _ _ _ c.if-at-eq0.false c.if-left-eq0.true

pub returns-then-not-waiter_step : goal.returns-then-not-waiter_step
returns-then-not-waiter_step t c = follow_stops _ _ _ _ _ _ c.if-at-eq0.false (not_call_yes c.waiter_step.ensures c.if-not-waiter_step.true-raw)

pub next_process-requires : goal.next_process-requires
next_process-requires t c = omega (arith, waiter_range _ _ _ _ (not_call_no c.waiter_step.ensures c.if-not-waiter_step.false-raw))

pub returns : goal.returns
returns t c =
    let here = c.before.before.before in
    follow_goes _ _ _ _ _ _ _ _ _ (omega arith) here.if-at-eq0.false
    (not_call_no here.waiter_step.ensures c.if-not-waiter_step.false-raw) c.next_process.ensures c.follow_waiters.ensures

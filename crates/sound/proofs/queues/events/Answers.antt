-- `sound::queues::events` meets its contract. The loop's invariant: the queues passed left `left` links, and the running processes passed are counted.
-- Assumes nothing.
use mathlib.Core.Path.{refl}
use native.Mathlib.Omega.{arith}
use Rattle.lists.proofs.Counting.{count_none, count_more}
use Rattle.sound.proofs.Found.{if_no}
use Rattle.sound.proofs.Sums.{sweep_none, sweep_further, sweep_fails}
use Rattle.sound.proofs.queues.events.Goals as goal

pub loop-i-init : goal.loop-i-init
loop-i-init c = record { few = omega arith; counted = count_none _; swept = sweep_none _ _; not_failed = omega arith }

pub returns-then-left-eq-FAILED : goal.returns-then-left-eq-FAILED
returns-then-left-eq-FAILED c =
    let i = c.loop-i.invariant in
    if_no _ _ _ _
    (sweep_fails _ _ _ _ _ (omega arith)
    (sweep_further _ _ _ _ _ i.swept i.not_failed c.event_queue-left.ensures) c.if-left-eq-FAILED.true) refl

pub loop-i-preserved : goal.loop-i-preserved
loop-i-preserved c =
    let i = c.loop-i.invariant in
    record {
      few = omega (arith, c.runs-running.ensures.1);
      counted = count_more _ _ _ _ i.counted c.runs-running.ensures.0;
      swept = sweep_further _ _ _ _ _ i.swept i.not_failed c.event_queue-left.ensures;
      not_failed = c.if-left-eq-FAILED.false;
    }

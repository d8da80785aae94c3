-- `sound::semaphores::semaphore_queue` meets its contract: the zero word, the queue and the counter in turn. Assumes nothing.
use native.Mathlib.Omega.{arith}
use Prim.Native.Nat.{◌+◌, ◌<◌}
use lib.ListN.{get_or}
use Rattle.sound.proofs.Found.{not_call_yes, not_call_no}
use Rattle.sound.proofs.SemaphoreLoop.{not_zero, queue_fails, within, counter_fails, counter_counts}
use Rattle.sound.proofs.semaphores.semaphore_queue.Goals as goal
use Rattle.sound.proofs.semaphores.semaphore_queue.Goals.{After-shared_slice_known-3-1}

pub returns-then-words-start-ne0 : goal.returns-then-words-start-ne0
returns-then-words-start-ne0 c = not_zero _ _ _ _ c.if-words-start-ne0.true

pub returns-then-after-eq-FAILED : goal.returns-then-after-eq-FAILED
returns-then-after-eq-FAILED c = queue_fails _ _ _ _ c.before.before.if-words-start-ne0.false _ c.before.waiters-after.ensures c.if-after-eq-FAILED.true

pub overflow_sub-left : goal.overflow_sub-left
overflow_sub-left c =
    let queue = c.before.before in
    within _ _ _ _ queue.before.if-words-start-ne0.false _ queue.waiters-after.ensures c.before.if-after-eq-FAILED.false

-- the counter is a word
counter_fits : (c : After-shared_slice_known-3-1) → get_or c.args.words.now (c.args.start + 0) 0 < 65536
counter_fits c = omega (arith, c.shared_slice_known-3-1.given (c.args.start + 0))

pub returns-then-not-waiting_is : goal.returns-then-not-waiting_is
returns-then-not-waiting_is c =
    let known = c.before.before in
    let queue = known.before.before in
    counter_fails _ _ _ _ queue.before.if-words-start-ne0.false _ queue.waiters-after.ensures
    (counter_fits (goal.at.returns-then-not-waiting_is c).After-shared_slice_known-3-1) known.before.if-after-eq-FAILED.false
    (not_call_yes c.before.waiting_is.ensures c.if-not-waiting_is.true-raw)

pub returns : goal.returns
returns c =
    let known = c.before.before in
    let queue = known.before.before in
    counter_counts _ _ _ _ queue.before.if-words-start-ne0.false _ queue.waiters-after.ensures (counter_fits (goal.at.returns c).After-shared_slice_known-3-1)
    (not_call_no c.before.waiting_is.ensures c.if-not-waiting_is.false-raw)

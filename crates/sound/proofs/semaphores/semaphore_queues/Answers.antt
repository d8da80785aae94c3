-- `sound::semaphores::semaphore_queues` meets its contract: none, or the loop's invariant: the queues passed left `left` of those that wait. Assumes nothing.
use mathlib.Core.Path.{◌≡◌, refl, sym, ap, ◌∙◌}
use Prim.Native.Nat.{◌+◌}
use native.Mathlib.Omega.{arith}
use Rattle.machine.specs.Sound.{P_of}
use Rattle.sound.specs.Queues.{sweep}
use Rattle.sound.specs.Semaphores.{lowering, queue_of_semaphore}
use Rattle.sound.proofs.Sums.{sweep_none, sweep_further, sweep_fails}
use Rattle.sound.proofs.SemaphoreLoop.{queue_within, semaphore_queue_at, semaphore_queues_none, semaphore_queues_some}
use Rattle.sound.proofs.semaphores.semaphore_queues.Goals as goal
use Rattle.sound.proofs.semaphores.semaphore_queues.Goals.{After-semaphore_queue-left}

pub returns-then-semaphores-eq0 : goal.returns-then-semaphores-eq0
returns-then-semaphores-eq0 c = semaphore_queues_none _ _ c.word-semaphores.ensures.0 c.if-semaphores-eq0.true

pub loop-i-init : goal.loop-i-init
loop-i-init c =
    let processes = c.word-processes.ensures.0 in
    let w = c.args.words.now in
    record {
      swept = c.lowering-left.ensures.0 ∙ ap (lowering w) processes ∙ sweep_none (queue_of_semaphore w) _;
      few = omega (arith, c.lowering-left.ensures.1);
      count_is = c.word-semaphores.ensures.0;
      base_is = omega (arith, processes, c.word.ensures.0);
      sized = c.requires;
    }

-- one semaphore more
swept_so_far : (c : After-semaphore_queue-left)
    → c.semaphore_queue-left.result ≡ sweep (queue_of_semaphore c.args.words.now) (c.loop-i.i + 1) (lowering c.args.words.now (P_of c.args.words.now))
swept_so_far c =
    let i = c.loop-i.invariant in
    sweep_further _ _ _ _ _ i.swept (omega arith) (semaphore_queue_at _ _ _ _ _ _ refl refl (rw i.base_is at c.semaphore_queue-left.ensures))

pub returns-then-left-eq-FAILED : goal.returns-then-left-eq-FAILED
returns-then-left-eq-FAILED c =
    sym (sweep_fails _ _ _ _ _ (omega arith) (swept_so_far (goal.at.returns-then-left-eq-FAILED c).After-semaphore_queue-left)
    c.if-left-eq-FAILED.true) ∙ semaphore_queues_some _ _ _ c.loop-i.invariant.count_is c.if-semaphores-eq0.false refl

pub loop-i-preserved : goal.loop-i-preserved
loop-i-preserved c =
    let i = c.loop-i.invariant in
    record {
      swept = swept_so_far (goal.at.loop-i-preserved c).After-semaphore_queue-left;
      few = omega (arith, queue_within _ _ _ _ _ c.semaphore_queue-left.ensures c.if-left-eq-FAILED.false);
      count_is = i.count_is;
      base_is = i.base_is;
      sized = i.sized;
    }

pub returns : goal.returns
returns c =
    let i = c.loop-i.invariant in
    let e : c.loop-i.i ≡ c.word-semaphores.result = omega arith in
    semaphore_queues_some _ _ _ i.count_is c.if-semaphores-eq0.false (rw e at i.swept)

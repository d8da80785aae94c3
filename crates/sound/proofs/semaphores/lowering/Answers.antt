-- `sound::semaphores::lowering` meets its contract. The loop's invariant: those of 1 to i that wait are counted. Assumes nothing.
use mathlib.Core.Path.{◌≡◌, ◌∙◌}
use Prim.Native.Nat.{◌+◌}
use native.Mathlib.Omega.{arith}
use borrow.Author.Tests.{eq-eqb, ne_eqb}
use Rattle.lists.proofs.Counting.{count_none, count_more}
use Rattle.sound.proofs.Found.{bit_yes, bit_no}
use Rattle.sound.proofs.semaphores.lowering.Goals as goal
use Rattle.sound.proofs.semaphores.lowering.Goals.{then-words-p-eq-WAITS_SEMAPHORE, else-words-p-eq-WAITS_SEMAPHORE}

pub loop-i-init : goal.loop-i-init
loop-i-init c = record { few = omega arith; counted = count_none _ }

pub loop-i-preserved : goal.loop-i-preserved
loop-i-preserved c =
    let i = c.loop-i.invariant in
    let z : c.loop-i.waiting ≡ c.loop-i.waiting + 0 = omega arith in
    elim c.if-words-p-eq-WAITS_SEMAPHORE.branch [
      | then-words-p-eq-WAITS_SEMAPHORE w ↦ record {
        few = omega arith;
        counted = w.waiting-is ∙ count_more _ _ _ _ i.counted (bit_yes _ (eq-eqb _ _ w.if-words-p-eq-WAITS_SEMAPHORE.true));
      }
      | else-words-p-eq-WAITS_SEMAPHORE w ↦ record {
        few = omega arith;
        counted = w.waiting-is ∙ z ∙ count_more _ _ _ _ i.counted (bit_no _ (ne_eqb _ _ w.if-words-p-eq-WAITS_SEMAPHORE.false));
      }
    ]

pub returns : goal.returns
returns c =
    let i = c.loop-i.invariant in
    let e : c.loop-i.i ≡ c.args.processes = omega arith in
    (rw e at i.counted, omega arith)

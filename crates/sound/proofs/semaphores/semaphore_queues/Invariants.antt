-- What the loop of `semaphores::semaphore_queues` keeps. Assumes nothing.
use mathlib.Core.Path.{◌≡◌}
use Prim.Native.Nat.{◌+◌, ◌*◌, ◌≤◌}
use Rattle.machine.specs.Sound.{P_of, B_of, S_of}
use Rattle.sound.specs.Queues.{sweep}
use Rattle.sound.specs.Semaphores.{lowering, queue_of_semaphore, SizedTable}
use Rattle.sound.proofs.semaphores.semaphore_queues.Given as goal

abbrev pub invariant-loop-i : goal.invariant-loop-i
invariant-loop-i l = record {
  swept : l.left ≡ sweep (queue_of_semaphore l.words) l.i (lowering l.words (P_of l.words));
  few : l.left ≤ 32;
  count_is : l.semaphores ≡ S_of l.words;
  base_is : l.base ≡ 68 + 16 * P_of l.words + 10 * B_of l.words;
  sized : SizedTable l.words;
}

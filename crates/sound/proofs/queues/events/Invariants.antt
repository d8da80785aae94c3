-- What the loop of `queues::events` keeps. Assumes nothing.
use mathlib.Core.Path.{◌≡◌}
use Prim.Native.Nat.{◌≤◌}
use Rattle.sound.specs.Queues.{failed, sweep, event_queue, running}
use Rattle.sound.proofs.queues.events.Given as goal

abbrev pub invariant-loop-i : goal.invariant-loop-i
invariant-loop-i l = record {
  few : l.running ≤ l.i;
  counted : l.running ≡ running l.words l.i;
  swept : l.left ≡ sweep (event_queue l.words l.base) l.i l.queued;
  not_failed : l.left ≡ failed → ⊥;
}

-- What the loop of `semaphores::lowering` keeps. Assumes nothing.
use mathlib.Core.Path.{◌≡◌}
use Prim.Native.Nat.{◌≤◌}
use Rattle.sound.specs.Semaphores.{lowering}
use Rattle.sound.proofs.semaphores.lowering.Given as goal

abbrev pub invariant-loop-i : goal.invariant-loop-i
invariant-loop-i l = record { few : l.waiting ≤ l.i; counted : l.waiting ≡ lowering l.words l.i }

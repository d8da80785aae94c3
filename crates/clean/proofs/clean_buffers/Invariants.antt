-- What the loop of `clean_buffers` keeps. Assumes nothing.
use mathlib.Core.Path.{◌≡◌}
use Prim.Native.Nat.{◌≤◌}
use lib.ListN.{length}
use Rattle.machine.specs.Machine.{Machine}
use Rattle.machine.specs.Words.{Shows}
use Rattle.clean.specs.Clean.{Stopped}
use Rattle.answers.specs.Promise.{walk_of}
use Rattle.answers.proofs.Little.{Little}
use Rattle.clean.proofs.Cleaning.{CleanedTo}
use Rattle.clean.proofs.clean_buffers.Given as goal

abbrev pub invariant-loop-i : goal.invariant-loop-i
invariant-loop-i l =
    (l.changed ≤ l.i) × Little l.i (walk_of l.walk) × (length l.t ≡ length l.initial.t)
    × ((m : Machine) → Shows l.initial.t m → Stopped l.p m → CleanedTo l.p m l.t l.i l.changed (walk_of l.walk))

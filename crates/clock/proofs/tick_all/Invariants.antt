-- What the loop of `tick_all` keeps. Assumes nothing.
use mathlib.Core.Path.{◌≡◌}
use lib.ListN.{length}
use Rattle.machine.specs.Machine.{Machine}
use Rattle.machine.specs.Words.{Shows}
use Rattle.machine.specs.Legal.{Legal}
use Rattle.answers.specs.Promise.{walk_of}
use Rattle.answers.proofs.Little.{Little}
use Rattle.clock.proofs.Ticking.{TickedTo}
use Rattle.clock.proofs.tick_all.Given as goal

abbrev pub invariant-loop-i : goal.invariant-loop-i
invariant-loop-i l = Little l.i (walk_of l.walk) × (length l.t ≡ length l.initial.t)
    × ((m : Machine) → Shows l.initial.t m → Legal m → TickedTo m l.t l.i (walk_of l.walk))

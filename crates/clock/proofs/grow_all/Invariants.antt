-- What the loop of `grow_all` keeps. Assumes nothing.
use mathlib.Core.Path.{◌≡◌}
use lib.ListN.{length}
use Rattle.machine.specs.Machine.{Machine}
use Rattle.machine.specs.Step.{grow}
use Rattle.machine.specs.Words.{Shows}
use Rattle.laws.proofs.Sweeps.{swept}
use Rattle.clock.proofs.grow_all.Given as goal

abbrev pub invariant-loop-i : goal.invariant-loop-i
invariant-loop-i l = (length l.t ≡ length l.initial.t) × ((m : Machine) → Shows l.initial.t m → Shows l.t (swept grow l.i m))

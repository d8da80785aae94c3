-- What the loop of `count_shown` keeps. Assumes nothing.
use mathlib.Core.Path.{◌≡◌}
use Prim.Native.Nat.{◌≤◌}
use lib.ListN.{length}
use Rattle.machine.specs.Queue.{from, keep}
use Rattle.machine.specs.Machine.{Machine}
use Rattle.machine.specs.Words.{Shows}
use Rattle.machine.specs.Refusal.{is_shown}
use Rattle.listing.proofs.count_shown.Given as goal

abbrev pub invariant-loop-i : goal.invariant-loop-i
invariant-loop-i l = (l.count ≤ l.i) × ((m : Machine) → Shows l.t m → l.count ≡ length (keep (is_shown m l.a) (from 1 l.i)))

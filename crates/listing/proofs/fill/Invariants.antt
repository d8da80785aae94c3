-- What the loop of `fill` keeps. Assumes nothing.
use mathlib.Core.Path.{◌≡◌}
use lib.ListN.{length}
use Rattle.machine.specs.Machine.{Machine}
use Rattle.machine.specs.Words.{Shows}
use Rattle.listing.specs.Rows.{RoomFor}
use Rattle.listing.proofs.Rows.{Filled}
use Rattle.listing.proofs.fill.Given as goal

abbrev pub invariant-loop-i : goal.invariant-loop-i
invariant-loop-i l =
    (length l.room ≡ length l.initial.room) × ((m : Machine) → Shows l.t m → RoomFor l.a (length l.initial.room) m →
    Filled m l.a l.i l.at l.room l.initial.room)

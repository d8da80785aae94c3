-- What the loop of `LineBegun::fill` keeps: the first i bytes of the block are of the line begun. Assumes nothing.
use mathlib.Core.Path.{◌≡◌}
use Prim.Native.Nat.{◌+◌}
use lib.ListN.{drop}
use Rattle.turn.specs.Begun.{before_end, Takes}
use Rattle.turn.proofs.begun.LineBegun.fill.Given as goal

abbrev pub invariant-loop-i : goal.invariant-loop-i
invariant-loop-i l = Takes l.initial.self.bytes l.self.bytes l.initial.self.len l.self.len l.block l.i
    × (before_end l.block ≡ l.i + before_end (drop l.i l.block))

-- What the loop of `take_block` keeps: the run has the bytes taken behind its input, and what they add is written. Assumes nothing.
use mathlib.Core.List.{List}
use mathlib.Core.Path.{◌≡◌}
use Prim.Native.Nat.{ℕ, ◌-◌, ◌≤◌}
use lib.ListN.{length, take}
use Rattle.turn.specs.Feed.{adds}
use Rattle.replay.specs.Open.{lent, Holds, TakesAll}
use Rattle.replay.specs.Streams.{Writes}
use Rattle.replay.proofs.take_block.Given as goal

abbrev pub invariant-loop-taken : goal.invariant-loop-taken
invariant-loop-taken g l =
    let start = lent l.initial.kept in
    record {
      taken : TakesAll (take l.taken l.block) start (lent l.kept) l.out;
      written : (input : List ℕ) → Holds input start → Writes l.initial.streams.failed l.streams.failed (g.W.Write.contents l.initial.streams.output)
          (g.W.Write.contents l.streams.output) (adds input (take l.taken l.block));
      input : l.streams.input ≡ l.initial.streams.input;
      within : l.taken ≤ length l.block;
    }

abbrev pub decreases-loop-taken : goal.decreases-loop-taken
decreases-loop-taken g l = length l.block - l.taken

-- What the loop of `take_lines` keeps: what the lines taken answer is gathered. Assumes nothing.
use Prim.Native.Nat.{◌-◌}
use lib.ListN.{length}
use Rattle.replay.specs.Open.{lent, TakesPart}
use Rattle.replay.proofs.blocks.Kept.take_lines.Given as goal

abbrev pub invariant-loop-fed : goal.invariant-loop-fed
invariant-loop-fed l = TakesPart l.block l.from (lent l.initial.self) (lent l.self) l.initial.out 0 l.out l.fed

abbrev pub decreases-loop-fed : goal.decreases-loop-fed
decreases-loop-fed l = length l.block - l.fed.taken

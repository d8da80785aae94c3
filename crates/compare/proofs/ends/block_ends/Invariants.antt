-- What the loop of `ends::block_ends` keeps. Assumes nothing.
use mathlib.Core.Path.{◌≡◌}
use Prim.Native.Nat.{◌+◌, ◌≤◌}
use lib.ListN.{drop}
use Rattle.compare.specs.Promise.{ends}
use Rattle.compare.proofs.ends.block_ends.Given as goal

abbrev pub invariant-loop-byte : goal.invariant-loop-byte
invariant-loop-byte l = (l.count ≤ l.byte-index) × (ends l.block ≡ l.count + ends (drop l.byte-index l.block))

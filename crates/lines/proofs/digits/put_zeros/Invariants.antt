-- What the loop of `digits::put_zeros` keeps. Assumes nothing.
use mathlib.Core.Path.{◌≡◌}
use lib.ListN.{length, replicate}
use Rattle.lines.specs.Promise.{Put}
use Rattle.lines.proofs.digits.put_zeros.Given as goal

abbrev pub invariant-loop-i : goal.invariant-loop-i
invariant-loop-i l = (length l.out ≡ length l.initial.out) × Put l.initial.out l.at (replicate l.i 0x30) l.out

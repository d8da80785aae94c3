-- What the loop of `calls::write_rows` keeps. Assumes nothing.
use mathlib.Core.Path.{◌≡◌}
use Prim.Native.Nat.{◌+◌, ◌*◌}
use lib.ListN.{length}
use Rattle.lines.specs.Line.{row_bytes}
use Rattle.lines.specs.Promise.{Put}
use Rattle.turn.proofs.Rows.{first_lines}
use Rattle.turn.proofs.calls.write_rows.Given as goal

abbrev pub invariant-loop-k : goal.invariant-loop-k
invariant-loop-k l =
    (length l.out ≡ length l.initial.out) × (l.next ≡ l.at + row_bytes * l.k) × Put l.initial.out l.at (first_lines l.k l.room) l.out

-- Bytes written one behind the other, and what stands there then. Assumes nothing.
use mathlib.Core.List.{List, [], ◌++◌}
use mathlib.Core.Path.{◌≡◌, refl, ap, ◌∙◌}
use Prim.Native.Nat.{ℕ, ◌≤◌}
use native.Mathlib.Omega.{arith}
use lib.ListN.{length, take, length-append}
use lib.Seq.{length-sets}
use Rattle.lines.specs.Line.{ended}
use Rattle.lines.specs.Promise.{Wrote}
use Rattle.lines.proofs.Stores.{behind}
use Rattle.turn.specs.InWords.{Written}
use Rattle.turn.proofs.Storing.{take_sets}

pub none_written : (before : List ℕ) (at : ℕ) → Written before at [] before at
none_written before at = record { put = record { bytes = refl }; place = omega arith }

pub line_written : {before after line : List ℕ} {at next : ℕ} → Wrote before at line after next → Written before at (ended line) after next
line_written w = record { put = w.put; place = w.place }

pub written_behind : {before out after l k : List ℕ} {at next place : ℕ} → Written before at l out next → Written out next k after place
    → Written before at (l ++ k) after place
written_behind {l = l} {k = k} x y = record { put = behind x.put y.put x.place; place = omega (arith, x.place, y.place, length-append l k) }

-- what stands up to the place behind them: what stood before them, and they
pub written_stands : {before l after : List ℕ} {at next : ℕ} → Written before at l after next → next ≤ length after → take next after ≡ take at before ++ l
written_stands {before} {l} {after} {at} w h =
    let long : length after ≡ length before = ap length w.put.bytes ∙ length-sets before at l in
    rw (w.place, w.put.bytes) (take_sets before l at (omega (arith, w.place)))

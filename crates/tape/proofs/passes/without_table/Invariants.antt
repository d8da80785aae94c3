-- What the loop of `passes::without_table` keeps. Assumes nothing.
use mathlib.Core.Bool.{false}
use mathlib.Core.List.{[]}
use Prim.Native.Nat.{ℕ}
use lib.ListN.{length}
use Rattle.tape.specs.Tape.{run}
use Rattle.tape.specs.Promise.{number_of_mode, whole, Based}
use Rattle.tape.proofs.Running.{Running}
use Rattle.tape.proofs.passes.without_table.Given as goal

abbrev pub invariant-loop-i : goal.invariant-loop-i
invariant-loop-i l =
    (b : ℕ) → Based b → Running (number_of_mode l.mode) [] l.initial.area (length l.initial.area) l.tape
    (run (number_of_mode l.mode) [] (whole b) (length l.initial.area) l.tape) l.area l.i l.i b false

-- What the loop of `passes::by_table` keeps. Assumes nothing.
use mathlib.Core.Path.{◌≡◌}
use lib.ListN.{length}
use Rattle.tape.specs.Tape.{run}
use Rattle.tape.specs.Promise.{number_of_mode, whole}
use Rattle.tape.proofs.Running.{Running}
use Rattle.tape.proofs.passes.by_table.Given as goal

abbrev pub invariant-loop-byte : goal.invariant-loop-byte
invariant-loop-byte l =
    (l.passed.read ≡ l.byte-index) × Running (number_of_mode l.fn.mode) l.table l.initial.area l.full l.tape
    (run (number_of_mode l.fn.mode) l.table (whole l.base) (length l.initial.area) l.tape) l.area l.passed.stored l.passed.read l.passed.base l.passed.parity

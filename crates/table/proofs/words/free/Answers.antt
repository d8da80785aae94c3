-- `words::free` meets its contract: its record is found, and wiped from there. Assumes nothing.
use native.Mathlib.Omega.{arith}
use Rattle.machine.specs.Words.{Buffer}
use Rattle.table.proofs.Store.{in_table, first_word}
use Rattle.table.proofs.words.free.Goals as goal

pub wipe-requires : goal.wipe-requires
wipe-requires c =
    let p = c.requires in
    let inside = in_table p.shows (Buffer _ 9) (p.may.is.0, p.may.is.1, omega arith) in
    omega (arith, c.before.of_buffer-start.ensures)

pub returns : goal.returns
returns c m s may = c.before.before.wipe.ensures m _ s may (omega (arith, c.before.before.before.before.of_buffer-start.ensures, first_word s))

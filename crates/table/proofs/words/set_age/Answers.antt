-- `words::set_age` meets its contract. Assumes nothing.
use native.Mathlib.Omega.{arith}
use Rattle.machine.specs.Words.{Buffer}
use Rattle.table.proofs.Store.{in_table}
use Rattle.table.proofs.Plain.{content_stored}
use Rattle.table.proofs.words.set_age.Goals as goal

pub offset_bounds-t-i : goal.offset_bounds-t-i
offset_bounds-t-i c =
    let p = c.requires in
    omega (arith, in_table p.shows (Buffer _ 5) (p.may.0, p.may.1, omega arith))

pub bounds-t-i : goal.bounds-t-i
bounds-t-i c =
    let p = c.requires in
    rw c.of_buffer-i.ensures (in_table p.shows (Buffer _ 5) (p.may.0, p.may.1, omega arith))

pub returns : goal.returns
returns c m s may =
    let a = c.args in
    rw c.of_buffer-i.ensures (content_stored s a.b 5 a.x may (omega arith) (omega arith))

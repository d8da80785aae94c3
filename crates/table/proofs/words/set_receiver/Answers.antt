-- `words::set_receiver` meets its contract. Assumes nothing.
use native.Mathlib.Omega.{arith}
use Rattle.machine.specs.Words.{Buffer}
use Rattle.table.proofs.Store.{in_table}
use Rattle.table.proofs.Plain.{receiver_stored}
use Rattle.table.proofs.words.set_receiver.Goals as goal

pub offset_bounds-t-i : goal.offset_bounds-t-i
offset_bounds-t-i c =
    let p = c.requires in
    omega (arith, in_table p.shows (Buffer _ 3) (p.may.0.is.0, p.may.0.is.1, omega arith))

pub bounds-t-i : goal.bounds-t-i
bounds-t-i c =
    let p = c.requires in
    rw c.of_buffer-i.ensures (in_table p.shows (Buffer _ 3) (p.may.0.is.0, p.may.0.is.1, omega arith))

pub returns : goal.returns
returns c m s may =
    let a = c.args in
    rw c.of_buffer-i.ensures (receiver_stored s a.b a.x may.0 may.1)

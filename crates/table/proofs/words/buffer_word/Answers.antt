-- `words::buffer_word` meets its contract. Assumes nothing.
use native.Mathlib.Omega.{arith}
use Rattle.machine.specs.Words.{Buffer}
use Rattle.laws.proofs.Decoded.{shows_agree}
use Rattle.table.proofs.Store.{in_table}
use Rattle.table.proofs.words.buffer_word.Goals as goal

pub offset_bounds-t-of_buffer : goal.offset_bounds-t-of_buffer
offset_bounds-t-of_buffer c =
    let p = c.before.before.requires in
    omega (arith, in_table p.shows (Buffer _ _) (p.may.0.0, p.may.0.1, p.may.2))

pub bounds-t-of_buffer : goal.bounds-t-of_buffer
bounds-t-of_buffer c =
    let p = c.before.before.before.requires in
    rw c.before.of_buffer.ensures (in_table p.shows (Buffer _ _) (p.may.0.0, p.may.0.1, p.may.2))

pub returns : goal.returns
returns c m s may =
    let a = c.before.before.before.args in
    rw c.before.of_buffer.ensures ((shows_agree s).buffer a.b a.g may.0 may.1 may.2)

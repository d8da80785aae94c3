-- `write_rows` meets its contract: the lines of the first k rows are put in, and one more. Assumes nothing.
use mathlib.Core.Path.{◌≡◌, refl, ◌∙◌}
use Prim.Native.Nat.{◌+◌, ◌*◌, ◌≤◌}
use native.Mathlib.Omega.{arith}
use lib.ListN.{length}
use Rattle.machine.specs.Refusal.{row_width}
use Rattle.turn.proofs.Rows.{no_lines, lines_length, rows_more}
use Rattle.turn.proofs.calls.write_rows.Goals as goal

pub loop-k-init : goal.loop-k-init
loop-k-init c = (refl, omega arith, record { bytes = rw no_lines })

pub loop-k-preserved : goal.loop-k-preserved
loop-k-preserved c =
    let l = c.loop-k in
    let fits : row_width * l.k + row_width ≤ length c.args.room.now = omega arith in
    let (place, put) = rows_more c.args.room.now l.k fits l.invariant.1 l.invariant.2 c.write_row-next.ensures in
    (c.write_row-next.auto.out ∙ l.invariant.0, place, put)

pub returns : goal.returns
returns c =
    let l = c.loop-k in
    let e : l.k ≡ c.args.count = omega arith in
    let fits : row_width * l.k ≤ length c.args.room.now = omega arith in
    record { put = rw (← e) l.invariant.2; place = rw (← e, lines_length _ l.k fits) l.invariant.1 }

-- `passes::without_table` meets its contract. The loop's invariant is that of a pass by a table that is empty, from whatever base. Assumes nothing.
use mathlib.Core.Path.{◌≡◌}
use native.Mathlib.Omega.{arith}
use Rattle.tape.proofs.Running.{running_full, running_over, running_plain}
use Rattle.tape.proofs.passes.without_table.Goals as goal
use Rattle.tape.proofs.passes.without_table.Goals.{then-area-tape, else-area-tape}

pub loop-i-preserved : goal.loop-i-preserved
loop-i-preserved c = λ b h. running_plain (c.loop-i.invariant b h) c.treated.ensures (omega arith) (omega arith)

pub returns : goal.returns
returns c =
    let e : c.loop-i.i ≡ c.if-area-tape.size = omega arith in
    record {
      passes = λ b h. elim c.if-area-tape.branch [
        | then-area-tape w ↦ rw e at (running_full (c.loop-i.invariant b h) (omega (arith, w.size-is)))
        | else-area-tape w ↦ rw e at (running_over (c.loop-i.invariant b h) (omega (arith, w.size-is)))
      ];
    }

-- `passes::by_table` meets its contract. The loop's invariant: what was done, with the run from here on, is the whole. Assumes nothing.
use mathlib.Core.Bool.{or-true, or-false}
use mathlib.Core.Path.{◌≡◌, sym}
use Prim.Native.Nat.{◌+◌}
use native.Mathlib.Omega.{arith}
use Rattle.std.proofs.lemmas.Result.{err_from_is_err_and}
use Rattle.tape.proofs.Lookups.{sees_converted}
use Rattle.tape.proofs.Running.{running_full, running_over, running_stops, running_ends, running_skips, running_more}
use Rattle.tape.proofs.passes.by_table.Goals as goal
use Rattle.tape.proofs.passes.by_table.Goals.{in-Delivered+then-parity, in-Delivered+else-parity, in-Skipped}

pub returns-in_err-seen : goal.returns-in_err-seen
returns-in_err-seen c =
    let s = sees_converted _ _ _ _ c.requires.0 (rw (← c.loop-byte.invariant.0) at c.in_err-seen.ensures) c.unwanted-mark.ensures in
    let p = err_from_is_err_and c.from_residual.result c.from_residual.ensures.1 in
    rw (p.1, p.2) (running_stops c.loop-byte.invariant.1 (omega arith) (omega arith) s)

pub loop-byte-preserved : goal.loop-byte-preserved
loop-byte-preserved c =
    let s = sees_converted _ _ _ _ c.requires.0 (rw (← c.loop-byte.invariant.0) at c.in_ok-seen.ensures) c.unwanted-mark.ensures in
    let r = c.loop-byte.invariant.1 in
    let k : c.loop-byte.passed.read + 1 ≡ c.loop-byte.byte-index + 1 = omega (arith, c.loop-byte.invariant.0) in
    elim c.match-seen.branch [
      | in-Delivered+then-parity w ↦ rw (w.passed-is, w.area-is)
          (k, running_more r (omega arith) (omega arith) (rw w.in-Delivered.is at s) w.put.ensures (rw w.if-parity.true (sym (or-true _))))
      | in-Delivered+else-parity w ↦ rw (w.passed-is, w.area-is)
          (k, running_more r (omega arith) (omega arith) (rw w.in-Delivered.is at s) w.put.ensures (rw w.if-parity.false (sym (or-false _))))
      | in-Skipped w ↦ rw (w.passed-is, w.area-is) (k, running_skips r (omega arith) (omega arith) (rw w.in-Skipped.is at s))
    ]

pub returns-after-loop-byte : goal.returns-after-loop-byte
returns-after-loop-byte c = running_over c.loop-byte.invariant.1 (omega arith)

pub returns-then-passed-area : goal.returns-then-passed-area
returns-then-passed-area c = running_full c.loop-byte.invariant.1 (omega arith)

pub returns-in-Ended : goal.returns-in-Ended
returns-in-Ended c =
    let s = sees_converted _ _ _ _ c.requires.0 (rw (← c.loop-byte.invariant.0) at c.in_ok-seen.ensures) c.unwanted-mark.ensures in
    running_ends c.loop-byte.invariant.1 (omega arith) (omega arith) (rw c.in-Ended.is at s)

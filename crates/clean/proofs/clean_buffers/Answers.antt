-- `clean_buffers` meets its contract. The loop's invariant: the first b buffers are cleaned, so many of their standings changed, with that walk of the owners
-- that woke. Assumes nothing.
use mathlib.Core.Path.{◌≡◌, refl, ◌∙◌}
use Prim.Native.Nat.{◌≤◌}
use native.Mathlib.Omega.{arith}
use Rattle.machine.specs.Machine.{Machine}
use Rattle.machine.specs.Words.{Shows}
use Rattle.answers.proofs.Promises.{can}
use Rattle.answers.proofs.Little.{little_none, little_same, little_roomy, little_more}
use Rattle.clean.proofs.Cleaning.{cleaned_none, may_clean, cleaned_few, cleaned_changed, cleaned_same}
use Rattle.clean.proofs.clean_buffers.Goals as goal
use Rattle.clean.proofs.clean_buffers.Goals.{In-Some}

pub loop-i-init : goal.loop-i-init
loop-i-init c = (omega arith, little_none c.nowhere-walk.ensures, refl, λ m s stopped. cleaned_none s c.nowhere-walk.ensures)

pub clean_buffer-requires : goal.clean_buffer-requires
clean_buffer-requires c =
    let l = c.loop-i in
    let k = c in
    let p = k.requires in
    let n = k.buffers-n.ensures p.m p.shows tt in
    record { m = _; shows = (l.invariant.3 p.m p.shows p.may).sweeps.words; may = may_clean _ p.may l.i (omega arith) }

-- no position is high
low : (e : In-Some) → (e.in-Some.position ≤ 32) × (e.loop-i.i ≤ 128)
low e =
    let l = e.loop-i in
    let p = e.requires in
    let n = e.buffers-n.ensures p.m p.shows tt in (
      cleaned_few p.may l.i (omega arith) (l.invariant.3 p.m p.shows p.may) e.in-Some.ensures,
      omega (arith, p.may.0.fixed.B128),
    )

pub walk_to-walk-requires : goal.walk_to-walk-requires
walk_to-walk-requires c =
    let h = low (goal.at.walk_to-walk-requires c).In-Some in
    little_roomy c.loop-i.invariant.1 h.0 h.1

pub loop-i-preserved : goal.loop-i-preserved
loop-i-preserved c =
    let l = c.loop-i in (
      omega arith,
      little_more l.invariant.1 (low (goal.at.loop-i-preserved c).In-Some).0 c.walk_to-walk.ensures,
      c.clean_buffer.auto.t ∙ l.invariant.2,
      λ m s stopped.
          let n = c.buffers-n.ensures m s tt in
          cleaned_changed stopped l.i (omega arith) (l.invariant.3 m s stopped) c.in-Some.ensures refl c.walk_to-walk.ensures,
    )

pub loop-i-preserved-in_default : goal.loop-i-preserved-in_default
loop-i-preserved-in_default c =
    let l = c.loop-i in (
      omega arith,
      little_same l.invariant.1,
      c.clean_buffer.auto.t ∙ l.invariant.2,
      λ m s stopped.
          let n = c.buffers-n.ensures m s tt in
          cleaned_same stopped l.i (omega arith) (l.invariant.3 m s stopped) c.in_default.ensures refl,
    )

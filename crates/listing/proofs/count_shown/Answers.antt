-- `count_shown` meets its contract. The loop's invariant: so many of the first b buffers are shown. Assumes nothing.
use mathlib.Core.Path.{◌≡◌, sym, ap, ◌∙◌}
use Prim.Native.Nat.{ℕ, ◌+◌}
use native.Mathlib.Omega.{arith}
use lib.ListN.{length}
use Rattle.machine.specs.Queue.{from, keep}
use Rattle.machine.specs.Machine.{Machine}
use Rattle.machine.specs.Words.{Shows}
use Rattle.machine.specs.Refusal.{is_shown}
use Rattle.lists.proofs.Numbers.{count_zero, count_yes, keep_no}
use Rattle.answers.proofs.Promises.{can}
use Rattle.listing.proofs.count_shown.Goals as goal
use Rattle.listing.proofs.count_shown.Goals.{After-is_shown, then-is_shown, else-is_shown}

pub buffers-n-requires : goal.buffers-n-requires
buffers-n-requires c = c.requires

pub loop-i-init : goal.loop-i-init
loop-i-init c = (omega arith, λ m w. count_zero _)

pub is_shown-requires : goal.is_shown-requires
is_shown-requires c =
    let p = c.requires in
    can p (λ m w _. (omega arith, omega (arith, c.buffers-n.ensures m w tt)))

-- what was read of the buffer
told : (e : After-is_shown) → let l = e in let a = l.args in
    (m : Machine) → Shows a.t.now m → e.is_shown.result ≡ is_shown m a.a (l.loop-i.i + 1)
told e m w = e.is_shown.ensures m w (omega arith, omega (arith, e.buffers-n.ensures m w tt))

pub overflow_add-count : goal.overflow_add-count
overflow_add-count c = omega arith

pub loop-i-preserved : goal.loop-i-preserved
loop-i-preserved c =
    let l = c.loop-i in
    elim c.if-is_shown.branch [
      | then-is_shown w ↦ rw w.count-is (
        omega arith,
        λ m s. ap (λ (k : ℕ). k + 1) (l.invariant.1 m s) ∙ sym
            (count_yes (is_shown m _) l.i (sym (told (goal.at.loop-i-preserved c).After-is_shown m s) ∙ w.if-is_shown.true)),
      )
      | else-is_shown w ↦ rw w.count-is (
        omega arith,
        λ m s. l.invariant.1 m s ∙ sym (ap length (keep_no (is_shown m _) l.i
            (sym (told (goal.at.loop-i-preserved c).After-is_shown m s) ∙ w.if-is_shown.false))),
      )
    ]

pub returns : goal.returns
returns c m w u =
    let e : c.loop-i.i ≡ m.B = omega (arith, c.buffers-n.ensures m w tt) in
    c.loop-i.invariant.1 m w ∙ ap (λ (b : ℕ). length (keep (is_shown m c.args.a) (from 1 b))) e

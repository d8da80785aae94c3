-- `fill` meets its contract. The loop's invariant: the room has the rows of the first b buffers, and behind them what was there. Assumes nothing.
use mathlib.Core.Path.{◌≡◌, refl, ◌∙◌}
use Prim.Native.Nat.{◌+◌, ◌≤◌}
use native.Mathlib.Omega.{arith}
use Rattle.machine.specs.Machine.{Machine}
use Rattle.machine.specs.Words.{Shows}
use Rattle.machine.specs.Refusal.{shown}
use Rattle.laws.proofs.Dispatch.{rows_length}
use Rattle.answers.proofs.Promises.{can}
use Rattle.listing.proofs.Rows.{rows_fit, filled_none, filled_more}
use Rattle.listing.proofs.fill.Goals as goal

pub buffers-n-requires : goal.buffers-n-requires
buffers-n-requires c = can c.requires (λ m w i. tt)

pub loop-i-init : goal.loop-i-init
loop-i-init c = (refl, λ m w r. filled_none m _ _)

pub show-at-requires : goal.show-at-requires
show-at-requires c =
    let s = c in
    let l = c.loop-i in
    can s.requires (λ m w r.
    let n = c.buffers-n.ensures m w tt in
    let k = l.invariant.1 m w r in
    (omega (arith, n), rw (k.next, l.invariant.0) (rows_fit m _ l.i _ (omega (arith, n)) r)))

pub loop-i-preserved : goal.loop-i-preserved
loop-i-preserved c =
    let l = c.loop-i in (
      c.show-at.auto.room ∙ l.invariant.0,
      λ m w r.
          let n = c.buffers-n.ensures m w tt in
          let e = c.show-at.ensures in
          let h : l.i + 1 ≤ m.B = omega (arith, n) in
          filled_more h r (l.invariant.1 m w r) (e.next m w (omega arith, h)) (e.put m w (omega arith, h)),
    )

pub shape_of-room : goal.shape_of-room
shape_of-room c = c.loop-i.invariant.0

pub returns : goal.returns
returns c =
    let l = c.loop-i in
    let all : (m : Machine) → Shows _ m → l.i ≡ m.B = λ m w. omega (arith, c.buffers-n.ensures m w tt) in
    record {
      put = λ m w r. rw (all m w) at (l.invariant.1 m w r).rows;
      end = λ m w r. (rw (all m w) at (l.invariant.1 m w r).next) ∙ rows_length m (shown m _);
    }

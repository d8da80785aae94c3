-- `seek` meets its contract. Assumes nothing.
use native.Mathlib.Omega.{arith}
use Rattle.delays.proofs.Walks.{seek_there, seek_ends, seek_goes, seek_spent, seek_last}
use Rattle.delays.proofs.list.seek.Goals as goal

pub returns-then-x-p : goal.returns-then-x-p
returns-then-x-p c =
    let s = seek_there _ _ _ _ c.loop.invariant.1.1 c.next-x.ensures.0 c.if-x-p.true in
    (s.0, (s.1, c.loop.invariant.1.0))

pub returns-then-x-eq0 : goal.returns-then-x-eq0
returns-then-x-eq0 c = seek_ends _ _ _ _ c.loop.invariant.1.1 c.next-x.ensures.0 c.if-x-p.false c.if-x-eq0.true

pub loop-preserved : goal.loop-preserved
loop-preserved c = (
  c.loop.invariant.0,
  (
    c.next-x.ensures.1,
    seek_goes _ _ _ _ c.loop.invariant.1.1 c.next-x.ensures.0 c.if-x-p.false c.if-x-eq0.false c.difference.ensures c.sum.ensures (omega arith),
  ),
)

pub returns-then-next-p : goal.returns-then-next-p
returns-then-next-p c =
    let s = seek_last _ _ _ _ c.loop.invariant.1.1 c.next.ensures.0 (omega arith) c.if-next-p.true in
    (s.0, (s.1, c.loop.invariant.1.0))

pub returns-else-next-p : goal.returns-else-next-p
returns-else-next-p c = seek_spent _ _ _ _ c.loop.invariant.1.1 c.next.ensures.0 (omega arith) c.if-next-p.false

-- `find` meets its contract. Assumes nothing.
use native.Mathlib.Omega.{arith}
use Rattle.delays.proofs.Walks.{find_none, find_stops, find_goes, find_spent}
use Rattle.delays.proofs.list.find.Goals as goal

pub returns-then-x-eq0 : goal.returns-then-x-eq0
returns-then-x-eq0 c = (find_none _ _ _ _ _ c.loop.invariant.1.1 c.next-x.ensures.0 c.if-x-eq0.true, c.loop.invariant.1.0)

pub returns-then-not-sooner : goal.returns-then-not-sooner
returns-then-not-sooner c = (
  find_stops _ _ _ _ _ c.loop.invariant.1.1 c.next-x.ensures.0 c.if-x-eq0.false c.difference-c.ensures c.sooner.ensures c.if-not-sooner.true,
  c.loop.invariant.1.0,
)

pub loop-preserved : goal.loop-preserved
loop-preserved c = (
  c.loop.invariant.0,
  (
    c.next-x.ensures.1,
    find_goes _ _ _ _ _ c.loop.invariant.1.1 c.next-x.ensures.0 c.if-x-eq0.false c.difference-c.ensures c.sooner.ensures c.if-not-sooner.false
        c.less.ensures (omega arith),
  ),
)

pub returns : goal.returns
returns c = (find_spent _ _ _ _ _ c.loop.invariant.1.1 (omega arith), c.loop.invariant.1.0)

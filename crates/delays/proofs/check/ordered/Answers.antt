-- `ordered` meets its contract. Assumes nothing.
use mathlib.Core.Path.{◌∙◌}
use native.Mathlib.Omega.{arith}
use Rattle.delays.proofs.Walks.{may_stays, order_ends, order_spent, order_fails, order_goes}
use Rattle.delays.proofs.check.ordered.Goals as goal

pub returns-then-x-eq0 : goal.returns-then-x-eq0
returns-then-x-eq0 c = order_ends _ _ _ _ c.next-x.ensures.0 c.if-x-eq0.true ∙ c.loop.invariant.1.rest

pub returns-then-not-may_follow : goal.returns-then-not-may_follow
returns-then-not-may_follow c =
    order_fails _ _ _ c.next-x.ensures.0 c.if-x-eq0.false c.difference-c.ensures c.may_follow.ensures _ (omega arith) c.if-not-may_follow.true
    ∙ c.loop.invariant.1.rest

pub overflow_add-time : goal.overflow_add-time
overflow_add-time c =
    record {
      fits = may_stays c.loop.before c.loop.time c.next-x.result c.difference-c.result c.may_follow.ensures c.if-not-may_follow.false
          c.loop.invariant.1.fits;
    }

pub loop-preserved : goal.loop-preserved
loop-preserved c = (
  c.loop.invariant.0,
  record {
    among = c.next-x.ensures.1;
    fits = may_stays c.loop.before c.loop.time c.next-x.result c.difference-c.result c.may_follow.ensures c.if-not-may_follow.false c.loop.invariant.1.fits;
    rest = order_goes _ _ _ c.next-x.ensures.0 c.if-x-eq0.false c.difference-c.ensures c.may_follow.ensures _ _ (omega arith) c.if-not-may_follow.false
        ∙ c.loop.invariant.1.rest;
  },
)

pub returns : goal.returns
returns c = order_spent _ _ _ _ (omega arith) c.next.ensures.0 ∙ c.loop.invariant.1.rest

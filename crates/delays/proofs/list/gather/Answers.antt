-- `gather` meets its contract. The loop's invariant: what is to be gathered from x on comes behind what went into the room. Assumes nothing.
use mathlib.Core.Path.{refl, ◌∙◌}
use native.Mathlib.Omega.{arith}
use Rattle.delays.proofs.Walks.{gathering_none, gathering_goes, gathering_over, gathering_spent, over_none, over_later}
use Rattle.delays.proofs.list.gather.Goals as goal
use Rattle.delays.proofs.list.gather.Goals.{then-due-eq0-via-then-due-eq0, then-due-eq0-via-else-due-eq0+then-difference-ne0}

pub loop-n-init : goal.loop-n-init
loop-n-init c = (c.processes-all.ensures, (refl, gathering_none _ _ _ _ c.requires.1.0))

pub returns-then-due-eq0 : goal.returns-then-due-eq0
returns-then-due-eq0 c =
    let g = c.loop-n.invariant in
    gathering_over g.1.1 g.0 (elim c.then-due-eq0.branch [
      | then-due-eq0-via-then-due-eq0 w ↦ over_none _ _ w.if-due-eq0.true
      | then-due-eq0-via-else-due-eq0+then-difference-ne0 w ↦ over_later _ _ (λ e. w.if-difference-ne0.true (w.difference.ensures ∙ e)) w.if-due-eq0.false
    ])

pub loop-n-preserved : goal.loop-n-preserved
loop-n-preserved c =
    let g = c.loop-n.invariant in (
      g.0,
      (
        refl,
        rw (← g.1.0)
            (gathering_goes g.1.1 (omega arith) c.if-due-eq0.false c.difference.ensures c.if-difference-ne0.false c.next.ensures.0 c.next.ensures.1),
      ),
    )

pub returns : goal.returns
returns c = gathering_spent c.loop-n.invariant.1.1 c.loop-n.invariant.0 (omega arith)

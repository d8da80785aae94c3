-- `grow_all` meets its contract. The loop's invariant: the first b buffers have grown older. Assumes nothing.
use mathlib.Core.Path.{◌≡◌, refl, sym, subst, ◌∙◌}
use native.Mathlib.Omega.{arith}
use Rattle.machine.specs.Step.{grow}
use Rattle.machine.specs.Words.{Shows}
use Rattle.lists.proofs.Numbers.{fold_none, fold_more}
use Rattle.clock.proofs.Growing.{grown_size}
use Rattle.clock.proofs.grow_all.Goals as goal

pub loop-i-init : goal.loop-i-init
loop-i-init c = (refl, λ m s. rw (fold_none grow m) s)

pub grow-requires : goal.grow-requires
grow-requires c =
    let p = c.requires in
    let l = c.loop-i in
    let n = c.buffers-n.ensures p.m p.shows tt in
    record { m = _; shows = l.invariant.1 p.m p.shows; may = (omega arith, omega (arith, n, grown_size l.i p.m)) }

pub loop-i-preserved : goal.loop-i-preserved
loop-i-preserved c =
    let l = c.loop-i in
    let one = c.grow in (
      one.auto.t ∙ l.invariant.0,
      λ m s.
          let n = c.buffers-n.ensures m s tt in
          subst (Shows _) (sym (fold_more grow l.i m))
          (one.ensures _ (l.invariant.1 m s) (omega arith, omega (arith, n, grown_size l.i m))),
    )

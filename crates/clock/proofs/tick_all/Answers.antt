-- `tick_all` meets its contract. The loop's invariant: a tick passed for the first p processes, with that walk of those that woke. Assumes nothing.
use mathlib.Core.Path.{◌≡◌, refl, subst, ◌∙◌}
use Prim.Native.Nat.{◌≤◌}
use native.Mathlib.Omega.{arith}
use Rattle.machine.specs.Machine.{Machine}
use Rattle.machine.specs.Words.{Shows}
use Rattle.answers.proofs.Promises.{can}
use Rattle.answers.proofs.Little.{little_none, little_roomy, little_more}
use Rattle.clock.proofs.Ticking.{ticked_all, ticked_none, may_tick, ticked_few, ticked_more}
use Rattle.clock.proofs.Walking.{ticks_walk}
use Rattle.clock.proofs.tick_all.Goals as goal
use Rattle.clock.proofs.tick_all.Goals.{After-tick_one}

pub loop-i-init : goal.loop-i-init
loop-i-init c = (little_none c.nowhere-walk.ensures, refl, λ m s L. ticked_none s c.nowhere-walk.ensures)

pub tick_one-requires : goal.tick_one-requires
tick_one-requires c =
    let l = c.loop-i in
    let k = c in
    let p = k.requires in
    let n = k.processes-n.ensures p.m p.shows tt in
    record { m = _; shows = (l.invariant.2 p.m p.shows p.may).words; may = may_tick p.may l.i (omega arith) }

-- no position is high
low : (e : After-tick_one) → (e.tick_one.result ≤ 32) × (e.loop-i.i ≤ 128)
low e =
    let l = e.loop-i in
    let k = e in
    let p = k.requires in
    let n = k.processes-n.ensures p.m p.shows tt in (
      ticked_few p.may l.i (omega arith) (l.invariant.2 p.m p.shows p.may) e.tick_one.ensures,
      omega (arith, p.may.fixed.P32),
    )

pub walk_to-walk-requires : goal.walk_to-walk-requires
walk_to-walk-requires c =
    let e = c in
    let h = low (goal.at.walk_to-walk-requires c).After-tick_one in
    little_roomy e.loop-i.invariant.0 h.0 h.1

pub loop-i-preserved : goal.loop-i-preserved
loop-i-preserved c =
    let e = c in
    let l = e.loop-i in (
      little_more l.invariant.0 (low (goal.at.loop-i-preserved c).After-tick_one).0 c.walk_to-walk.ensures,
      e.tick_one.auto.t ∙ l.invariant.1,
      λ m s L.
          let n = e.processes-n.ensures m s tt in
          ticked_more L l.i (omega arith) (l.invariant.2 m s L) e.tick_one.ensures c.walk_to-walk.ensures,
    )

pub returns : goal.returns
returns c =
    let l = c.loop-i in
    let all : (m : Machine) → Shows _ m → l.i ≡ m.P = λ m s. (let n = c.processes-n.ensures m s tt in omega arith) in
    record {
      words = λ m s L. subst (Shows l.t) (ticked_all m.P m) (rw (all m s) at (l.invariant.2 m s L).words);
      walk = λ m s L. (rw (all m s) at (l.invariant.2 m s L).walk) ∙ ticks_walk m;
    }

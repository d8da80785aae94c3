-- `waits::interrupt` meets its contract: refused, nobody waits and it may be kept, or the waiter wakes. Assumes nothing.
use mathlib.Core.Path.{◌≡◌, refl, ◌∙◌}
use native.Mathlib.Omega.{arith}
use Rattle.machine.specs.Machine.{Machine, waiter}
use Rattle.machine.specs.Legal.{Legal}
use Rattle.machine.specs.Words.{Shows}
use Rattle.table.specs.Fits.{IsDevice, MayWake}
use Rattle.answers.proofs.Promises.{can}
use Rattle.processes.proofs.Accepted.{may_interrupt}
use Rattle.processes.proofs.Entering.{interrupt_refused_walks, interrupt_none_walks, interrupt_walks}
use Rattle.processes.proofs.Outcomes.{interrupt_refused, interrupt_none, interrupt_wakes}
use Rattle.processes.proofs.waits.interrupt.Goals as goal
use Rattle.processes.proofs.waits.interrupt.Goals.{After-waiter-p, Else-a-gt-LAST, Else-p-eq0}

pub returns-then-a-gt-LAST : goal.returns-then-a-gt-LAST
returns-then-a-gt-LAST c =
    let high = c.if-a-gt-LAST.true in
    record {
      serves = λ m w L. rw (interrupt_refused m _ high) (record { answer = refl; words = w });
      walks = λ m w L. interrupt_refused_walks m _ high refl;
    }

-- ---- the places: a is a device, and who waits for it is read
is_device : (e : Else-a-gt-LAST) (m : Machine) → IsDevice e.args.a m
is_device e m = omega (arith, e.if-a-gt-LAST.false)

pub waiter-p-requires : goal.waiter-p-requires
waiter-p-requires c = can c.requires (λ m w L. is_device (goal.at.waiter-p-requires c).Else-a-gt-LAST m)

waiter_read : (e : After-waiter-p) → let a = e.args in (m : Machine) → Shows a.t.now m → e.waiter-p.result ≡ waiter m a.a
waiter_read e m w = e.waiter-p.ensures m w (is_device (goal.at.After-waiter-p e).Else-a-gt-LAST m)

-- ---- nobody waits
pub unawaited-requires : goal.unawaited-requires
unawaited-requires c =
    let e = c in
    can e.requires (λ m w L. is_device (goal.at.unawaited-requires c).Else-a-gt-LAST m)

pub plainly-requires : goal.plainly-requires
plainly-requires c =
    let keeps = c in
    let e = keeps in
    let p = e.requires in
    record { m = _; shows = keeps.unawaited.ensures p.m p.shows (is_device (goal.at.plainly-requires c).Else-a-gt-LAST p.m); may = tt }

pub returns-then-p-eq0 : goal.returns-then-p-eq0
returns-then-p-eq0 c =
    let keeps = c in
    let e = keeps in
    let below = e.if-a-gt-LAST.false in
    record {
      serves = λ m w L. (let s = keeps.unawaited.ensures m w (is_device (goal.at.returns-then-p-eq0 c).Else-a-gt-LAST m) in
          rw (interrupt_none m _ below (waiter_read (goal.at.returns-then-p-eq0 c).After-waiter-p m w) e.if-p-eq0.true)
          (record { answer = c.still.ensures.answer ∙ c.plainly.ensures _ s tt; words = s }));
      walks = λ m w L. interrupt_none_walks m _ below (waiter_read (goal.at.returns-then-p-eq0 c).After-waiter-p m w) e.if-p-eq0.true
          c.still.ensures.walk;
    }

-- ---- the waiter wakes
may : (e : Else-p-eq0) (m : Machine) → Shows e.args.t.now m → Legal m → MayWake e.waiter-p.result m
may e m w L = may_interrupt L e.if-a-gt-LAST.false (waiter_read (goal.at.Else-p-eq0 e).After-waiter-p m w) e.if-p-eq0.false

pub wake-position-requires : goal.wake-position-requires
wake-position-requires c = can c.requires (may (goal.at.wake-position-requires c).Else-p-eq0)

pub done-requires : goal.done-requires
done-requires c =
    let wakes = c in
    let e = wakes in
    let p = e.requires in
    record { m = _; shows = wakes.wake-position.ensures.words p.m p.shows (may (goal.at.done-requires c).Else-p-eq0 p.m p.shows p.may); may = tt }

pub returns : goal.returns
returns c =
    let wakes = c.wake-position.ensures in
    let e = c in
    let below = e.if-a-gt-LAST.false in
    record {
      serves = λ m w L. (let s = wakes.words m w (may (goal.at.returns c).Else-p-eq0 m w L) in
          rw (interrupt_wakes m _ below (waiter_read (goal.at.returns c).After-waiter-p m w) e.if-p-eq0.false)
          (record { answer = c.entered.ensures.answer ∙ c.done.ensures _ s tt; words = s }));
      walks = λ m w L.
          interrupt_walks m _ below (waiter_read (goal.at.returns c).After-waiter-p m w) L e.if-p-eq0.false
          (wakes.gives m w (may (goal.at.returns c).Else-p-eq0 m w L)) c.entered.ensures.walk;
    }

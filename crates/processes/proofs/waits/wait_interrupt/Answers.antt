-- `waits::wait_interrupt` meets its contract: refused, the kept interrupt is taken, or current waits for the device. Assumes nothing.
use mathlib.Core.Path.{◌≡◌, sym, ◌∙◌}
use Rattle.machine.specs.Machine.{Machine}
use Rattle.machine.specs.Refusal.{refusal}
use Rattle.machine.specs.Request.{WaitInterrupt}
use Rattle.machine.specs.Legal.{Legal}
use Rattle.machine.specs.Words.{Shows}
use Rattle.answers.proofs.Exits.{refused_serves, exit_is}
use Rattle.answers.proofs.Promises.{can}
use Rattle.answers.proofs.Served.{refused_comes}
use Rattle.processes.specs.Waits.{MayWaitDevice}
use Rattle.processes.proofs.Accepted.{may_wait_interrupt}
use Rattle.processes.proofs.Outcomes.{wait_interrupt_takes, wait_interrupt_waits}
use Rattle.processes.proofs.waits.wait_interrupt.Goals as goal
use Rattle.processes.proofs.waits.wait_interrupt.Goals.{After-current-p, After-device_word, In_ok-wait_interrupt_refusal}

pub returns-in_err-wait_interrupt_refusal : goal.returns-in_err-wait_interrupt_refusal
returns-in_err-wait_interrupt_refusal c = refused_serves _ (λ m w L. c.in_err-wait_interrupt_refusal.ensures _ m w L) (exit_is c.from_residual.ensures.1)

-- ---- the places: no line applies, current is read, and the device's word; each from the next
-- ---- what is known there, of a legal machine that the words show
module _ (e : In_ok-wait_interrupt_refusal) {m : Machine} (w : Shows e.args.t.now m) (L : Legal m) where
  none : refusal m (WaitInterrupt e.args.a e.args.b) ≡ 0
  none = sym (e.in_ok-wait_interrupt_refusal.ensures e.args.b m w L)

module _ (e : After-current-p) {m : Machine} (w : Shows e.args.t.now m) (L : Legal m) where
  may : MayWaitDevice e.current-p.result e.args.a m
  may = may_wait_interrupt L (e.current-p.ensures m w tt) e.args.b (none (goal.at.After-current-p e).In_ok-wait_interrupt_refusal w L)

module _ (e : After-device_word) {m : Machine} (w : Shows e.args.t.now m) (L : Legal m) where
  device_read : e.device_word.result ≡ m.device e.args.a
  device_read = e.device_word.ensures m w (may (goal.at.After-device_word e).After-current-p w L).1

pub current-p-requires : goal.current-p-requires
current-p-requires c = can c.requires (λ m w L. tt)

pub device_word-requires : goal.device_word-requires
device_word-requires c = can c.requires (λ m w L. (may (goal.at.device_word-requires c).After-current-p w L).1)

-- ---- an interrupt is kept
pub take_interrupt-requires : goal.take_interrupt-requires
take_interrupt-requires c =
    let e = c in
    can e.requires (λ m w L. may (goal.at.take_interrupt-requires c).After-current-p w L)

pub returns-then-device_word : goal.returns-then-device_word
returns-then-device_word c m w L =
    let e = c in
    let by = e in
    let kept = sym (device_read (goal.at.returns-then-device_word c).After-device_word w L) ∙ e.if-device_word.true in
    rw (wait_interrupt_takes m _ _ (none (goal.at.returns-then-device_word c).In_ok-wait_interrupt_refusal w L) (by.current-p.ensures m w tt) kept)
    (c.take_interrupt.ensures m w (may (goal.at.returns-then-device_word c).After-current-p w L))

-- ---- none is
pub begin_device_wait-requires : goal.begin_device_wait-requires
begin_device_wait-requires c =
    let e = c in
    can e.requires (λ m w L. may (goal.at.begin_device_wait-requires c).After-current-p w L)

pub plainly-requires : goal.plainly-requires
plainly-requires c =
    let waits = c in
    let e = waits in
    let p = e.requires in
    record { m = _; shows = waits.begin_device_wait.ensures p.m p.shows (may (goal.at.plainly-requires c).After-current-p p.shows p.may); may = tt }

pub returns : goal.returns
returns c m w L =
    let waits = c in
    let e = waits in
    let by = e in
    let s = waits.begin_device_wait.ensures m w (may (goal.at.returns c).After-current-p w L) in
    rw (wait_interrupt_waits m _ _ (none (goal.at.returns c).In_ok-wait_interrupt_refusal w L) (by.current-p.ensures m w tt)
    (λ k. e.if-device_word.false (device_read (goal.at.returns c).After-device_word w L ∙ k)))
    (record { answer = c.plainly.ensures _ s tt; words = s })

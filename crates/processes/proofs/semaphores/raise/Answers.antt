-- `semaphores::raise` meets its contract: refused, the counter rises, or the longest waiter wakes. Assumes nothing.
use mathlib.Core.Bool.{true}
use mathlib.Core.Path.{◌≡◌, sym, ap, ◌∙◌}
use borrow.Author.Tests.{not-true, not-false}
use Rattle.machine.specs.Queue.{head}
use Rattle.machine.specs.Machine.{Machine, below_zero, up}
use Rattle.machine.specs.Refusal.{refusal}
use Rattle.machine.specs.Request.{Raise}
use Rattle.machine.specs.Legal.{Legal}
use Rattle.machine.specs.Words.{Shows}
use Rattle.table.specs.Fits.{IsSemaphore}
use Rattle.table.proofs.Plain.{counter_shown}
use Rattle.answers.proofs.Promises.{can}
use Rattle.answers.proofs.Exits.{refused_walks, exit_is}
use Rattle.processes.specs.Semaphores.{MayRelieve}
use Rattle.processes.proofs.Lowering.{raise_is, raise_below, raise_steps, raise_stays, may_relieve, relieve_steps, relieve_walks}
use Rattle.processes.proofs.semaphores.raise.Goals as goal
use Rattle.processes.proofs.semaphores.raise.Goals.{After-below_zero, After-first_waiter, Else-not-below_zero, In_ok-raise_refusal}

pub returns-in_err-raise_refusal : goal.returns-in_err-raise_refusal
returns-in_err-raise_refusal c = refused_walks (λ m w L. c.in_err-raise_refusal.ensures m w L) (exit_is c.from_residual.ensures.1)

-- ---- the places: no line applies, the counter is read and tested, and its first waiter is read; each from the next
-- ---- what is known there, of a legal machine that the words show
module _ (e : In_ok-raise_refusal) {m : Machine} (w : Shows e.args.t.now m) (L : Legal m) where
  none : refusal m (Raise e.args.a) ≡ 0
  none = sym (e.in_ok-raise_refusal.ensures m w L)

  is : IsSemaphore e.args.a m
  is = raise_is L e.args.a none

pub counter_word-x-requires : goal.counter_word-x-requires
counter_word-x-requires c = can c.requires (λ m w L. is (goal.at.counter_word-x-requires c).In_ok-raise_refusal w L)

module _ (e : After-below_zero) {m : Machine} (w : Shows e.args.t.now m) (L : Legal m) where
  counter_read : e.counter_word-x.result ≡ m.counter e.args.a
  counter_read = e.counter_word-x.ensures m w (is (goal.at.After-below_zero e).In_ok-raise_refusal w L)

  sign : e.below_zero.result ≡ below_zero (m.counter e.args.a)
  sign = e.below_zero.ensures ∙ ap below_zero counter_read

-- ---- the counter rises
pub raise-requires : goal.raise-requires
raise-requires c =
    let e = c in
    let p = e.requires in
    λ k. raise_below p.may _ (none (goal.at.raise-requires c).In_ok-raise_refusal p.shows p.may)
    (sym (counter_read (goal.at.raise-requires c).After-below_zero p.shows p.may) ∙ k)

pub set_counter-requires : goal.set_counter-requires
set_counter-requires c =
    let e = c in
    can e.requires (λ m w L. is (goal.at.set_counter-requires c).In_ok-raise_refusal w L)

pub plainly-requires : goal.plainly-requires
plainly-requires c =
    let rises = c in
    let e = rises in
    let p = e.requires in
    record { m = _; shows = rises.set_counter.ensures p.m p.shows (is (goal.at.plainly-requires c).In_ok-raise_refusal p.shows p.may); may = tt }

pub returns-then-not-below_zero : goal.returns-then-not-below_zero
returns-then-not-below_zero c =
    let rises = c in
    let e = rises in
    let a = e.args.a in
    let above = not-true _ e.if-not-below_zero.true-raw in
    record {
      serves = λ m w L. (let z = none (goal.at.returns-then-not-below_zero c).In_ok-raise_refusal w L in
          let s = counter_shown m a _ (rises.set_counter.ensures m w (raise_is L a z)) in
          let s1 = rw (rises.raise.ensures ∙ ap up (counter_read (goal.at.returns-then-not-below_zero c).After-below_zero w L)) at s in
          rw (raise_steps L a z (sym (sign (goal.at.returns-then-not-below_zero c).After-below_zero w L) ∙ above))
          (record { answer = c.still.ensures.answer ∙ c.plainly.ensures _ s1 tt; words = s1 }));
      walks = λ m w L. raise_stays L a (none (goal.at.returns-then-not-below_zero c).In_ok-raise_refusal w L)
          (sym (sign (goal.at.returns-then-not-below_zero c).After-below_zero w L) ∙ above) c.still.ensures.walk;
    }

-- ---- the longest waiter wakes
pub first_waiter-requires : goal.first_waiter-requires
first_waiter-requires c =
    let e = c in
    can e.requires (λ m w L. is (goal.at.first_waiter-requires c).In_ok-raise_refusal w L)

module _ (e : Else-not-below_zero) {m : Machine} (w : Shows e.args.t.now m) (L : Legal m) where
  below : below_zero (m.counter e.args.a) ≡ true
  below = sym (sign (goal.at.Else-not-below_zero e).After-below_zero w L) ∙ not-false _ e.if-not-below_zero.false-raw

module _ (e : After-first_waiter) {m : Machine} (w : Shows e.args.t.now m) (L : Legal m) where
  longest : e.first_waiter.result ≡ head (m.waiters e.args.a)
  longest = e.first_waiter.ensures m w (is (goal.at.After-first_waiter e).In_ok-raise_refusal w L)

  may : MayRelieve e.args.a e.first_waiter.result m
  may = may_relieve L _ (none (goal.at.After-first_waiter e).In_ok-raise_refusal w L) (below (goal.at.After-first_waiter e).Else-not-below_zero w L) longest

pub relieve-position-requires : goal.relieve-position-requires
relieve-position-requires c = can c.requires (λ m w L. may (goal.at.relieve-position-requires c).After-first_waiter w L)

pub plainly-requires-2 : goal.plainly-requires-2
plainly-requires-2 c =
    let e = c in
    let p = e.requires in
    record { m = _; shows = c.relieve-position.ensures.words p.m p.shows (may (goal.at.plainly-requires-2 c).After-first_waiter p.shows p.may); may = tt }

pub returns : goal.returns
returns c =
    let wakes = c.relieve-position.ensures in
    let e = c in
    let s = e in
    let a = s.args.a in
    record {
      serves = λ m w L. (let shown = wakes.words m w (may (goal.at.returns c).After-first_waiter w L) in
          rw (relieve_steps L a (none (goal.at.returns c).In_ok-raise_refusal w L) (below (goal.at.returns c).Else-not-below_zero w L)
          (longest (goal.at.returns c).After-first_waiter w L))
          (record { answer = c.entered.ensures.answer ∙ c.plainly-2.ensures _ shown tt; words = shown }));
      walks = λ m w L.
          relieve_walks L a (none (goal.at.returns c).In_ok-raise_refusal w L) (below (goal.at.returns c).Else-not-below_zero w L)
          (longest (goal.at.returns c).After-first_waiter w L) (wakes.gives m w (may (goal.at.returns c).After-first_waiter w L)) c.entered.ensures.walk;
    }

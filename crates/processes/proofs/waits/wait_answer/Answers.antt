-- `waits::wait_answer` meets its contract: refused, the answer is collected, or current waits for it. Assumes nothing.
use native.Mathlib.Omega.{arith}
use mathlib.Core.Path.{◌≡◌, sym, ◌∙◌}
use Rattle.machine.specs.Machine.{Machine, standing}
use Rattle.machine.specs.Refusal.{refusal}
use Rattle.machine.specs.Request.{WaitAnswer}
use Rattle.machine.specs.Legal.{Legal}
use Rattle.machine.specs.Words.{Shows}
use Rattle.answers.proofs.Exits.{refused_serves, exit_is}
use Rattle.answers.proofs.Promises.{can}
use Rattle.answers.proofs.Served.{refused_comes}
use Rattle.processes.specs.Waits.{MayWait}
use Rattle.processes.proofs.Accepted.{asked_is, may_wait_answer, may_take_answer}
use Rattle.processes.proofs.Outcomes.{wait_answer_collects, wait_answer_waits}
use Rattle.processes.proofs.waits.wait_answer.Goals as goal
use Rattle.processes.proofs.waits.wait_answer.Goals.{After-buffer_word, After-current-p, In_ok-wait_answer_refusal}

pub returns-in_err-wait_answer_refusal : goal.returns-in_err-wait_answer_refusal
returns-in_err-wait_answer_refusal c = refused_serves _ (λ m w L. c.in_err-wait_answer_refusal.ensures m w L) (exit_is c.from_residual.ensures.1)

-- ---- the places: no line applies, current is read, and the buffer's standing; each from the next
-- ---- what is known there, of a legal machine that the words show
module _ (e : In_ok-wait_answer_refusal) {m : Machine} (w : Shows e.args.t.now m) (L : Legal m) where
  none : refusal m (WaitAnswer e.args.a) ≡ 0
  none = sym (e.in_ok-wait_answer_refusal.ensures m w L)

module _ (e : After-current-p) {m : Machine} (w : Shows e.args.t.now m) (L : Legal m) where
  may_wait : MayWait e.current-p.result 7 m
  may_wait = (may_wait_answer L _ (none (goal.at.After-current-p e).In_ok-wait_answer_refusal w L) (e.current-p.ensures m w tt), omega arith, omega arith)

module _ (e : After-buffer_word) {m : Machine} (w : Shows e.args.t.now m) (L : Legal m) where
  standing_read : e.buffer_word.result ≡ standing m e.args.a
  standing_read = e.buffer_word.ensures m w (asked_is L _ (none (goal.at.After-buffer_word e).In_ok-wait_answer_refusal w L), omega arith, omega arith)

pub current-p-requires : goal.current-p-requires
current-p-requires c = can c.requires (λ m w L. tt)

pub buffer_word-requires : goal.buffer_word-requires
buffer_word-requires c =
    let e = c in
    can e.requires (λ m w L. (asked_is L _ (none (goal.at.buffer_word-requires c).In_ok-wait_answer_refusal w L), omega arith, omega arith))

-- ---- the answer is there
pub collect-requires : goal.collect-requires
collect-requires c =
    let e = c in
    let s = e in
    can s.requires
    (λ m w L. may_take_answer L _ (none (goal.at.collect-requires c).In_ok-wait_answer_refusal w L) (e.current-p.ensures m w tt)
    (sym (standing_read (goal.at.collect-requires c).After-buffer_word w L) ∙ c.if-buffer_word-eq-ANSWERED.true))

pub returns-then-buffer_word-eq-ANSWERED : goal.returns-then-buffer_word-eq-ANSWERED
returns-then-buffer_word-eq-ANSWERED c m w L =
    let e = c in
    let z = none (goal.at.returns-then-buffer_word-eq-ANSWERED c).In_ok-wait_answer_refusal w L in
    let p = e.current-p.ensures m w tt in
    let answered = sym (standing_read (goal.at.returns-then-buffer_word-eq-ANSWERED c).After-buffer_word w L) ∙ e.if-buffer_word-eq-ANSWERED.true in
    rw (wait_answer_collects m _ z p answered) (c.collect.ensures m w (may_take_answer L _ z p answered))

-- ---- it isn't
pub begin_wait-requires : goal.begin_wait-requires
begin_wait-requires c =
    let e = c in
    can e.requires (λ m w L. may_wait (goal.at.begin_wait-requires c).After-current-p w L)

pub plainly-requires : goal.plainly-requires
plainly-requires c =
    let waits = c in
    let e = waits in
    let p = e.requires in
    record { m = _; shows = waits.begin_wait.ensures p.m p.shows (may_wait (goal.at.plainly-requires c).After-current-p p.shows p.may); may = tt }

pub returns : goal.returns
returns c m w L =
    let waits = c in
    let e = waits in
    let current = e in
    let s = waits.begin_wait.ensures m w (may_wait (goal.at.returns c).After-current-p w L) in
    rw (wait_answer_waits m _ (none (goal.at.returns c).In_ok-wait_answer_refusal w L) (current.current-p.ensures m w tt)
    (λ k. e.if-buffer_word-eq-ANSWERED.false (standing_read (goal.at.returns c).After-buffer_word w L ∙ k)))
    (record { answer = c.plainly.ensures _ s tt; words = s })

-- `waits::wait_event` meets its contract: refused, current waits, or the first of its event queue is held or collected. Assumes nothing.
use native.Mathlib.Omega.{arith}
use mathlib.Core.Path.{◌≡◌, refl, sym, ◌∙◌}
use Rattle.machine.specs.Queue.{Range, head}
use Rattle.machine.specs.Machine.{Machine, current, standing}
use Rattle.machine.specs.Legal.{Legal}
use Rattle.machine.specs.Words.{Shows}
use Rattle.table.specs.Fits.{MayTakeFirst}
use Rattle.table.proofs.Taking.{taken_is}
use Rattle.answers.proofs.Promises.{can}
use Rattle.processes.specs.Waits.{MayWait}
use Rattle.processes.proofs.Accepted.{current_runs, current_pauses, may_take_first}
use Rattle.processes.proofs.Outcomes.{wait_event_refused, wait_event_waits, wait_event_holds, wait_event_collects}
use Rattle.processes.proofs.waits.wait_event.Goals as goal
use Rattle.processes.proofs.waits.wait_event.Goals.{After-buffer_word, After-first_event-b, Else-b-eq0, Else-p-eq0}

pub current-p-requires : goal.current-p-requires
current-p-requires c = can c.requires (λ m w L. tt)

pub returns-then-p-eq0 : goal.returns-then-p-eq0
returns-then-p-eq0 c m w L =
    rw (wait_event_refused m _ (c.current-p.ensures m w tt) c.if-p-eq0.true) (record { answer = refl; words = w })

-- ---- the places: current is one, the first of its queue is read, and that one's standing; each from the next
-- ---- what is known there, of a legal machine that the words show
module _ (e : Else-p-eq0) {m : Machine} (w : Shows e.args.t.now m) where
  by_current : e.current-p.result ≡ current m
  by_current = e.current-p.ensures m w tt

  is_process : Legal m → Range m.P e.current-p.result
  is_process L = (current_runs L by_current e.if-p-eq0.false).0

  may_wait : Legal m → MayWait e.current-p.result 6 m
  may_wait L = (current_pauses L by_current e.if-p-eq0.false, omega arith, omega arith)

module _ (e : After-first_event-b) {m : Machine} (w : Shows e.args.t.now m) (L : Legal m) where
  first_read : e.first_event-b.result ≡ head (m.events e.current-p.result)
  first_read = e.first_event-b.ensures m w (is_process (goal.at.After-first_event-b e).Else-p-eq0 w L)

module _ (e : Else-b-eq0) {m : Machine} (w : Shows e.args.t.now m) (L : Legal m) where
  may_take : MayTakeFirst e.current-p.result e.first_event-b.result m
  may_take = may_take_first L (is_process (goal.at.Else-b-eq0 e).Else-p-eq0 w L) (first_read (goal.at.Else-b-eq0 e).After-first_event-b w L) e.if-b-eq0.false

module _ (e : After-buffer_word) {m : Machine} (w : Shows e.args.t.now m) (L : Legal m) where
  standing_read : e.buffer_word.result ≡ standing m e.first_event-b.result
  standing_read = e.buffer_word.ensures m w (taken_is (may_take (goal.at.After-buffer_word e).Else-b-eq0 w L).0, omega arith, omega arith)

pub first_event-b-requires : goal.first_event-b-requires
first_event-b-requires c = can c.requires (λ m w L. is_process (goal.at.first_event-b-requires c).Else-p-eq0 w L)

-- ---- its queue is empty
pub begin_wait-requires : goal.begin_wait-requires
begin_wait-requires c =
    let e = c in
    can e.requires (λ m w L. may_wait (goal.at.begin_wait-requires c).Else-p-eq0 w L)

pub plainly-requires : goal.plainly-requires
plainly-requires c =
    let waits = c in
    let e = waits in
    let p = e.requires in
    record { m = _; shows = waits.begin_wait.ensures p.m p.shows (may_wait (goal.at.plainly-requires c).Else-p-eq0 p.shows p.may); may = tt }

pub returns-then-b-eq0 : goal.returns-then-b-eq0
returns-then-b-eq0 c m w L =
    let waits = c in
    let e = waits in
    let by = e in
    let s = waits.begin_wait.ensures m w (may_wait (goal.at.returns-then-b-eq0 c).Else-p-eq0 w L) in
    rw (wait_event_waits m _ (by_current (goal.at.returns-then-b-eq0 c).Else-p-eq0 w) by.if-p-eq0.false
    (first_read (goal.at.returns-then-b-eq0 c).After-first_event-b w L) e.if-b-eq0.true)
    (record { answer = c.plainly.ensures _ s tt; words = s })

pub buffer_word-requires : goal.buffer_word-requires
buffer_word-requires c =
    let e = c in
    can e.requires (λ m w L. (taken_is (may_take (goal.at.buffer_word-requires c).Else-b-eq0 w L).0, omega arith, omega arith))

-- ---- a message is the first
pub hold-requires : goal.hold-requires
hold-requires c =
    let e = c in
    can e.requires (λ m w L. may_take (goal.at.hold-requires c).Else-b-eq0 w L)

pub returns-then-buffer_word-eq-QUEUED : goal.returns-then-buffer_word-eq-QUEUED
returns-then-buffer_word-eq-QUEUED c m w L =
    let read = c in
    let e = read in
    let by = e in
    let message = sym (standing_read (goal.at.returns-then-buffer_word-eq-QUEUED c).After-buffer_word w L) ∙
    c.if-buffer_word-eq-QUEUED.true in
    rw (wait_event_holds m _ (by_current (goal.at.returns-then-buffer_word-eq-QUEUED c).Else-p-eq0 w) by.if-p-eq0.false
    (first_read (goal.at.returns-then-buffer_word-eq-QUEUED c).After-first_event-b w L) e.if-b-eq0.false message)
    (c.hold.ensures m w (may_take (goal.at.returns-then-buffer_word-eq-QUEUED c).Else-b-eq0 w L))

-- ---- an answer is
pub collect-requires : goal.collect-requires
collect-requires c =
    let e = c in
    can e.requires (λ m w L. (may_take (goal.at.collect-requires c).Else-b-eq0 w L).0)

pub returns : goal.returns
returns c m w L =
    let read = c in
    let e = read in
    let by = e in
    let other = c.if-buffer_word-eq-QUEUED.false in
    rw (wait_event_collects m _ (by_current (goal.at.returns c).Else-p-eq0 w) by.if-p-eq0.false
    (first_read (goal.at.returns c).After-first_event-b w L) e.if-b-eq0.false (λ k. other (standing_read (goal.at.returns c).After-buffer_word w L ∙ k)))
    (c.collect.ensures m w (may_take (goal.at.returns c).Else-b-eq0 w L).0)

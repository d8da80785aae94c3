-- `clean_received` meets its contract: queued or held the buffer is answered, orphaned it becomes free, and else it stays. Assumes nothing.
use mathlib.Core.Path.{◌≡◌, sym, ◌∙◌}
use native.Mathlib.Omega.{arith}
use lib.Dec.{eqb}
use borrow.Author.Tests.{eqb-false}
use Rattle.machine.specs.Machine.{Machine, standing}
use Rattle.machine.specs.Words.{Shows}
use Rattle.lists.proofs.Tests.{or_false}
use Rattle.table.specs.Fits.{InNoQueue}
use Rattle.table.specs.Promise.{Gives, Does}
use Rattle.table.proofs.LegalFits.{legal_in_no_queue}
use Rattle.answers.proofs.Promises.{can}
use Rattle.clean.specs.Clean.{MayCleanReceived, taken_back}
use Rattle.clean.proofs.Cleaning.{cleans, cleans_answering, may_take_back, may_answer_back, answered_back, received_orphaned, received_else}
use Rattle.clean.proofs.clean_received.Goals as goal
use Rattle.clean.proofs.clean_received.Goals.{After-buffer_word-standing, After-take_back, Then-standing-eq-ORPHANED}

-- ---- the standing read, and the buffer taken back
abbrev May : After-buffer_word-standing → Machine → Type 0
May e = MayCleanReceived e.args.p e.args.b

standing_read : (e : After-buffer_word-standing) → let a = e.args in Gives a.t.now (May e) (λ m. standing m a.b) e.buffer_word-standing.result
standing_read e m s may = e.buffer_word-standing.ensures m s (may.1, omega arith, omega arith)

takes_back : (e : After-take_back) → let r = e in let a = r.args in
    Does a.t.now e.take_back.new.t (May (goal.at.After-take_back e).After-buffer_word-standing) (taken_back a.p a.b r.buffer_word-standing.result)
takes_back e m s may = e.take_back.ensures m s (may_take_back may (standing_read (goal.at.After-take_back e).After-buffer_word-standing m s may))

-- ---- queued or held
pub take_back-requires : goal.take_back-requires
take_back-requires c =
    let e = c in
    can e.requires (λ m s may. may_take_back may (standing_read (goal.at.take_back-requires c).After-buffer_word-standing m s may))

pub answer_with-requires : goal.answer_with-requires
answer_with-requires c =
    let e = c in
    let r = e in
    let p = r.requires in
    record {
      m = _;
      shows = takes_back (goal.at.answer_with-requires c).After-take_back p.m p.shows p.may;
      may = may_answer_back p.may (standing_read (goal.at.answer_with-requires c).After-buffer_word-standing p.m p.shows p.may) e.if-standing.true;
    }

pub returns-then-standing : goal.returns-then-standing
returns-then-standing c =
    let e = c in
    let answers = c.answer_with.ensures in
    cleans_answering (λ m s may.
    let read = standing_read (goal.at.returns-then-standing c).After-buffer_word-standing m s may in
    let taken = takes_back (goal.at.returns-then-standing c).After-take_back m s may in
    let may-answer = may_answer_back may read e.if-standing.true in
    (_, answered_back may read e.if-standing.true (answers.arrives _ taken may-answer), answers.words _ taken may-answer))

-- ---- orphaned
orphaned : (e : Then-standing-eq-ORPHANED) → let r = e in let a = r.args in
    (m : Machine) → Shows a.t.now m → May (goal.at.Then-standing-eq-ORPHANED e).After-buffer_word-standing m → (standing m a.b ≡ 4) × InNoQueue a.b m
orphaned e m s may =
    let k = sym (standing_read (goal.at.Then-standing-eq-ORPHANED e).After-buffer_word-standing m s may) ∙ e.if-standing-eq-ORPHANED.true in
    (k, legal_in_no_queue may.0 _ may.1 (omega arith) (omega arith))

pub returns-then-standing-eq-ORPHANED : goal.returns-then-standing-eq-ORPHANED
returns-then-standing-eq-ORPHANED c = cleans (λ m s may.
    let k = orphaned (goal.at.returns-then-standing-eq-ORPHANED c).Then-standing-eq-ORPHANED m s may in
    (_, received_orphaned _ _ m may.2 may.3 k.0, c.free.ensures m s k.1))

-- ---- free or answered
pub returns : goal.returns
returns c = cleans (λ m shows may.
    let read = standing_read (goal.at.returns c).After-buffer_word-standing m shows may in
    let s = c.buffer_word-standing.result in
    let neither = or_false {a = eqb s 1} c.if-standing.false in (
      _,
      received_else _ _ m may.2 may.3
          (λ e. eqb-false s 1 neither.0 (read ∙ e)) (λ e. eqb-false s 2 neither.1 (read ∙ e)) (λ e. c.if-standing-eq-ORPHANED.false (read ∙ e)),
      shows,
    ))

-- `clean_own` meets its contract: queued or answered the buffer becomes free, held it is orphaned, and else it stays. Assumes nothing.
use mathlib.Core.Path.{sym, ◌∙◌}
use native.Mathlib.Omega.{arith}
use Rattle.table.proofs.LegalFits.{legal_in_no_queue}
use Rattle.answers.proofs.Promises.{can}
use Rattle.clean.proofs.Cleaning.{cleans, takes_queued, takes_answered, own_queued, own_answered, own_held, own_else}
use Rattle.clean.proofs.clean_own.Goals as goal

pub returns-then-standing-eq-QUEUED : goal.returns-then-standing-eq-QUEUED
returns-then-standing-eq-QUEUED c = cleans (λ m s may.
    let receiver = c.buffer_word-receiver.ensures m s (may.1, omega arith, omega arith) in
    let standing = c.buffer_word-standing.ensures m s (may.1, omega arith, omega arith) in
    let queued = sym standing ∙ c.if-standing-eq-QUEUED.true in
    (_, own_queued _ _ m may.2 receiver queued, c.withdraw.ensures m s (takes_queued may.0 may.1 queued receiver)))

-- ---- free or orphaned
pub returns : goal.returns
returns c = cleans (λ m s may.
    let standing = c.buffer_word-standing.ensures m s (may.1, omega arith, omega arith) in (
      _,
      own_else _ _ m may.2 (λ e. c.if-standing-eq-QUEUED.false (standing ∙ e)) (λ e. c.if-standing-eq-HELD.false (standing ∙ e))
          (λ e. c.if-standing-eq-ANSWERED.false (standing ∙ e))
          (λ e r. ((may.0.buffer _ may.1).taken (omega arith)).1 (r ∙ sym may.2)),
      s,
    ))

pub returns-then-standing-eq-ANSWERED : goal.returns-then-standing-eq-ANSWERED
returns-then-standing-eq-ANSWERED c = cleans (λ m s may.
    let standing = c.buffer_word-standing.ensures m s (may.1, omega arith, omega arith) in
    let answered = sym standing ∙ c.if-standing-eq-ANSWERED.true in
    (_, own_answered _ _ m may.2 answered, c.withdraw-then-standing-eq-ANSWERED.ensures m s (takes_answered may.0 may.1 answered may.2)))

pub returns-then-standing-eq-HELD : goal.returns-then-standing-eq-HELD
returns-then-standing-eq-HELD c = cleans (λ m s may.
    let standing = c.buffer_word-standing.ensures m s (may.1, omega arith, omega arith) in
    let held = sym standing ∙ c.if-standing-eq-HELD.true in
    (_, own_held _ _ m may.2 held, c.set_standing.ensures m s (legal_in_no_queue may.0 _ may.1 (omega arith) (omega arith))))

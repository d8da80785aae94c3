-- `stuck` meets its contract: the four refusals in order, and the chain. Assumes nothing.
use mathlib.Core.Path.{◌≡◌, refl, sym, ◌∙◌}
use native.Mathlib.Omega.{arith}
use borrow.Author.Tests.{not-true, not-false}
use Rattle.machine.specs.Sound.{P_of, process_at, Sound}
use Rattle.lists.proofs.Tests.{differ, outside_false, outside_true}
use Rattle.stuck.proofs.Answers.{answer_outside, answer_awake, chain_left, reports_refused, reports_unsound, reports_short, reports_chain}
use Rattle.stuck.proofs.stuck.Goals as goal
use Rattle.stuck.proofs.stuck.Goals.{Else-not-sound, Else-state-ne-WAITS_ANSWER}
use Rattle.stuck.proofs.stuck.Goals.{then-p-eq0-via-then-p-eq0, then-p-eq0-via-else-p-eq0+then-p-all}

-- past the first test the table is sound, and past the third the process waits for an answer
is_sound : (c : Else-not-sound) → Sound c.args.table.now
is_sound c = c.sound.ensures.0 (not-false _ c.if-not-sound.false-raw)

waits : (c : Else-state-ne-WAITS_ANSWER) → process_at c.args.table.now c.args.p 4 ≡ 3
waits c = sym c.state.ensures ∙ c.if-state-ne-WAITS_ANSWER.false

pub returns-then-not-sound : goal.returns-then-not-sound
returns-then-not-sound c = reports_unsound (λ S. differ (sym (c.sound.ensures.1 S) ∙ not-true _ c.if-not-sound.true-raw)) c.refused.ensures

pub bounds-table-0 : goal.bounds-table-0
bounds-table-0 c = omega (arith, (is_sound (goal.at.bounds-table-0 c).Else-not-sound).long)

pub returns-then-p-eq0 : goal.returns-then-p-eq0
returns-then-p-eq0 c =
    reports_refused (is_sound (goal.at.returns-then-p-eq0 c).Else-not-sound) c.refused-then-p-eq0.ensures
    (answer_outside _ _ _ _ (outside_true (P_of c.args.table.now) c.args.p (λ r. elim c.then-p-eq0.branch [
      | then-p-eq0-via-then-p-eq0 w ↦ omega arith
      | then-p-eq0-via-else-p-eq0+then-p-all w ↦ omega arith
    ])))

pub state-requires : goal.state-requires
state-requires c = (is_sound (goal.at.state-requires c).Else-not-sound, (omega arith, omega arith))

pub returns-then-state-ne-WAITS_ANSWER : goal.returns-then-state-ne-WAITS_ANSWER
returns-then-state-ne-WAITS_ANSWER c =
    reports_refused (is_sound (goal.at.returns-then-state-ne-WAITS_ANSWER c).Else-not-sound) c.refused-then-state-ne-WAITS_ANSWER.ensures
    (answer_awake _ _ _ _ (outside_false (P_of c.args.table.now) c.args.p (omega arith, omega arith))
    (λ e. c.if-state-ne-WAITS_ANSWER.true (c.state.ensures ∙ e)))

pub follow-chain-requires : goal.follow-chain-requires
follow-chain-requires c = (is_sound (goal.at.follow-chain-requires c).Else-not-sound, ((omega arith, omega arith), (refl, refl)))

pub overflow_sub-count : goal.overflow_sub-count
overflow_sub-count c =
    chain_left _ (is_sound (goal.at.overflow_sub-count c).Else-not-sound) c.follow-chain.ensures.0
    (outside_false (P_of c.args.table.now) c.args.p (omega arith, omega arith))
    (waits (goal.at.overflow_sub-count c).Else-state-ne-WAITS_ANSWER)

pub overflow_cast-count : goal.overflow_cast-count
overflow_cast-count c = record { fits = omega (arith, (is_sound (goal.at.overflow_cast-count c).Else-not-sound).fixed.P32) }

pub returns-then-room-count : goal.returns-then-room-count
returns-then-room-count c =
    reports_short _ (is_sound (goal.at.returns-then-room-count c).Else-not-sound) c.follow-chain.ensures.0
    (outside_false (P_of c.args.table.now) c.args.p (omega arith, omega arith))
    (waits (goal.at.returns-then-room-count c).Else-state-ne-WAITS_ANSWER)
    c.if-room-count.true c.refused-then-room-count.ensures

pub copy-requires : goal.copy-requires
copy-requires c =
    let s = is_sound (goal.at.copy-requires c).Else-not-sound in
    (omega arith, (omega (arith, s.fixed.P32), c.if-room-count.false))

pub returns : goal.returns
returns c =
    reports_chain _ (is_sound (goal.at.returns c).Else-not-sound) c.follow-chain.ensures.0
    (outside_false (P_of c.args.table.now) c.args.p (omega arith, omega arith))
    (waits (goal.at.returns c).Else-state-ne-WAITS_ANSWER)
    c.if-room-count.false c.copy.ensures c.follow-chain.ensures.1

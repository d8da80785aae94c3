-- `process_step` and `buffer_step` meet their contracts: a step of the chain, and the rest by the other. Assumes nothing.
use mathlib.Core.Path.{◌≡◌, sym, subst, ◌∙◌}
use Prim.Native.Nat.{ℕ, ◌-◌}
use native.Mathlib.Omega.{arith}
use lib.ListN.{set}
use Rattle.machine.specs.Sound.{process_at, buffer_at}
use Rattle.stuck.specs.Waiting.{of_table}
use Rattle.stuck.specs.Chain.{follow, Lists}
use Rattle.stuck.proofs.Fits.{sound_fits, awaits_buffer}
use Rattle.stuck.proofs.Listing.{visit_few, visit_place, visit_some, visited, lists_met, lists_ends, lists_goes}
use Rattle.stuck.proofs.chain.+buffer_step_process_step.Goals as goal

pub process_step-returns-then-visited-p-eq1 : goal.process_step-returns-then-visited-p-eq1
process_step-returns-then-visited-p-eq1 t c = lists_met _ _ _ _ _ c.if-visited-p-eq1.true

-- at most 32 are left
pub process_step-overflow_add-result : goal.process_step-overflow_add-result
process_step-overflow_add-result t c = let p = c.requires in omega (arith, visit_few p.1.1 p.0.fixed.P32)

pub process_step-offset_bounds-listed-left : goal.process_step-offset_bounds-listed-left
process_step-offset_bounds-listed-left t c = let p = c.requires in omega (arith, visit_few p.1.1 p.0.fixed.P32)

pub process_step-bounds-listed-left : goal.process_step-bounds-listed-left
process_step-bounds-listed-left t c = let p = c.requires in omega (arith, visit_few p.1.1 p.0.fixed.P32)

-- where p is not visited, somebody is left
pub process_step-overflow_sub-result : goal.process_step-overflow_sub-result
process_step-overflow_sub-result t c =
    let p = c.requires in
    omega (arith, visit_some p.1.1 p.0.fixed.P32 p.1.0 c.if-visited-p-eq1.false)

pub process_step-overflow_sub-left : goal.process_step-overflow_sub-left
process_step-overflow_sub-left t c =
    let p = c.requires in
    omega (arith, visit_some p.1.1 p.0.fixed.P32 p.1.0 c.if-visited-p-eq1.false)

pub process_step-returns-then-state-ne-WAITS_ANSWER : goal.process_step-returns-then-state-ne-WAITS_ANSWER
process_step-returns-then-state-ne-WAITS_ANSWER t c =
    let p = c.requires in
    let some = visit_some p.1.1 p.0.fixed.P32 p.1.0 c.if-visited-p-eq1.false in
    lists_ends _ _ _ _ _ some (visit_place p.1.1 p.0.fixed.P32) c.if-visited-p-eq1.false
    (λ e. c.if-state-ne-WAITS_ANSWER.true (c.state.ensures ∙ e))

-- past the second test the process waits for an answer
pub process_step-buffer_step-requires : goal.process_step-buffer_step-requires
process_step-buffer_step-requires t c =
    let p = c.requires in
    let S = p.0 in
    let r = p.1.0 in
    let waits : process_at c.args.t.now c.args.p 4 ≡ 3 = sym c.state.ensures ∙ c.if-state-ne-WAITS_ANSWER.false in (
      omega (arith, visit_some p.1.1 S.fixed.P32 r c.if-visited-p-eq1.false),
      (
        S,
        rw c.awaited.ensures
            (awaits_buffer S _ r waits, ((sound_fits S).among _ r waits, visited p.1.1 S.fixed.P32 r c.if-visited-p-eq1.false)),
      ),
    )

pub process_step-returns : goal.process_step-returns
process_step-returns t c =
    let a = c.args in
    let p = c.requires in
    let some = visit_some p.1.1 p.0.fixed.P32 p.1.0 c.if-visited-p-eq1.false in
    let waits : process_at a.t.now a.p 4 ≡ 3 = sym c.state.ensures ∙ c.if-state-ne-WAITS_ANSWER.false in
    lists_goes _ _ _ _ _ some (visit_place p.1.1 p.0.fixed.P32) c.if-visited-p-eq1.false waits
    (subst (λ (b : ℕ). Lists (of_table a.t.now) (follow (of_table a.t.now) (set a.visited.now a.p 1) (a.left - 1) (buffer_at a.t.now b 3))
    (set a.listed.now a.left a.p) c.buffer_step.new.listed (a.left - 1) (buffer_at a.t.now b 3) c.buffer_step.result)
    c.awaited.ensures c.buffer_step.ensures)

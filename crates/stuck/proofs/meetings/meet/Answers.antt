-- `meetings::meet` meets its contract. The loop's invariant: those met on the way wait for p, and those met before are as they were.
-- Each pass leaves fewer that are not met. Assumes nothing.
use mathlib.Core.Path.{sym, ◌∙◌}
use Prim.Native.Nat.{◌<◌}
use native.Mathlib.Omega.{arith}
use Rattle.stuck.proofs.Fits.{sound_fits}
use Rattle.stuck.proofs.Marks.{meeting_none, meeting_place, meeting_less}
use Rattle.stuck.proofs.Marks.{meeting_goes, meeting_ends, meeting_over, meeting_awaits, meeting_first, meeting_ring}
use Rattle.stuck.proofs.meetings.meet.Goals as goal
use Rattle.stuck.proofs.meetings.meet.Goals.{At-loop-met}

-- p has a place among the marks
place : (c : At-loop-met) → c.loop-met.p < 33
place c = let p = c.before.before.requires in meeting_place (sound_fits p.0) p.1.0 c.loop-met.invariant

pub loop-met-init : goal.loop-met-init
loop-met-init c = let p = c.before.requires in meeting_none (sound_fits p.0) p.1.0 p.1.1

pub overflow_cast-p : goal.overflow_cast-p
overflow_cast-p c = omega (arith, place (goal.at.overflow_cast-p c).At-loop-met)

pub offset_bounds-met-p : goal.offset_bounds-met-p
offset_bounds-met-p c = omega (arith, place (goal.at.offset_bounds-met-p c).At-loop-met)

pub bounds-met-p : goal.bounds-met-p
bounds-met-p c = omega (arith, place (goal.at.bounds-met-p c).At-loop-met)

pub overflow_cast-met : goal.overflow_cast-met
overflow_cast-met c = omega (arith, place (goal.at.overflow_cast-met c).At-loop-met)

pub offset_bounds-met-p-in-loop-met : goal.offset_bounds-met-p-in-loop-met
offset_bounds-met-p-in-loop-met c = omega (arith, place (goal.at.offset_bounds-met-p-in-loop-met c).At-loop-met)

pub bounds-met-p-in-loop-met : goal.bounds-met-p-in-loop-met
bounds-met-p-in-loop-met c = omega (arith, place (goal.at.bounds-met-p-in-loop-met c).At-loop-met)

pub state-requires : goal.state-requires
state-requires c = let s = c.before.before in (s.before.before.requires.0, s.loop-met.invariant.is)

pub returns-then-state-ne-WAITS_ANSWER : goal.returns-then-state-ne-WAITS_ANSWER
returns-then-state-ne-WAITS_ANSWER c =
    let n = c.before.before in
    let s = n.before.before in
    let p = s.before.before.requires in
    meeting_ends (sound_fits p.0) p.1.0 s.loop-met.invariant n.loop-met-test.true (λ e. c.if-state-ne-WAITS_ANSWER.true (c.before.state.ensures ∙ e))

pub holder-p-requires : goal.holder-p-requires
holder-p-requires c =
    let s = c.before.before.before.before in
    (s.before.before.requires.0, (s.loop-met.invariant.is, sym c.before.state.ensures ∙ c.if-state-ne-WAITS_ANSWER.false))

pub loop-met-smaller : goal.loop-met-smaller
loop-met-smaller c =
    let n = c.before.before.before in
    let s = n.before.before in
    let p = s.before.before.requires in
    meeting_less (sound_fits p.0) p.1.0 s.loop-met.invariant n.loop-met-test.true

pub loop-met-preserved : goal.loop-met-preserved
loop-met-preserved c =
    let n = c.before.before.before in
    let s = n.before.before in
    let p = s.before.before.requires in
    meeting_goes (sound_fits p.0) p.1.0 s.loop-met.invariant n.loop-met-test.true (sym c.before.before.state.ensures ∙ c.before.if-state-ne-WAITS_ANSWER.false)
    c.holder-p.ensures.0 c.holder-p.ensures.1

pub overflow_cast-p-2 : goal.overflow_cast-p-2
overflow_cast-p-2 c = omega (arith, place (goal.at.overflow_cast-p-2 c).At-loop-met)

pub offset_bounds-met-p-2 : goal.offset_bounds-met-p-2
offset_bounds-met-p-2 c = omega (arith, place (goal.at.offset_bounds-met-p-2 c).At-loop-met)

pub bounds-met-p-2 : goal.bounds-met-p-2
bounds-met-p-2 c = omega (arith, place (goal.at.bounds-met-p-2 c).At-loop-met)

pub returns-then-met-p : goal.returns-then-met-p
returns-then-met-p c =
    let s = c.before.before.before.before in
    let p = s.before.before.requires in
    meeting_over (sound_fits p.0) p.1.0 s.loop-met.invariant c.before.before.loop-met-test.false c.if-met-p.true

pub offset_bounds-met-a : goal.offset_bounds-met-a
offset_bounds-met-a c = omega (arith, place (goal.at.offset_bounds-met-a c).At-loop-met)

pub bounds-met-a : goal.bounds-met-a
bounds-met-a c = omega (arith, place (goal.at.bounds-met-a c).At-loop-met, c.if-p-a.true)

pub returns-then-p-a : goal.returns-then-p-a
returns-then-p-a c =
    let s = c.before.before.before.before.before in
    let p = s.before.before.requires in
    meeting_first (sound_fits p.0) p.1.0 s.loop-met.invariant c.before.if-met-p.false c.if-p-a.true

pub lowest-low-requires : goal.lowest-low-requires
lowest-low-requires c =
    let s = c.before.before.before.before.before in
    let p = s.before.before.requires in
    (p.0, (s.loop-met.invariant.is, meeting_awaits (sound_fits p.0) p.1.0 s.loop-met.invariant c.before.if-met-p.false))

pub overflow_cast-met-2 : goal.overflow_cast-met-2
overflow_cast-met-2 c = let at-loop = c.before.before.before.before.before.before in
    omega (arith, c.lowest-low.ensures.is, at-loop.before.before.requires.0.fixed.P32)

pub offset_bounds-met-low : goal.offset_bounds-met-low
offset_bounds-met-low c = let at-loop = c.before.before.before.before.before.before in
    omega (arith, c.lowest-low.ensures.is, at-loop.before.before.requires.0.fixed.P32)

pub bounds-met-low : goal.bounds-met-low
bounds-met-low c = let at-loop = c.before.before.before.before.before.before in
    omega (arith, c.lowest-low.ensures.is, at-loop.before.before.requires.0.fixed.P32)

pub returns : goal.returns
returns c =
    let s = c.before.before.before.before.before.before in
    let p = s.before.before.requires in
    meeting_ring (sound_fits p.0) p.1.0 s.loop-met.invariant c.before.before.if-met-p.false c.lowest-low.ensures

-- `queued` meets its contract. The loop's invariant: so many links lead to the end as are still to be counted. Assumes nothing.
use mathlib.Core.Path.{◌≡◌}
use Prim.Native.Nat.{◌+◌}
use native.Mathlib.Omega.{arith}
use Rattle.screen.proofs.TwoLoops.{following_none, following_over, following_there, following_goes}
use Rattle.screen.proofs.queued.Goals as goal

pub loop-b-init : goal.loop-b-init
loop-b-init c = following_none c.requires.0 c.requires.1.0 c.process_word-b.ensures

-- the first of two: its words are there, and it is passed
pub bounds-buffers-b : goal.bounds-buffers-b
bounds-buffers-b c = omega (arith, following_there c.loop-b.invariant c.loop-b-test.true c.requires.0 c.requires.1.1)

pub overflow_add-result : goal.overflow_add-result
overflow_add-result c = let o = following_goes c.loop-b.invariant c.loop-b-test.true c.requires.1.1 in omega (arith, o.most, o.few)

pub returns-then-second-eq0 : goal.returns-then-second-eq0
returns-then-second-eq0 c = following_over (following_goes c.loop-b.invariant c.loop-b-test.true c.requires.1.1) c.if-second-eq0.true

-- and the second
pub bounds-buffers-second : goal.bounds-buffers-second
bounds-buffers-second c =
    let f = following_goes c.loop-b.invariant c.loop-b-test.true c.requires.1.1 in
    omega (arith, following_there f c.if-second-eq0.false c.requires.0 c.requires.1.1)

pub overflow_add-count : goal.overflow_add-count
overflow_add-count c =
    let f = following_goes c.loop-b.invariant c.loop-b-test.true c.requires.1.1 in
    let o = following_goes f c.if-second-eq0.false c.requires.1.1 in
    omega (arith, o.most, o.few)

pub loop-b-smaller : goal.loop-b-smaller
loop-b-smaller c =
    let f = following_goes c.loop-b.invariant c.loop-b-test.true c.requires.1.1 in
    let o = following_goes f c.if-second-eq0.false c.requires.1.1 in
    omega (arith, o.most)

pub loop-b-preserved : goal.loop-b-preserved
loop-b-preserved c =
    let k : c.loop-b.count + 2 ≡ c.loop-b.count + 1 + 1 = omega arith in
    rw k (following_goes (following_goes c.loop-b.invariant c.loop-b-test.true c.requires.1.1) c.if-second-eq0.false c.requires.1.1)

pub returns : goal.returns
returns c = following_over c.loop-b.invariant c.loop-b-test.false

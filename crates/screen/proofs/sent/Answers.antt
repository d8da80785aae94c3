-- `sent` meets its contract. The loop's invariant: what was counted and what the rest of the run holds is the whole. Assumes nothing.
use native.Mathlib.Omega.{arith}
use Rattle.screen.proofs.TwoLoops.{passing_over, passing_there, passing_one, passing_two}
use Rattle.screen.proofs.sent.Goals as goal

pub bounds-buffers-at : goal.bounds-buffers-at
bounds-buffers-at c = let r = c.requires in omega (arith, passing_there c.loop-left.invariant r.0 r.1.0 r.1.1 0 (omega arith))

pub bounds-buffers-at-in-loop-left : goal.bounds-buffers-at-in-loop-left
bounds-buffers-at-in-loop-left c = let r = c.requires in omega (arith, passing_there c.loop-left.invariant r.0 r.1.0 r.1.1 1 c.loop-left-test.true)

pub loop-left-preserved : goal.loop-left-preserved
loop-left-preserved c = passing_two c.requires.1.1 c.loop-left.invariant c.loop-left-test.true c.taken.ensures.0 c.taken-in-loop-left.ensures.0

pub returns-then-left-eq0 : goal.returns-then-left-eq0
returns-then-left-eq0 c = passing_over c.loop-left.invariant (omega arith)

pub bounds-buffers-at-2 : goal.bounds-buffers-at-2
bounds-buffers-at-2 c = let r = c.requires in omega (arith, passing_there c.loop-left.invariant r.0 r.1.0 r.1.1 0 (omega arith))

pub returns : goal.returns
returns c = passing_over (passing_one c.loop-left.invariant c.requires.1.1 (omega arith) c.taken-2.ensures.0) (omega arith)

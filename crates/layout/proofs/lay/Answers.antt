-- `lay` meets its contract: the loop writes the words of the table laid out, one a pass. Assumes nothing.
use native.Mathlib.Omega.{arith}
use mathlib.Core.Path.{sym}
use Rattle.layout.proofs.Acceptance.{not_refused}
use Rattle.layout.proofs.Written.{begun, goes_on, all_written}
use Rattle.layout.proofs.lay.Goals as goal

pub buffers-buffers-requires : goal.buffers-buffers-requires
buffers-buffers-requires c = let r = not_refused _ _ _ _ c.requires in omega arith

pub overflow_mul-used-2 : goal.overflow_mul-used-2
overflow_mul-used-2 c = let r = not_refused _ _ _ _ c.requires in omega (arith, c.buffers-buffers.ensures.0)

pub overflow_add-used-2 : goal.overflow_add-used-2
overflow_add-used-2 c = let r = not_refused _ _ _ _ c.requires in omega (arith, c.buffers-buffers.ensures.0)

pub overflow_add-used-3 : goal.overflow_add-used-3
overflow_add-used-3 c = let r = not_refused _ _ _ _ c.requires in omega (arith, c.buffers-buffers.ensures.0)

pub loop-i-init : goal.loop-i-init
loop-i-init c = let r = rw (sym c.buffers-buffers.ensures.0) at (not_refused _ _ _ _ c.requires) in begun r.0 r.1 r.2

pub loop-i-preserved : goal.loop-i-preserved
loop-i-preserved c = goes_on c.loop-i.invariant c.loop-i-test.true (c.word.ensures _)

pub returns : goal.returns
returns c = all_written c.loop-i.invariant c.loop-i-test.false

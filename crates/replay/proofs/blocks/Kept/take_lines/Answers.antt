-- `take_lines` meets its contract: line after line is gathered, one at least. Assumes nothing.
use mathlib.Core.Path.{refl}
use native.Mathlib.Omega.{arith}
use Rattle.replay.proofs.Opening.{gathers_none, gathers_more, gathers_some}
use Rattle.replay.proofs.blocks.Kept.take_lines.Goals as goal

pub loop-fed-init : goal.loop-fed-init
loop-fed-init c = gathers_none c.requires.0.out (omega arith) refl refl

pub loop-fed-preserved : goal.loop-fed-preserved
loop-fed-preserved c = gathers_more c.loop-fed.invariant c.advance-fed.ensures.0

pub returns : goal.returns
returns c = (c.loop-fed.invariant, gathers_some c.requires.0 c.requires.1 c.loop-fed.invariant c.loop-fed-test.false)

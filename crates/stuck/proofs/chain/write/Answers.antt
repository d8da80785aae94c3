-- `chain::write` meets its contract. The loop's invariant: what is left of the chain comes behind what went into the room. Assumes nothing.
use mathlib.Core.Path.{refl}
use native.Mathlib.Omega.{arith}
use Rattle.stuck.proofs.Steps.{along_none, along_more, writing_none, writing_goes, writing_done}
use Rattle.stuck.proofs.chain.write.Goals as goal

pub loop-i-init : goal.loop-i-init
loop-i-init c = (writing_none _ _ _ _ _, c.requires.1.0)

pub bounds-room-at : goal.bounds-room-at
bounds-room-at c = omega arith

pub loop-i-preserved : goal.loop-i-preserved
loop-i-preserved c =
    let o = c.onward-p.ensures in
    (writing_goes c.loop-i.invariant.0 c.loop-i-test.true refl (λ j. along_more _ j _ _ o.0), o.1)

pub shape_of-room : goal.shape_of-room
shape_of-room c = c.loop-i.invariant.0.same

pub returns : goal.returns
returns c = writing_done c.loop-i.invariant.0 c.loop-i-test.false (along_none _ _)

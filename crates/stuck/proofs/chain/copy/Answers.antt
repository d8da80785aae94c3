-- `chain::copy` meets its contract. The loop's invariant: what is left of the list comes behind what went into the room. Assumes nothing.
use native.Mathlib.Omega.{arith}
use native.Mathlib.Numerals.{unary_clauses}
use Rattle.stuck.proofs.Steps.{writing_none, writing_goes, writing_done}
use Rattle.stuck.proofs.Listing.{down_none, down_more}
use Rattle.stuck.proofs.chain.copy.Goals as goal

pub loop-i-init : goal.loop-i-init
loop-i-init c = simp unary_clauses (writing_none _ _ _ _ _)

pub bounds-room-i : goal.bounds-room-i
bounds-room-i c = omega arith

pub loop-i-preserved : goal.loop-i-preserved
loop-i-preserved c = writing_goes c.loop-i.invariant c.loop-i-test.true (omega arith) (λ j. down_more _ j _ _ (omega arith))

pub shape_of-room : goal.shape_of-room
shape_of-room c = c.loop-i.invariant.same

pub returns : goal.returns
returns c = writing_done c.loop-i.invariant c.loop-i-test.false (down_none _ _)

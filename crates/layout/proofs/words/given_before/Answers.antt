-- `given_before` meets its contract. The loop's invariant: the sum is what the processes 1 to i have. Assumes nothing.
use Prim.Native.Nat.{◌-◌, ◌+◌}
use native.Mathlib.Omega.{arith}
use mathlib.Core.Path.{◌≡◌, refl}
use Rattle.machine.specs.Machine.{given}
use Rattle.layout.proofs.Given.{given_more, given_small}
use Rattle.layout.proofs.words.given_before.Goals as goal

pub loop-i-init : goal.loop-i-init
unfolding given
loop-i-init c = refl

pub overflow_add-sum-in-loop-i : goal.overflow_add-sum-in-loop-i
overflow_add-sum-in-loop-i c =
    let a = c.requires.0 in
    omega (arith, c.loop-i.invariant, given_more a c.loop-i.i (omega arith), given_small a (c.loop-i.i + 1) (omega arith))

pub loop-i-preserved : goal.loop-i-preserved
loop-i-preserved c = rw c.loop-i.invariant (given_more c.requires.0 c.loop-i.i (omega arith))

pub returns : goal.returns
returns c =
    let e : c.loop-i.i ≡ c.args.p - 1 = omega arith in
    (rw e at c.loop-i.invariant, omega (arith, c.loop-i.invariant, given_small c.requires.0 c.loop-i.i (omega arith)))

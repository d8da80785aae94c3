-- `Numerals::new` meets its contract: the numbers below n are in, and one more. Assumes nothing.
use mathlib.Core.Path.{◌≡◌, refl}
use native.Mathlib.Omega.{arith}
use Rattle.lines.proofs.Worth.{made_none, made_more, made_all}
use Rattle.lines.proofs.numerals.Numerals.new.Goals as goal

pub loop-n-init : goal.loop-n-init
loop-n-init c = made_none

pub loop-n-preserved : goal.loop-n-preserved
loop-n-preserved c =
    made_more c.loop-n-test.true c.digit-low.ensures refl (omega (arith, c.digit-high.ensures, c.digit-low.ensures)) c.loop-n.invariant

pub invariant_of-result : goal.invariant_of-result
invariant_of-result c =
    let e : c.loop-n.n ≡ 256 = omega (arith, c.loop-n-test.false, c.loop-n.auto.n-end) in
    record { right = made_all (rw e at c.loop-n.invariant) }

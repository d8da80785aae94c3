-- The last clause of `sizes`, which is told by what it isn't. Assumes nothing.
use mathlib.Core.Path.{◌≡◌, refl}
use native.Mathlib.Omega.{arith}
use Rattle.why.specs.Clause.{clause_of, LongEnough}
use Rattle.why.proofs.Looks.{looks}
use Rattle.why.proofs.single.sizes.Goals as goal

pub returns-in_default : goal.returns-in_default
unfolding clause_of
returns-in_default c = let e : c.args.c ≡ 5 = omega arith in looks 5 LongEnough refl e c.long_enough.ensures

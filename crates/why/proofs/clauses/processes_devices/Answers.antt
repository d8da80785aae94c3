-- The last clause of `processes_devices`, which is told by what it isn't. Assumes nothing.
use mathlib.Core.Path.{◌≡◌, refl}
use native.Mathlib.Omega.{arith}
use Rattle.why.specs.Clause.{clause_of, Device}
use Rattle.why.proofs.Looks.{looks}
use Rattle.why.proofs.clauses.processes_devices.Goals as goal

pub returns-in_default : goal.returns-in_default
unfolding clause_of
returns-in_default c = let e : c.args.c ≡ 48 = omega arith in looks 48 Device refl e c.device_word.ensures

-- The last clause of `running`, which is told by what it isn't. Assumes nothing.
use mathlib.Core.Path.{◌≡◌, refl}
use native.Mathlib.Omega.{arith}
use Rattle.why.specs.Clause.{clause_of, ProcessOff}
use Rattle.why.proofs.Looks.{looks}
use Rattle.why.proofs.clauses.running.Goals as goal

pub returns-in_default : goal.returns-in_default
unfolding clause_of
returns-in_default c = let e : c.args.c ≡ 22 = omega arith in looks 22 ProcessOff refl e c.process_links.ensures

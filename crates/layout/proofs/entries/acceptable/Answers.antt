-- `acceptable` meets its contract: a list too long is refused, and of any other every part is asked. Assumes nothing.
use native.Mathlib.Omega.{arith}
use Rattle.std.proofs.lemmas.Grind.{common_steps}
use Rattle.layout.proofs.Acceptance.{all_asked}
use Rattle.layout.proofs.entries.acceptable.Goals as goal

pub returns-then-each_proper : goal.returns-then-each_proper
returns-then-each_proper c = let e = all_asked c.args.list.now in grind (arith, common_steps)

pub returns-else-each_proper : goal.returns-else-each_proper
returns-else-each_proper c = let e = all_asked c.args.list.now in grind (arith, common_steps)

-- `ends::lines` meets its contract. Assumes nothing.
use native.Mathlib.Omega.{arith}
use Rattle.compare.proofs.WholeLines.{ends_few}
use Rattle.compare.proofs.Counting.{no_lines, whole_lines, begun_lines}
use Rattle.compare.proofs.ends.lines.Goals as goal

pub overflow_add-result : goal.overflow_add-result
overflow_add-result c = omega (arith, c.ends-count.ensures, ends_few c.args.log.now)

pub returns-in-len1-up : goal.returns-in-len1-up
returns-in-len1-up c = begun_lines _ c.ends-count.ensures c.in-len1-up.len_at_least c.if-last-ne10.true

pub returns-in_default : goal.returns-in_default
returns-in_default c = no_lines _ c.ends-count.ensures c.in_default.len_below

pub returns-in_default-2 : goal.returns-in_default-2
returns-in_default-2 c = whole_lines _ c.ends-count.ensures c.in-len1-up.len_at_least c.if-last-ne10.false

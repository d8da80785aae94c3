-- `buffers` meets its contract: fewer than five words are no entry, five are one more. The measure is the list's length. Assumes nothing.
use native.Mathlib.Omega.{arith}
use Rattle.laws.proofs.Fives.{rest_length, sum_none, sum_more}
use Rattle.layout.proofs.entries.+buffers.Goals as goal

pub returns-in_default : goal.returns-in_default
returns-in_default t c = (sum_none c.args.list.now c.in_default.len_below, omega arith)

pub returns : goal.returns
returns t c = (
  sum_more c.args.list.now c.in-len5-up.len_at_least c.buffers.ensures.0,
  omega (arith, c.type_inv.list 1, c.buffers.ensures.1, rest_length c.args.list.now, c.in-len5-up.len_at_least),
)

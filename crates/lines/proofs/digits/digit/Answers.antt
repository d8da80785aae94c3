-- `digits::digit` meets its contract: the two cases of a digit. Assumes nothing.
use mathlib.Core.Path.{sym}
use Rattle.lines.proofs.Values.{digit_low, digit_high}
use Rattle.lines.proofs.digits.digit.Goals as goal

pub returns-then-v-lt10 : goal.returns-then-v-lt10
returns-then-v-lt10 c = sym (digit_low c.args.v c.if-v-lt10.true)

pub returns : goal.returns
returns c = sym (digit_high c.args.v c.if-v-lt10.false)

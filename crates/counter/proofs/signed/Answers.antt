-- `signed` meets its contract, on both sides of 32,768. Assumes nothing.
use Rattle.counter.proofs.Integers.{rest_fits, rest_word}
use Rattle.counter.proofs.signed.Goals as goal

pub overflow_sub-result : goal.overflow_sub-result
overflow_sub-result c = rest_fits c.before.args.word c.before.ranges.word.fits c.if-word-lt-BELOW_ZERO.false

pub returns-else-word-lt-BELOW_ZERO : goal.returns-else-word-lt-BELOW_ZERO
returns-else-word-lt-BELOW_ZERO c = rest_word c.before.args.word c.before.ranges.word.fits c.if-word-lt-BELOW_ZERO.false

-- `word_of` meets its contract, below zero and not. Assumes nothing.
use Rattle.counter.proofs.Integers.{less_fits, less_cast, less_sub, less_word, up_cast, up_word}
use Rattle.counter.proofs.word_of.Goals as goal

pub overflow_sub-rest : goal.overflow_sub-rest
overflow_sub-rest c = less_fits c.before.args.counter c.before.ranges.counter c.if-counter-lt0.true

pub overflow_cast-result : goal.overflow_cast-result
overflow_cast-result c = less_cast c.before.args.counter c.before.ranges.counter c.if-counter-lt0.true

pub overflow_sub-result : goal.overflow_sub-result
overflow_sub-result c = less_sub c.before.args.counter c.before.ranges.counter c.if-counter-lt0.true

pub overflow_cast-result-else-counter-lt0 : goal.overflow_cast-result-else-counter-lt0
overflow_cast-result-else-counter-lt0 c = up_cast c.before.args.counter c.before.ranges.counter c.if-counter-lt0.false

pub returns-then-counter-lt0 : goal.returns-then-counter-lt0
returns-then-counter-lt0 c = less_word c.before.args.counter c.before.ranges.counter c.if-counter-lt0.true

pub returns-else-counter-lt0 : goal.returns-else-counter-lt0
returns-else-counter-lt0 c = up_word c.before.args.counter c.before.ranges.counter c.if-counter-lt0.false

-- `lower` meets its contract. Assumes nothing.
use mathlib.Core.Path.{◌∙◌}
use Rattle.counter.proofs.Signs.{lower_fits, lower_is}
use Rattle.counter.proofs.lower.Goals as goal

pub overflow_sub-signed : goal.overflow_sub-signed
overflow_sub-signed c = lower_fits c.before.ranges.word.fits c.signed.ensures c.before.requires

pub returns : goal.returns
returns c = c.word_of.ensures ∙ lower_is c.before.before.ranges.word.fits c.before.signed.ensures c.before.before.requires

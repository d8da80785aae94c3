-- `raise` meets its contract. Assumes nothing.
use mathlib.Core.Path.{◌∙◌}
use Rattle.counter.proofs.Signs.{raise_fits, raise_is}
use Rattle.counter.proofs.raise.Goals as goal

pub overflow_add-signed : goal.overflow_add-signed
overflow_add-signed c = raise_fits c.before.ranges.word.fits c.signed.ensures c.before.requires

pub returns : goal.returns
returns c = c.word_of.ensures ∙ raise_is c.before.before.ranges.word.fits c.before.signed.ensures c.before.before.requires

-- `below_zero` meets its contract. Assumes nothing.
use Rattle.counter.proofs.Signs.{below_is}
use Rattle.counter.proofs.below_zero.Goals as goal

pub returns : goal.returns
returns c = below_is c.before.ranges.word.fits c.signed.ensures

-- `base::inside` meets its contract. Assumes nothing.
use Rattle.tape.proofs.Bases.{lifted_based, lifted_whole, sum_read}
use Rattle.tape.proofs.base.inside.Goals as goal

pub returns : goal.returns
returns c = rw (sum_read c.args.base c.ranges.base) (lifted_whole c.args.base c.ranges.base, lifted_based c.args.base c.ranges.base)

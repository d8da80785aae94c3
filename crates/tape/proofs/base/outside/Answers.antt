-- `base::outside` meets its contract. Assumes nothing.
use Rattle.tape.proofs.Bases.{lowered_whole}
use Rattle.tape.proofs.base.outside.Goals as goal

pub returns : goal.returns
returns c = lowered_whole c.args.base c.requires

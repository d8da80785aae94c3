-- `base::up` meets its contract. Assumes nothing.
use Rattle.tape.proofs.Lookups.{shifted_up}
use Rattle.tape.proofs.base.up.Goals as goal

pub returns : goal.returns
returns c = let m = c.moved.ensures in shifted_up _ c.before.args.value m.0 c.requires m.1 m.2

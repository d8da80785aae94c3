-- `base::down` meets its contract. Assumes nothing.
use Rattle.tape.proofs.Lookups.{shifted_down}
use Rattle.tape.proofs.base.down.Goals as goal

pub returns : goal.returns
returns c = let m = c.moved.ensures in shifted_down _ c.before.args.value m.0 c.requires m.1 m.2

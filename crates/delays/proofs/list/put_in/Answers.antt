-- `put_in` meets its contract: linked at its place. Assumes nothing.
use mathlib.Core.Path.{◌∙◌}
use Rattle.delays.proofs.Reading.{entered_at}
use Rattle.delays.proofs.list.put_in.Goals as goal

pub returns : goal.returns
returns c = c.link.ensures ∙ entered_at _ _ _ c.find-spot.ensures.0

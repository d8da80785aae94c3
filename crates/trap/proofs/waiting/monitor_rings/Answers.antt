-- `waiting::monitor_rings` meets its contract: the report goes into its three words. Assumes nothing.
use mathlib.Core.Path.{refl}
use Rattle.trap.proofs.waiting.monitor_rings.Goals as goal

pub returns : goal.returns
returns c = record { report = c.before.before.rings-rings.result; reports = c.before.before.rings-rings.ensures; words = refl }

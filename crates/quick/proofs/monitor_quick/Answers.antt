-- `monitor_quick` meets its contract: the answer goes into its places. Assumes nothing.
use mathlib.Core.Path.{refl}
use Rattle.machine.specs.Exchange.{said}
use Rattle.monitor.specs.Promise.{Called}
use Rattle.quick.proofs.monitor_quick.Goals as goal

pub returns : goal.returns
returns c = record { answer = said c.serve-answer.result; called = rw c.asked.ensures at c.serve-answer.ensures; stored = refl }

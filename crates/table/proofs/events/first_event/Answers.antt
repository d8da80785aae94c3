-- `events::first_event` meets its contract. Assumes nothing.
use native.Mathlib.Omega.{arith}
use mathlib.Core.Path.{◌∙◌}
use Rattle.machine.specs.Words.{Process}
use Rattle.lists.proofs.Links.{first_is}
use Rattle.laws.proofs.Decoded.{queue_is}
use Rattle.table.proofs.events.first_event.Goals as goal

pub returns : goal.returns
returns c m s may =
    let p = c.before.before.before.args.p in
    rw c.before.of_process.ensures
    (s.table.at (Process p 2) (may.0, may.1, omega arith) ∙ rw (queue_is m p may.0) (first_is 0 (m.events p)))

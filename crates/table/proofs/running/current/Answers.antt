-- `running::current` meets its contract. Assumes nothing.
use native.Mathlib.Omega.{arith}
use mathlib.Core.Path.{◌∙◌}
use Rattle.machine.specs.Words.{Header}
use Rattle.lists.proofs.Links.{first_is}
use Rattle.table.proofs.running.current.Goals as goal

pub returns : goal.returns
returns c m s may = s.table.at (Header 2) (omega arith) ∙ first_is 0 m.running

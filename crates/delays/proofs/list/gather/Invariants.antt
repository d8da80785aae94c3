-- What the loop of `list::gather` keeps. Assumes nothing.
use mathlib.Core.Path.{◌≡◌}
use Rattle.delays.specs.Words.{P_of}
use Rattle.delays.proofs.Walks.{Gathering}
use Rattle.delays.proofs.list.gather.Given as goal

abbrev pub invariant-loop-n : goal.invariant-loop-n
invariant-loop-n l = (l.all ≡ P_of l.t) × ((l.due.count ≡ l.n) × Gathering l.t l.initial.room l.room l.first l.all l.due.rest l.due.count)

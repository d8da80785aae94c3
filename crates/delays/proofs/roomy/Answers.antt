-- `roomy` meets its contract, row by row. Assumes nothing.
use mathlib.Core.Path.{sym, ◌∙◌}
use Rattle.delays.proofs.Reading.{sized_tells, tick_unsized, tick_short, tick_passes}
use Rattle.delays.proofs.roomy.Goals as goal

pub returns-then-not-sized-clause-number : goal.returns-then-not-sized-clause-number
returns-then-not-sized-clause-number c = tick_unsized _ _ (sym c.sized.ensures ∙ c.if-not-sized.true)

pub processes-requires : goal.processes-requires
processes-requires c = sized_tells _ (sym c.sized.ensures ∙ c.if-not-sized.false)

pub returns-then-room-processes-clause-number : goal.returns-then-room-processes-clause-number
returns-then-room-processes-clause-number c = tick_short _ _ (sym c.sized.ensures ∙ c.if-not-sized.false) (rw c.processes.ensures at c.if-room-processes.true)

pub returns-clause-number : goal.returns-clause-number
returns-clause-number c = tick_passes _ _ (sym c.sized.ensures ∙ c.if-not-sized.false) (rw c.processes.ensures at c.if-room-processes.false)

pub returns-clause-passes : goal.returns-clause-passes
returns-clause-passes c = (sized_tells _ (sym c.sized.ensures ∙ c.if-not-sized.false), rw c.processes.ensures at c.if-room-processes.false)

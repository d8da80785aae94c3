-- `delays_shown` meets its contract: too short, or tested from the first on. Assumes nothing.
use mathlib.Core.Path.{sym, ◌∙◌}
use Rattle.delays.proofs.Reading.{sized_tells, shown_unsized, shown_sized}
use Rattle.delays.proofs.delays_shown.Goals as goal

pub ordered-requires : goal.ordered-requires
ordered-requires c = sized_tells _ (sym c.sized.ensures ∙ c.if-sized.true)

pub returns-then-sized : goal.returns-then-sized
returns-then-sized c = shown_sized _ (sym c.sized.ensures ∙ c.if-sized.true) c.ordered.ensures

pub returns-else-sized : goal.returns-else-sized
returns-else-sized c = c.if-sized.false ∙ shown_unsized _ (sym c.sized.ensures ∙ c.if-sized.false)

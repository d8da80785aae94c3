-- `admitted` meets its contract, row by row. Assumes nothing.
use mathlib.Core.Path.{sym, ◌∙◌}
use native.Mathlib.Omega.{arith}
use Rattle.delays.proofs.Reading.{sized_tells, refusal_unsized, refusal_zero, refusal_above, refusal_none}
use Rattle.delays.proofs.admitted.Goals as goal
use Rattle.delays.proofs.admitted.Goals.{then-p-eq0-via-then-p-eq0, then-p-eq0-via-else-p-eq0+then-p-t}

pub returns-then-not-sized-clause-number : goal.returns-then-not-sized-clause-number
returns-then-not-sized-clause-number c = refusal_unsized _ _ (sym c.sized.ensures ∙ c.if-not-sized.true)

pub bounds-t-1 : goal.bounds-t-1
bounds-t-1 c = omega (arith, (sized_tells _ (sym c.sized.ensures ∙ c.if-not-sized.false)).long)

pub returns-then-p-eq0-clause-number : goal.returns-then-p-eq0-clause-number
returns-then-p-eq0-clause-number c =
    let e = sym c.sized.ensures ∙ c.if-not-sized.false in
    elim c.then-p-eq0.branch [
      | then-p-eq0-via-then-p-eq0 w ↦ refusal_zero _ _ e w.if-p-eq0.true
      | then-p-eq0-via-else-p-eq0+then-p-t w ↦ refusal_above _ _ e w.if-p-eq0.false w.if-p-t.true
    ]

pub returns-clause-number : goal.returns-clause-number
returns-clause-number c = refusal_none _ _ (sym c.sized.ensures ∙ c.if-not-sized.false) c.if-p-eq0.false c.if-p-t.false

pub returns-clause-passes : goal.returns-clause-passes
returns-clause-passes c = (sized_tells _ (sym c.sized.ensures ∙ c.if-not-sized.false), (omega arith, c.if-p-t.false))

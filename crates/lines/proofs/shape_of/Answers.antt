-- `shape_of` meets its contract: the definition's four cases. Assumes nothing.
use mathlib.Core.Path.{refl, sym, ◌∙◌}
use borrow.Author.Tests.{eq-eqb, ne_eqb}
use Rattle.lines.specs.Line.{shape_of}
use Rattle.lines.proofs.shape_of.Goals as goal

pub returns-then-well_formed : goal.returns-then-well_formed
unfolding shape_of
returns-then-well_formed c =
    rw (ne_eqb _ _ c.if-number-ne0.true, sym c.well_formed-then-number-ne0.ensures ∙ c.if-well_formed.true) refl

pub returns-else-well_formed : goal.returns-else-well_formed
unfolding shape_of
returns-else-well_formed c =
    rw (ne_eqb _ _ c.if-number-ne0.true, sym c.well_formed-then-number-ne0.ensures ∙ c.if-well_formed.false) refl

pub returns-then-words-ne0 : goal.returns-then-words-ne0
unfolding shape_of
returns-then-words-ne0 c = rw (eq-eqb _ _ c.if-number-ne0.false, ne_eqb _ _ c.if-words-ne0.true) refl

pub returns : goal.returns
unfolding shape_of
returns c = rw (eq-eqb _ _ c.if-number-ne0.false, eq-eqb _ _ c.if-words-ne0.false) refl

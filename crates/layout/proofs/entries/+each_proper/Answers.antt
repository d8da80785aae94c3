-- `each_proper` meets its contract: fewer than five words are no entry, five are one more. The measure is the list's length. Assumes nothing.
use mathlib.Core.Path.{refl, sym, ◌∙◌}
use Rattle.machine.specs.Layout.{proper}
use Rattle.laws.proofs.Fives.{each_none, each_more}
use Rattle.layout.proofs.entries.+each_proper.Goals as goal

pub returns-in_default : goal.returns-in_default
returns-in_default t c = each_none c.args.list.now c.in_default.len_below _

pub returns-then-legal_entry : goal.returns-then-legal_entry
returns-then-legal_entry t c =
    each_more c.args.list.now c.in-len5-up.len_at_least proper (sym c.if-legal_entry.true ∙ c.legal_entry.ensures) c.each_proper.ensures

pub returns-else-legal_entry : goal.returns-else-legal_entry
returns-else-legal_entry t c =
    c.if-legal_entry.false ∙ each_more c.args.list.now c.in-len5-up.len_at_least proper (sym c.if-legal_entry.false ∙ c.legal_entry.ensures) refl

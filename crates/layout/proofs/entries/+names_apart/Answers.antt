-- `names_apart` meets its contract: fewer than five words are no entry, five are one more, whose name is compared with the others. The measure is the
-- list's length. Assumes nothing.
use mathlib.Core.Path.{refl, sym, ◌∙◌}
use Rattle.laws.proofs.Fives.{apart_none, apart_more}
use Rattle.layout.proofs.entries.+names_apart.Goals as goal

pub returns-in_default : goal.returns-in_default
returns-in_default t c = apart_none c.args.list.now c.in_default.len_below

pub returns-then-each_unlike : goal.returns-then-each_unlike
returns-then-each_unlike t c =
    apart_more c.args.list.now c.in-len5-up.len_at_least (sym c.if-each_unlike.true ∙ c.each_unlike.ensures) c.names_apart.ensures

pub returns-else-each_unlike : goal.returns-else-each_unlike
returns-else-each_unlike t c =
    c.if-each_unlike.false ∙ apart_more c.args.list.now c.in-len5-up.len_at_least (sym c.if-each_unlike.false ∙ c.each_unlike.ensures) refl

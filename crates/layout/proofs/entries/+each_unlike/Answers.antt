-- `each_unlike` meets its contract: fewer than five words are no entry, five are one more. The measure is the list's length. Assumes nothing.
use mathlib.Core.Bool.{true, false, not}
use mathlib.Core.Path.{refl, ap, ◌∙◌}
use Rattle.std.proofs.lemmas.Grind.{common_steps}
use native.Mathlib.Omega.{arith}
use Rattle.machine.specs.Layout.{unlike}
use Rattle.laws.proofs.Fives.{each_none, each_more}
use Rattle.layout.proofs.entries.+each_unlike.Goals as goal

pub returns-in_default : goal.returns-in_default
returns-in_default t c = each_none c.args.list.now c.in_default.len_below _

pub returns-then-not-z-third : goal.returns-then-not-z-third
returns-then-not-z-third t c =
    each_more c.args.list.now c.in-len5-up.len_at_least (unlike c.args.x c.args.y c.args.z) {t = true} (grind (arith, common_steps)) c.each_unlike.ensures

pub returns-else-not-z-third : goal.returns-else-not-z-third
returns-else-not-z-third t c =
    ap not c.if-not-z-third.false
    ∙ each_more c.args.list.now c.in-len5-up.len_at_least (unlike c.args.x c.args.y c.args.z) {t = false} (grind (arith, common_steps)) refl

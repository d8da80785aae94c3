-- `sound::names::new_name` meets its contract. The loop's invariant: the processes passed have other names. Assumes nothing.
use mathlib.Core.Path.{sym, ◌∙◌}
use Rattle.lists.proofs.Counting.{all_none, all_more, all_fails}
use Rattle.sound.proofs.names.new_name.Goals as goal

pub loop-q-init : goal.loop-q-init
loop-q-init c = all_none _

pub returns-then-not-other_name : goal.returns-then-not-other_name
returns-then-not-other_name c = sym (all_fails _ _ _ c.loop-q-test.true (sym c.other_name.ensures ∙ c.if-not-other_name.true))

pub loop-q-preserved : goal.loop-q-preserved
loop-q-preserved c = all_more _ _ c.loop-q.invariant (sym c.other_name.ensures ∙ c.if-not-other_name.false)

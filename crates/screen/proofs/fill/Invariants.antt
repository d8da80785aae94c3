-- The loop of `fill`: the first i records are set, and the rest of the list is as it was. Assumes nothing.
use mathlib.Core.Path.{◌≡◌}
use Rattle.screen.specs.Screen.{filled}
use Rattle.screen.specs.Reading.{summary_at}
use Rattle.screen.proofs.fill.Given as goal

abbrev pub invariant-loop-i : goal.invariant-loop-i
invariant-loop-i l = l.list ≡ filled (summary_at l.t) l.i l.initial.list

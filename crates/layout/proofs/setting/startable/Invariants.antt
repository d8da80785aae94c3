-- What the loop of `startable` keeps: the counters that are left tell. Assumes nothing.
use mathlib.Core.Path.{◌≡◌}
use lib.ListN.{drop}
use Rattle.machine.specs.Layout.{startable}
use Rattle.layout.proofs.setting.startable.Given as goal

abbrev pub invariant-loop-counter : goal.invariant-loop-counter
invariant-loop-counter l = startable (drop l.counter-index l.counters) ≡ startable l.counters

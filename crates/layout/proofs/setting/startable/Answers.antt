-- `startable` meets its contract: a counter out of range, one more in range, or none left. Assumes nothing.
use native.Mathlib.Omega.{arith}
use Rattle.std.proofs.lemmas.Grind.{common_steps}
use Rattle.layout.proofs.Startable.{startable_more, startable_all}
use Rattle.layout.proofs.setting.startable.Goals as goal

pub returns-then-counter-gt-MOST_COUNTER : goal.returns-then-counter-gt-MOST_COUNTER
returns-then-counter-gt-MOST_COUNTER c =
    let e = startable_more c.args.counters.now c.loop-counter.counter-index c.loop-counter-test.true in grind (arith, common_steps)

pub loop-counter-preserved : goal.loop-counter-preserved
loop-counter-preserved c = let e = startable_more c.args.counters.now c.loop-counter.counter-index c.loop-counter-test.true in grind (arith, common_steps)

pub returns : goal.returns
returns c = let e = startable_all c.args.counters.now c.loop-counter.counter-index c.loop-counter-test.false in cc

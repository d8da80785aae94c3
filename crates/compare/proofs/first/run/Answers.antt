-- `first::run` meets its contract. The loop's invariant: the first i bytes are the same, and of the first lines. Assumes nothing.
use mathlib.Core.Path.{◌≡◌}
use native.Mathlib.Omega.{arith}
use Rattle.compare.proofs.Bytes.{decided_end, decided_both, gone_more, gone_runs}
use Rattle.compare.proofs.first.run.Goals as goal

pub returns-then-one-i : goal.returns-then-one-i
returns-then-one-i c =
    gone_runs c.loop-i.invariant (decided_both c.args.one.now c.args.two.now c.loop-i.i (omega arith) (omega arith) (λ e. absurd (c.if-one-i.true e)))

pub returns-then-one-i-eq10 : goal.returns-then-one-i-eq10
returns-then-one-i-eq10 c =
    gone_runs c.loop-i.invariant (decided_both c.args.one.now c.args.two.now c.loop-i.i (omega arith) (omega arith) (λ _. c.if-one-i-eq10.true))

pub loop-i-preserved : goal.loop-i-preserved
loop-i-preserved c = gone_more c.loop-i.invariant (omega arith) (omega arith) c.if-one-i.false c.if-one-i-eq10.false

pub returns : goal.returns
returns c =
    let e : c.loop-i.i ≡ c.shorter-size.result = omega arith in
    rw e at (gone_runs c.loop-i.invariant (decided_end c.args.one.now c.args.two.now c.loop-i.i (omega (arith, c.shorter-size.ensures))))

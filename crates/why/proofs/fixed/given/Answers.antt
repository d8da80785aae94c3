-- `given` meets its contract. Assumes nothing.
use mathlib.Core.Path.{◌≡◌, sym}
use Prim.Native.Nat.{◌-◌}
use native.Mathlib.Omega.{arith}
use Rattle.lists.proofs.Counting.{given_none}
use Rattle.why.specs.Asked.{owns}
use Rattle.why.proofs.Found.{given_next}
use Rattle.why.proofs.fixed.given.Goals as goal

pub loop-p-init : goal.loop-p-init
loop-p-init c = (omega arith, (sym (given_none _), omega arith))

pub loop-p-preserved : goal.loop-p-preserved
loop-p-preserved c =
    let e = c.word-sum.ensures.0 in
    (omega arith, ((rw (c.loop-p.invariant.1.0, e) (sym (given_next c.loop-p.p (omega arith) (omega arith) (owns c.args.words.now)))), omega arith))

pub returns : goal.returns
returns c = let e : c.loop-p.p - 1 ≡ c.args.n = omega arith in (rw e at c.loop-p.invariant.1.0, omega arith)

pub returns-2 : goal.returns-2
returns-2 c =
    let e = c.word-sum.ensures.0 in
    ((rw (c.loop-p.invariant.1.0, e) (sym (given_next c.loop-p.p (omega arith) (omega arith) (owns c.args.words.now)))), omega arith)

-- `why` meets its contract. Assumes nothing.
use mathlib.Core.Path.{◌≡◌, sym, ◌∙◌}
use Prim.Native.Nat.{◌+◌, ◌-◌}
use native.Mathlib.Omega.{arith}
use Rattle.why.proofs.Faults.{lowest_none}
use Rattle.why.proofs.Found.{lowest_next}
use Rattle.why.proofs.Telling.{passes, ready, ready_at, tells, passed, tells_none}
use Rattle.why.proofs.why.Goals as goal

pub loop-c-init : goal.loop-c-init
loop-c-init c = lowest_none _

pub failing-requires : goal.failing-requires
failing-requires c = (ready_at _ (omega arith) (ready c.args.words.now (c.loop-c.c - 1) c.loop-c.invariant), omega arith)

pub returns-in-Some : goal.returns-in-Some
returns-in-Some c =
    let e : c.loop-c.c - 1 + 1 ≡ c.loop-c.c = omega arith in
    tells c.args.words.now (c.loop-c.c - 1) c.loop-c.invariant (omega arith) (rw e (sym c.failing.ensures ∙ c.in-Some.is))

pub loop-c-preserved : goal.loop-c-preserved
loop-c-preserved c =
    lowest_next c.loop-c.c (omega arith) (omega arith) (passes c.args.words.now) c.loop-c.invariant
    (passed c.args.words.now c.loop-c.c (sym c.failing.ensures ∙ c.in_default.is))

pub returns : goal.returns
returns c = let e : c.loop-c.c - 1 ≡ 48 = omega arith in tells_none c.args.words.now (rw e at c.loop-c.invariant)

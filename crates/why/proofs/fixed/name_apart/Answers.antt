-- `name_apart` meets its contract. Assumes nothing.
use mathlib.Core.Path.{◌≡◌, sym}
use mathlib.Core.Bool.{not}
use Prim.Native.Nat.{◌+◌, ◌-◌}
use native.Mathlib.Omega.{arith}
use Rattle.lists.proofs.Counting.{all_none, all_fails}
use Rattle.why.specs.Asked.{same_name}
use Rattle.why.proofs.Found.{not_yes, not_no, all_next}
use Rattle.why.proofs.fixed.name_apart.Goals as goal

pub loop-q-init : goal.loop-q-init
loop-q-init c = all_none _

pub returns-then-same_name : goal.returns-then-same_name
returns-then-same_name c =
    let e : c.loop-q.q - 1 + 1 ≡ c.loop-q.q = omega arith in
    sym (all_fails (λ x. not (same_name c.args.words.now x c.args.p)) (c.loop-q.q - 1) _ (omega arith)
    (rw e (not_yes c.same_name.ensures c.if-same_name.true)))

pub loop-q-preserved : goal.loop-q-preserved
loop-q-preserved c = all_next c.loop-q.q (omega arith) (omega arith) _ c.loop-q.invariant (not_no c.same_name.ensures c.if-same_name.false)

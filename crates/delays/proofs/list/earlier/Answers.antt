-- `earlier` meets its contract, where there is an x and where not. Assumes nothing.
use mathlib.Core.Path.{◌≡◌, ◌∙◌}
use Prim.Native.Nat.{◌-◌}
use Rattle.delays.specs.Words.{put_difference, difference}
use Rattle.delays.proofs.Reading.{earlier_none, earlier_some}
use Rattle.delays.proofs.list.earlier.Goals as goal

pub returns-then-x-eq0 : goal.returns-then-x-eq0
returns-then-x-eq0 c = earlier_none _ _ _ c.if-x-eq0.true

pub returns : goal.returns
returns c =
    let after-difference-arg = c in
    let past1 = after-difference-arg in
    let start = past1 in
    let a = start.args in
    let e : c.put_difference.new.t ≡ put_difference a.x (difference a.t.now a.x - a.d) a.t.now = (cc) in
    e ∙ earlier_some a.t.now a.x a.d past1.if-x-eq0.false

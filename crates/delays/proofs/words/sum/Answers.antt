-- `sum` meets its contract: under 65,536 and not. Assumes nothing.
use mathlib.Core.Path.{◌≡◌, ◌∙◌}
use Prim.Native.Nat.{◌+◌, ◌≤◌, ◌<◌}
use native.Mathlib.Omega.{arith}
use borrow.Author.Tests.{leb-true, leb-false}
use lib.Dec.{leb}
use Rattle.lists.proofs.Tests.{tested}
use Rattle.delays.proofs.Reading.{sum_over, sum_under}
use Rattle.delays.proofs.words.sum.Goals as goal

pub returns : goal.returns
returns c =
    tested (leb (c.args.a + c.args.b) 65535)
    (λ t. (let h : c.args.a + c.args.b ≤ 65535 = leb-true _ _ t in
    let e : c.saturating_add.result ≡ c.args.a + c.args.b = omega arith in
    e ∙ sum_under _ _ h))
    (λ t. (let h : 65535 < c.args.a + c.args.b = leb-false _ _ t in let e : c.saturating_add.result ≡ 65535 = omega arith in e ∙ sum_over _ _ h))

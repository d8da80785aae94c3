-- `is_short` meets its contract: five words for each buffer are enough; where there are fewer, the rows are counted. Assumes nothing.
use mathlib.Core.Path.{sym, ap}
use Prim.Native.Nat.{ℕ, ◌*◌, ◌≤◌}
use native.Mathlib.Omega.{arith}
use lib.Dec.{ltb}
use lib.ListN.{length}
use borrow.Author.Tests.{le-ltb}
use Rattle.machine.specs.Refusal.{is_shown, shown, row_width}
use Rattle.listing.proofs.Rows.{keep_few}
use Rattle.listing.proofs.is_short.Goals as goal

pub returns-then-buffers-lent : goal.returns-then-buffers-lent
returns-then-buffers-lent c m w u =
    let s = c.before.before.before.args in
    let few : row_width * length (shown m s.a) ≤ s.lent = omega (arith, keep_few (is_shown m s.a) 1 m.B, c.before.buffers.ensures m w tt) in
    sym (le-ltb s.lent (row_width * length (shown m s.a)) few)

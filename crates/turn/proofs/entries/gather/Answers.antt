-- `gather` meets its contract: past 32 entries nothing is stored, and else five words behind those of the list. Assumes nothing.
use mathlib.Core.Path.{◌≡◌, refl}
use Prim.Native.Nat.{◌+◌, ◌*◌}
use native.Mathlib.Omega.{arith}
use borrow.Author.Tests.{le-leb, lt-leb}
use Rattle.lines.proofs.Stores.{one, behind}
use Rattle.turn.proofs.Storing.{stored_past, stored_more}
use Rattle.turn.proofs.entries.gather.Goals as goal

pub returns-then-n-gt32 : goal.returns-then-n-gt32
returns-then-n-gt32 c = record { entries = λ ws e. stored_past e _ c.if-n-gt32.true; list = rw (lt-leb _ 32 c.if-n-gt32.true) }

pub returns : goal.returns
returns c =
    let put = behind (behind (behind (behind (one _ _ refl) (one _ _ refl) refl) (one _ _ refl) refl) (one _ _ refl) refl) (one _ _ refl) refl in
    let first : 5 * c.args.n + 0 ≡ 5 * c.args.n = omega arith in
    rw first
    (record { entries = λ ws e. stored_more e _ c.if-n-gt32.false refl (omega arith) (omega arith) put; list = rw (le-leb _ 32 c.if-n-gt32.false) put.bytes })

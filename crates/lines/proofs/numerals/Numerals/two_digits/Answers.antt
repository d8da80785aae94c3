-- `Numerals::two_digits` meets its contract: the table has them. Assumes nothing.
use Prim.Native.Nat.{◌%◌}
use native.Mathlib.Omega.{arith}
use Rattle.lines.proofs.Worth.{two_digits}
use Rattle.lines.proofs.numerals.Numerals.two_digits.Goals as goal

pub returns : goal.returns
returns c = two_digits c.args.n _ (c.args.self.now.right.pairs (c.args.n % 256) (omega arith))

-- `Numerals::worth` meets its contract: the table has it. Assumes nothing.
use native.Mathlib.Omega.{arith}
use borrow.Author.Rules.{rules}
use Rattle.lines.proofs.Worth.{worth_most}
use Rattle.lines.proofs.numerals.Numerals.worth.Goals as goal

pub returns : goal.returns
returns c =
    let e = c.args.self.now.right.right c.args.byte (search rules) in
    (e, omega (arith, e, worth_most c.args.byte))

-- `Numerals::put_pair` meets its contract: two stores, one behind the other. Assumes nothing.
use mathlib.Core.Path.{refl}
use Rattle.lines.specs.Digits.{digits}
use Rattle.lines.proofs.Stores.{one, behind}
use Rattle.lines.proofs.numerals.Numerals.put_pair.Goals as goal

pub returns : goal.returns
unfolding digits
returns c = behind (one _ _ c.two_digits-both.ensures.first) (one _ _ c.two_digits-both.ensures.second) refl

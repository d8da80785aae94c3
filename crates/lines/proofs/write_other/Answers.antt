-- `write_other` meets its contract: three stores, one behind the other. Assumes nothing.
use mathlib.Core.Path.{refl}
use Rattle.lines.specs.Digits.{digit, digits}
use Rattle.lines.proofs.Stores.{one, behind}
use Rattle.lines.proofs.write_other.Goals as goal

pub returns : goal.returns
unfolding digits digit
returns c = record { put = behind (behind (one _ _ refl) (one _ _ refl) refl) (one _ _ refl) refl; place = refl }

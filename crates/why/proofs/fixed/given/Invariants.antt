-- What the loop of `fixed::given` keeps: the buffers of the processes before p are summed up. Assumes nothing.
use mathlib.Core.Path.{◌≡◌}
use Prim.Native.Nat.{◌+◌, ◌-◌, ◌*◌, ◌≤◌}
use Rattle.machine.specs.Machine.{given}
use Rattle.why.specs.Asked.{owns}
use Rattle.why.proofs.fixed.given.Given as goal

abbrev pub invariant-loop-p : goal.invariant-loop-p
invariant-loop-p l = (l.p ≤ l.n + 1) × ((l.sum ≡ given (owns l.words) (l.p - 1)) × (l.sum ≤ 65535 * (l.p - 1)))

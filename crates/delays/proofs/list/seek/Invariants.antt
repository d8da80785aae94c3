-- What the loop of `list::seek` keeps: the walk that is left comes to what the whole walk comes to. Assumes nothing.
use mathlib.Core.Path.{◌≡◌}
use Prim.Native.Nat.{◌-◌, ◌≤◌}
use Rattle.delays.specs.Words.{P_of, sought}
use Rattle.delays.proofs.Walks.{seeks}
use Rattle.delays.proofs.list.seek.Given as goal

abbrev pub invariant-loop : goal.invariant-loop
invariant-loop l = (l.end ≡ P_of l.t) × ((l.spot.before ≤ P_of l.t) × (seeks l.t l.p (l.end - l.counter) l.spot ≡ sought l.t l.p))

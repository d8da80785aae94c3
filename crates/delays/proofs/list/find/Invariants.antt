-- What the loop of `list::find` keeps: the walk that is left comes to what the whole walk comes to. Assumes nothing.
use mathlib.Core.Path.{◌≡◌}
use Prim.Native.Nat.{◌-◌, ◌≤◌}
use Rattle.delays.specs.Words.{P_of, place}
use Rattle.delays.proofs.Walks.{finds}
use Rattle.delays.proofs.list.find.Given as goal

abbrev pub invariant-loop : goal.invariant-loop
invariant-loop l = (l.end ≡ P_of l.t) × ((l.spot.before ≤ P_of l.t) × (finds l.t l.p l.d (l.end - l.counter) l.spot ≡ place l.t l.p l.d))

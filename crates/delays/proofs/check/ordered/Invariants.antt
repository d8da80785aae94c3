-- What the loop of `check::ordered` keeps. Assumes nothing.
use mathlib.Core.Path.{◌≡◌}
use mathlib.Core.List.{List}
use Prim.Native.Nat.{ℕ, ◌-◌, ◌≤◌, ◌<◌}
use Rattle.delays.specs.Words.{P_of, ordered}
use Rattle.delays.proofs.check.ordered.Given as goal

-- the test of the list that is left comes to that of the whole
pub record Kept (t : List ℕ) (before time left : ℕ) : Type 0 where
  pub among : before ≤ P_of t
  pub fits : time < 65536
  pub rest : ordered t left before time ≡ ordered t (P_of t) 0 0

abbrev pub invariant-loop : goal.invariant-loop
invariant-loop l = (l.end ≡ P_of l.t) × Kept l.t l.before l.time (l.end - l.counter)

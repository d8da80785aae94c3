-- A chain of ticks and the answers it gives, as a log has them: what docs/MONITOR.md, 12 speaks of. Assumes nothing: these are definitions.
use Rattle.std.specs.Prelude.{◌≡◌, List, [], ◌∷◌, ℕ, zero, suc}
use Rattle.machine.specs.Numbers.{call_tick}
use Rattle.machine.specs.Machine.{Words}
use Rattle.machine.specs.Step.{Answer}
use Rattle.monitor.specs.Promise.{Called}

-- call 09 on the words t, which answers r with kind 0: it ends no delay
pub record Ticked (t : List ℕ) (r : Answer) : Type 0 where
  pub u : List ℕ
  pub s : List ℕ
  pub v : List ℕ
  pub a : ℕ
  pub b : ℕ
  pub ws : Words
  pub called : Called t u s v call_tick a b ws r
  pub quiet : r.kind ≡ 0

-- one such call after the other, with these answers
abbrev pub Ticks : List ℕ → List Answer → Type 0
Ticks t [] = Unit {0}
Ticks t (r ∷ rs) = (k : Ticked t r) × Ticks k.u rs

-- who is current at each moment: first, and then after each tick, as its answer says
abbrev pub told : ℕ → List Answer → ℕ → ℕ
told first rs zero = first
told first [] (suc i) = 0
told first (r ∷ rs) (suc i) = told r.current rs i

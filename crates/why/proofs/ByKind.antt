-- The three kinds of queues: their numbers, and the word at the place of a record's next. Assumes nothing.
use mathlib.Core.Path.{◌≡◌, refl}
use mathlib.Core.List.{List}
use Prim.Native.Nat.{ℕ, zero, suc, ◌≤◌}
use native.Mathlib.Omega.{arith}
use lib.ListN.{get_or}
use Rattle.why.specs.QueueParts.{queues}
use Rattle.why.specs.Looked.{number_of_kind, Sized}
use Rattle.why.specs.declared.queues.Kind.{Kind}
use Rattle.why.specs.declared.queues.Kind.TheVariants.{Running, Events, Semaphores}

pub kind_fits : (k : Kind) → number_of_kind k ≤ 2
kind_fits Running = omega arith
kind_fits Events = omega arith
kind_fits Semaphores = omega arith

-- ---- the words at the places
module _ {w : List ℕ} (z : Sized w) where
  pub next_at : (k x : ℕ) → get_or w ((queues w k).links x) 0 ≡ (queues w k).next x
  next_at zero x = refl
  next_at (suc zero) x = refl
  next_at (suc (suc k)) x = refl

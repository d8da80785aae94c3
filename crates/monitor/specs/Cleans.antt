-- A clean that is done, as the code promises it: what docs/MONITOR.md, 11 speaks of. Assumes nothing: these are definitions.
use Rattle.std.specs.Prelude.{◌≡◌, List, ℕ}
use Rattle.machine.specs.Numbers.{call_clean}
use Rattle.machine.specs.Machine.{Words}
use Rattle.machine.specs.Step.{Answer as Reply}
use Rattle.monitor.specs.Promise.{Called}

-- call 08 for p, accepted, takes the table t to u
pub record Cleans (t : List ℕ) (p : ℕ) (u : List ℕ) : Type 0 where
  pub room : List ℕ
  pub room_after : List ℕ
  pub b : ℕ
  pub ws : Words
  pub answer : Reply
  pub called : Called t u room room_after call_clean p b ws answer
  pub accepted : answer.number ≡ 0

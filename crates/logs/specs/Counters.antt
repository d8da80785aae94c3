-- docs/MONITOR.md, 9, "Always: a counter below zero is minus the number waiting; otherwise nobody waits", of a table's words, in signed numbers. Assumes
-- nothing: these are definitions.
use Rattle.std.specs.Prelude.{true, false, ◌&&◌, List, ◌≡◌, ℕ, eqb, ℤ, pos, ◌-ℤ◌, length}
use Rattle.std.specs.Int.Signed.{lt_z}
use Rattle.std.specs.Int.{w16}
use Rattle.std.proofs.Common.{to_z}
use Rattle.machine.specs.Numbers.{state_waits_semaphore}
use Rattle.machine.specs.Records.{process_state, process_semaphore, semaphore_counter}
use Rattle.machine.specs.Queue.{from, keep}
use Rattle.machine.specs.Sound.{P_of, process_at, semaphore_at}

-- "The counter is a signed 16-bit number": that of semaphore s
abbrev pub counter_at : List ℕ → ℕ → ℤ
counter_at t s = to_z w16 (semaphore_at t s semaphore_counter)

-- how many wait at it: those in state 5 whose word 15 names it
abbrev pub waiting_at : List ℕ → ℕ → ℕ
waiting_at t s = length (keep (λ p. eqb (process_at t p process_state) state_waits_semaphore && eqb (process_at t p process_semaphore) s) (from 1 (P_of t)))

pub record Always (t : List ℕ) (s : ℕ) : Type 0 where
  pub below : lt_z (counter_at t s) (pos 0) ≡ true → pos 0 -ℤ counter_at t s ≡ pos (waiting_at t s)
  pub otherwise : lt_z (counter_at t s) (pos 0) ≡ false → waiting_at t s ≡ 0

-- The whole table of refusals gives each call the number that its own rows give. Assumes nothing.
use mathlib.Core.Bool.{Bool, true, false}
use mathlib.Core.List.{List, ◌∷◌}
use mathlib.Core.Path.{◌≡◌, refl}
use Prim.Native.Nat.{ℕ, zero, suc, ◌≤◌}
use native.Mathlib.Decide.{dec_le}
use native.Mathlib.Omega.{arith}
use Rattle.machine.specs.Queue.{Range}
use Rattle.machine.specs.Machine.{Machine, Words}
use Rattle.machine.specs.Request.{request, last_call}
use Rattle.machine.specs.Refusal.{Row, ◌when◌, first, refusal}
use Rattle.lists.proofs.Tests.{outside_true}
use Rattle.monitor.specs.RefusalTable.{refusal_number}
use Rattle.laws.proofs.Dispatch.{request_unknown}

-- two lists of rows that give the same number
record Alike (l r : List Row) : Type 0 where
  number : first l ≡ first r

alike : {l : List Row} → Alike l l
alike = record { number = refl }

-- the same row in front
also : {n : ℕ} {t : Bool} {l r : List Row} → Alike l r → Alike ((n when t) ∷ l) ((n when t) ∷ r)
unfolding first
also {t = true} e = record { number = refl }
also {t = false} e = record { number = e.number }

-- a row that doesn't apply
passed : {n : ℕ} {l r : List Row} → Alike l r → Alike ((n when false) ∷ l) r
unfolding first
passed e = record { number = e.number }

-- row by row
ruleset rows = (alike, passed, also)

-- each call's own rows
module _ (m : Machine) (a b : ℕ) (ws : Words) (n : ℕ) where
  abbrev row : ℕ → Type 0
  row k = refusal_number false m k a n ≡ refusal m (request k a b ws n)

  send : row 1
  unfolding refusal request
  send = Alike.number (search rows depth 15)

  wait_answer : row 2
  unfolding refusal request
  wait_answer = Alike.number (search rows depth 15)

  wait_event : row 3
  unfolding refusal request
  wait_event = Alike.number (search rows depth 15)

  send_answer : row 4
  unfolding refusal request
  send_answer = Alike.number (search rows depth 15)

  wait_interrupt : row 5
  unfolding refusal request
  wait_interrupt = Alike.number (search rows depth 15)

  start : row 6
  unfolding refusal request
  start = Alike.number (search rows depth 15)

  stop : row 7
  unfolding refusal request
  stop = Alike.number (search rows depth 15)

  clean : row 8
  unfolding refusal request
  clean = Alike.number (search rows depth 15)

  tick : row 9
  unfolding refusal request first
  tick = refl

  interrupt : row 10
  unfolding refusal request
  interrupt = Alike.number (search rows depth 15)

  list : row 11
  unfolding refusal request
  list = Alike.number (search rows depth 15)

  lower : row 12
  unfolding refusal request
  lower = Alike.number (search rows depth 15)

  raise : row 13
  unfolding refusal request
  raise = Alike.number (search rows depth 15)

  -- every call that there is, and any other number
  pub numbered : (k : ℕ) → row k
  unfolding first refusal
  numbered k = known k (dec_le 1 k) (dec_le k last_call)
    where
      unknown : (k : ℕ) → (Range last_call k → ⊥) → row k
      unknown k h = simp (outside_true last_call k h, request_unknown k a b ws n h)

      known : (k : ℕ) → Dec (1 ≤ k) → Dec (k ≤ last_call) → row k
      known k (no l) u = unknown k (λ r. l r.0)
      known k (yes l) (no u) = unknown k (λ r. u r.1)
      known zero (yes l) (yes u) = absurd (omega arith)
      known (suc zero) (yes l) (yes u) = send
      known (suc (suc zero)) (yes l) (yes u) = wait_answer
      known (suc (suc (suc zero))) (yes l) (yes u) = wait_event
      known (suc (suc (suc (suc zero)))) (yes l) (yes u) = send_answer
      known (suc (suc (suc (suc (suc zero))))) (yes l) (yes u) = wait_interrupt
      known (suc (suc (suc (suc (suc (suc zero)))))) (yes l) (yes u) = start
      known (suc (suc (suc (suc (suc (suc (suc zero))))))) (yes l) (yes u) = stop
      known (suc (suc (suc (suc (suc (suc (suc (suc zero)))))))) (yes l) (yes u) = clean
      known (suc (suc (suc (suc (suc (suc (suc (suc (suc zero))))))))) (yes l) (yes u) = tick
      known (suc (suc (suc (suc (suc (suc (suc (suc (suc (suc zero)))))))))) (yes l) (yes u) = interrupt
      known (suc (suc (suc (suc (suc (suc (suc (suc (suc (suc (suc zero))))))))))) (yes l) (yes u) = list
      known (suc (suc (suc (suc (suc (suc (suc (suc (suc (suc (suc (suc zero)))))))))))) (yes l) (yes u) = lower
      known (suc (suc (suc (suc (suc (suc (suc (suc (suc (suc (suc (suc (suc zero))))))))))))) (yes l) (yes u) = raise
      known (suc (suc (suc (suc (suc (suc (suc (suc (suc (suc (suc (suc (suc (suc k)))))))))))))) (yes l) (yes u) = absurd (omega arith)

-- docs/MONITOR.md, 17.2: the record of a process, and what a call does to the list. Assumes nothing: these are definitions.
use Rattle.std.specs.Prelude.{◌≡◌, Bool, not, ◌&&◌, List, [], ◌∷◌, ℕ, zero, suc, length, set, eqb, ltb}
use Rattle.machine.specs.Numbers.{room_too_short}
use Rattle.machine.specs.Queue.{if, keep}
use Rattle.machine.specs.Machine.{Machine, state, owner, standing, buffers}
use Rattle.machine.specs.Refusal.{◌when◌, first}
use Rattle.machine.specs.Legal.{Legal}
use Rattle.machine.specs.Words.{Shows}
use Rattle.machine.specs.Sound.{Sound}
use Rattle.screen.specs.declared.Summary.{Summary}

-- ---- the record of a process
-- b is p's, and not free: queued, held, answered or orphaned
abbrev pub is_open : Machine → ℕ → ℕ → Bool
is_open m p b = eqb (owner m b) p && not (eqb (standing m b) 0)

-- "number, state, length of its event queue, and how many conversations it has open as sender", "orphaned ones counted"; the state is 0 to 5
abbrev pub summary : Machine → ℕ → Summary
summary m p = record { number = p; state = state m p; queue = length (m.events p); sent = length (keep (is_open m p) (buffers m)) }

-- ---- the list
-- the first n records set, that at p - 1 to what `each` says of p; the rest as they are
unfoldable pub filled : (ℕ → Summary) → ℕ → List Summary → List Summary
filled each zero l = l
filled each (suc n) l = set (filled each n l) n (each (suc n))

-- "A list shorter than P is refused with 10"
abbrev pub screen_refusal : Machine → ℕ → ℕ
screen_refusal m n = first ((room_too_short when ltb n m.P) ∷ [])

-- "nothing filled", or every process's record
abbrev pub screened : Machine → List Summary → List Summary
screened m s = if (ltb (length s) m.P) s (filled (summary m) m.P s)

-- what the entry promises, of any words t and the list s, which becomes v: "an unsound table with 1, nothing filled"
pub record Screens (t : List ℕ) (s v : List Summary) (r : ℕ) : Type 0 where
  pub unsound : (Sound t → ⊥) → (r ≡ 1) × (v ≡ s)
  pub sound : (m : Machine) → Shows t m → Legal m → (r ≡ screen_refusal m (length s)) × (v ≡ screened m s)

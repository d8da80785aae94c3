-- docs/MONITOR.md, 17.2, said another way: what a filled list is, record by record, and how many rows of a listing are a process's own. Assumes nothing: these
-- are definitions.
use Rattle.std.specs.Prelude.{◌≡◌, List, ℕ, zero, suc, ◌≤◌, ◌+◌, ◌-◌, length, get_or, drop, eqb}
use Rattle.machine.specs.Queue.{Range}
use Rattle.machine.specs.Machine.{Machine}
use Rattle.machine.specs.Refusal.{row_width}
use Rattle.lists.specs.Counts.{bit}
use Rattle.screen.specs.declared.Summary.{Summary}
use Rattle.screen.specs.Screen.{summary}

-- from the list s to the list v: record p - 1 is process p's; "Records past P stay as they are"
pub record Filled (m : Machine) (s v : List Summary) : Type 0 where
  pub same_length : length v ≡ length s
  pub each : (p : ℕ) (none : Summary) → Range m.P p → get_or v (p - 1) none ≡ summary m p
  pub past : (i : ℕ) (none : Summary) → m.P ≤ i → get_or v i none ≡ get_or s i none

-- of the first n rows of a listing's room, how many have owner p: "buffer, owner, receiver, standing of each"
unfoldable pub rows_owned : ℕ → ℕ → List ℕ → ℕ
rows_owned p zero l = 0
rows_owned p (suc n) l = bit (eqb (get_or l 1 0) p) + rows_owned p n (drop row_width l)

-- The chain of waits from a process, as the code follows it, and what a call promises. Assumes nothing: these are definitions.
use Rattle.std.specs.Prelude.{◌≡◌, Bool, true, false, not, List, [], ◌∷◌, ℕ, zero, suc, ◌+◌, ◌-◌, ◌<◌, length, get_or, set, eqb, leb}
use Rattle.std.proofs.lemmas.List.Edits.{sets}
use Rattle.machine.specs.Numbers.{state_waits_answer, no_such_process, wrong_state, room_too_short, most_processes}
use Rattle.machine.specs.Queue.{if}
use Rattle.machine.specs.Refusal.{outside}
use Rattle.machine.specs.Sound.{P_of, Sound}
use Rattle.lists.specs.Counts.{count}
use Rattle.stuck.specs.declared.chain.Chain.{Chain}
use Rattle.stuck.specs.declared.ChainReport.{ChainReport}
use Rattle.stuck.specs.Waiting.{Waiting, of_table}

-- p has come up, with k processes not yet visited; the visited are marked in v
unfoldable pub follow : Waiting → List ℕ → ℕ → ℕ → Chain
follow w v zero p = record { left = 0; ring = true }
follow w v (suc k) p =
    if (eqb (get_or v p 0) 1) (record { left = suc k; ring = true })
    (if (eqb (w.state p) state_waits_answer) (follow w (set v p 1) k (w.holder p)) (record { left = k; ring = false }))

-- no mark is set: none is visited, and no size of a ring is known
abbrev pub no_marks : List ℕ
no_marks =
    0 ∷ 0 ∷ 0 ∷ 0 ∷ 0 ∷ 0 ∷ 0 ∷ 0 ∷ 0 ∷ 0 ∷ 0 ∷ 0 ∷ 0 ∷ 0 ∷ 0 ∷ 0 ∷ 0
    ∷ 0 ∷ 0 ∷ 0 ∷ 0 ∷ 0 ∷ 0 ∷ 0 ∷ 0 ∷ 0 ∷ 0 ∷ 0 ∷ 0 ∷ 0 ∷ 0 ∷ 0 ∷ 0 ∷ []

-- of P processes
abbrev pub chain : Waiting → ℕ → ℕ → Chain
chain w P a = follow w no_marks P a

-- how many processes come up, and whether one comes up a second time
abbrev pub chain_length : Waiting → ℕ → ℕ → ℕ
chain_length w P a = P - (chain w P a).left

abbrev pub ring : Waiting → ℕ → ℕ → Bool
ring w P a = (chain w P a).ring

-- whom p waits for, and p itself if it isn't in state 3
unfoldable pub onward : Waiting → ℕ → ℕ
onward w p = if (eqb (w.state p) state_waits_answer) (w.holder p) p

-- n processes along the waits, from p on
unfoldable pub along : Waiting → ℕ → ℕ → List ℕ
along w zero p = []
along w (suc n) p = p ∷ along w n (onward w p)

-- ---- the parts of a call
-- process p is not marked in v
abbrev pub unvisited : List ℕ → ℕ → Bool
unvisited v p = not (eqb (get_or v p 0) 1)

-- a place for the number of each process that there may be, and for 0
abbrev pub places : ℕ
places = suc most_processes

-- k of P processes are not yet visited, by the marks v; s is the list
pub record MayVisit (P : ℕ) (v s : List ℕ) (k : ℕ) : Type 0 where
  pub marks : length v ≡ places
  pub list : length s ≡ places
  pub left : k ≡ count (unvisited v) P

-- n words of l, from place k down
unfoldable pub down : List ℕ → ℕ → ℕ → List ℕ
down l zero k = []
down l (suc n) k = get_or l k 0 ∷ down l n (k - 1)

-- added to the number of processes not visited where one came up a second time
abbrev pub ring_mark : ℕ
ring_mark = 64

-- the chain c from p, with k processes not yet visited: r tells it, and its processes stand in the list l, which was s, from place k down
pub record Lists (w : Waiting) (c : Chain) (s l : List ℕ) (k p r : ℕ) : Type 0 where
  pub told : r ≡ if c.ring (c.left + ring_mark) c.left
  pub listed : down l (k - c.left) k ≡ along w (k - c.left) p
  pub above : (j : ℕ) → k < j → get_or l j 0 ≡ get_or s j 0

-- ---- the answer
-- a refusal has its number, "count 0, no ring"
abbrev pub refused : ℕ → ChainReport
refused n = record { number = n; count = 0; ring = false }

-- refused with 4 and 7, and with 10 for n words of room; then the count and whether it is a ring
unfoldable pub answer : Waiting → ℕ → ℕ → ℕ → ChainReport
answer w P a n =
    if (outside a P) (refused no_such_process)
    (if (not (eqb (w.state a) state_waits_answer)) (refused wrong_state)
    (if (leb (chain_length w P a) n) (record { number = 0; count = chain_length w P a; ring = ring w P a }) (refused room_too_short)))

-- "one word each, into lent room, whose end stays"
unfoldable pub listed : Waiting → ℕ → ℕ → List ℕ → List ℕ
listed w P a s = sets s 0 (along w (answer w P a (length s)).count a)

-- what a call promises, of any words t and the room s, which becomes v
pub record Reports (t s v : List ℕ) (a : ℕ) (r : ChainReport) : Type 0 where
  pub unsound : (Sound t → ⊥) → (r ≡ refused 1) × (v ≡ s)
  pub sound : Sound t → (r ≡ answer (of_table t) (P_of t) a (length s)) × (v ≡ listed (of_table t) (P_of t) a s)

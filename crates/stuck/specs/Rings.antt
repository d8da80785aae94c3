-- The rings of a station, each the chain of its lowest process, the marks by which the code finds them, and what a call promises. Assumes nothing: these
-- are definitions.
use Rattle.std.specs.Prelude.{◌≡◌, Bool, true, false, ◌&&◌, List, [], ◌∷◌, ◌++◌, ℕ, suc, ◌+◌, ◌≤◌, ◌<◌, length, get_or, eqb, leb}
use Rattle.std.proofs.lemmas.List.Edits.{sets}
use Rattle.machine.specs.Numbers.{state_waits_answer, room_too_short, most_processes}
use Rattle.machine.specs.Queue.{if, Range, last_from, from, keep}
use Rattle.machine.specs.Sound.{P_of, Sound}
use Rattle.stuck.specs.declared.rounds.Extent.{Extent}
use Rattle.stuck.specs.declared.RingReport.{RingReport}
use Rattle.stuck.specs.Waiting.{Waiting, of_table, Reached}
use Rattle.stuck.specs.Chain.{chain_length, along, places}

-- none of l is below a
unfoldable pub none_below : ℕ → List ℕ → Bool
none_below a [] = true
none_below a (x ∷ l) = leb a x && none_below a l

-- l goes round to a, its lowest: the last waits for a
abbrev pub goes_round : Waiting → ℕ → List ℕ → Bool
goes_round w a l = (eqb (w.state (last_from 0 l)) state_waits_answer && eqb (w.holder (last_from 0 l)) a) && none_below a l

-- "the members in order of waiting", if a is the lowest of a ring: the chain from a
abbrev pub ring_of : Waiting → ℕ → ℕ → List ℕ
ring_of w P a = along w (chain_length w P a) a

-- a is the lowest of a ring
abbrev pub leads : Waiting → ℕ → ℕ → Bool
leads w P a = goes_round w a (ring_of w P a)

-- how many processes are in the ring whose lowest is a; 0 if there is none
abbrev pub members : Waiting → ℕ → ℕ → ℕ
members w P a = if (leads w P a) (chain_length w P a) 0

-- "each ring once, by its lowest process": those of 1 to n, rising
abbrev pub leaders : Waiting → ℕ → ℕ → List ℕ
leaders w P n = keep (leads w P) (from 1 n)

-- the members of all rings
unfoldable pub joined : (ℕ → List ℕ) → List ℕ → List ℕ
joined ring [] = []
joined ring (a ∷ l) = ring a ++ joined ring l

-- and the words that go into the room: a 0 behind each ring's members
unfoldable pub closed : (ℕ → List ℕ) → List ℕ → List ℕ
closed ring [] = []
closed ring (a ∷ l) = ring a ++ (0 ∷ closed ring l)

-- of the rings whose lowest is one of 1 to n, and of the one whose lowest is a, if there is one
abbrev pub words_to : Waiting → ℕ → ℕ → List ℕ
words_to w P n = closed (ring_of w P) (leaders w P n)

abbrev pub words_of : Waiting → ℕ → ℕ → List ℕ
words_of w P a = if (leads w P a) (ring_of w P a ++ (0 ∷ [])) []

-- ---- the parts of a call
-- how many rings there are, how many words tell them, and in v how many are in the ring of each process
pub record Measured (w : Waiting) (P : ℕ) (v : List ℕ) (r : Extent) : Type 0 where
  pub rings : r.rings ≡ length (leaders w P P)
  pub words : r.words ≡ length (words_to w P P)
  pub sizes : (a : ℕ) → Range P a → get_or v a 0 ≡ members w P a

-- the mark of a ring's lowest process: no process's number
abbrev pub lowest_mark : ℕ
lowest_mark = suc most_processes

-- v marks the processes met, with lowest-mark the lowest of a ring, and any other with the process that the way to it began at: all below a
pub record Met (w : Waiting) (P a : ℕ) (v : List ℕ) : Type 0 where
  pub size : length v ≡ places
  pub below : (y : ℕ) → 1 ≤ y → y < a → get_or v y 0 ≡ 0 → ⊥
  -- no way has begun at a, or above it
  pub begun : (y : ℕ) → a ≤ get_or v y 0 → get_or v y 0 ≡ lowest_mark
  -- whom one that is met waits for is met
  pub onward : (y : ℕ) → Range P y → (get_or v y 0 ≡ 0 → ⊥) → w.state y ≡ state_waits_answer → get_or v (w.holder y) 0 ≡ 0 → ⊥
  -- one that has that mark leads a ring, and one that hasn't leads none
  pub lowest : (y : ℕ) → Range P y → get_or v y 0 ≡ lowest_mark → leads w P y ≡ true
  pub others : (y : ℕ) → Range P y → (get_or v y 0 ≡ 0 → ⊥) → (get_or v y 0 ≡ lowest_mark → ⊥) → leads w P y ≡ false

-- r is the lowest process reached from p
pub record LowestFrom (w : Waiting) (P p r : ℕ) : Type 0 where
  pub is : Range P r
  pub reached : Reached w p r
  pub under : (y : ℕ) → Reached w p y → r ≤ y

-- n are in the ring of a, and a room of so many words has place for it at `at`
pub record MayPut (w : Waiting) (P at a n room : ℕ) : Type 0 where
  pub is : Range P a
  pub members : n ≡ members w P a
  pub fits : at + length (words_of w P a) ≤ room

-- from the room s to the room v the ring of a went in at `at`, and the next goes to r
pub record RingPut (w : Waiting) (P : ℕ) (s v : List ℕ) (at a r : ℕ) : Type 0 where
  pub put : v ≡ sets s at (words_of w P a)
  pub next : r ≡ at + length (words_of w P a)

-- v has the sizes, so many words tell all rings, and the room has them
pub record MayFill (w : Waiting) (P : ℕ) (v : List ℕ) (words room : ℕ) : Type 0 where
  pub sizes : (a : ℕ) → Range P a → get_or v a 0 ≡ members w P a
  pub all : words ≡ length (words_to w P P)
  pub fits : words ≤ room

-- ---- the answer
-- a refusal has its number, no ring and no word
abbrev pub refused_rings : ℕ → RingReport
refused_rings n = record { number = n; rings = 0; words = 0 }

-- refused with 10 for n words of room; then how many rings there are, and how many words tell them
unfoldable pub answer_rings : Waiting → ℕ → ℕ → RingReport
answer_rings w P n =
    if (leb (length (words_to w P P)) n)
    (record { number = 0; rings = length (leaders w P P); words = length (words_to w P P) })
    (refused_rings room_too_short)

-- into lent room, whose end stays; nothing if it is refused
unfoldable pub listed_rings : Waiting → ℕ → List ℕ → List ℕ
listed_rings w P s = if (leb (length (words_to w P P)) (length s)) (sets s 0 (words_to w P P)) s

-- what a call promises, of any words t and the room s, which becomes v
pub record ReportsRings (t s v : List ℕ) (r : RingReport) : Type 0 where
  pub unsound : (Sound t → ⊥) → (r ≡ refused_rings 1) × (v ≡ s)
  pub sound : Sound t → (r ≡ answer_rings (of_table t) (P_of t) (length s)) × (v ≡ listed_rings (of_table t) (P_of t) s)

-- docs/MONITOR.md, 17.4: the numbers of the lines at which two logs differ, and the rest of the one that runs on. Assumes nothing: these are definitions.
use Rattle.std.specs.Prelude.{Bool, true, false, cond, ◌&&◌, List, [], ◌∷◌, ◌++◌, ℕ, zero, suc, eqb, ltb, leb, length, drop}
use Rattle.text.specs.Cut.{cut}

-- cut into lines as the replay's are, "without line ends; the last may lack its own"
abbrev pub lines : List ℕ → List (List ℕ)
lines log = cut [] log

-- the same bytes
unfoldable pub same : List ℕ → List ℕ → Bool
same [] [] = true
same [] (b ∷ l) = false
same (a ∷ k) [] = false
same (a ∷ k) (b ∷ l) = eqb a b && same k l

-- n, and then the numbers l, unless the lines are the same
abbrev pub unless_same : Bool → ℕ → List ℕ → List ℕ
unless_same t n l = cond t l (n ∷ l)

-- "the exact line numbers where the two differ, each once, rising, an absent line counting as a difference"; n is the number of the first line
unfoldable pub differing : ℕ → List (List ℕ) → List (List ℕ) → List ℕ
differing n [] [] = []
differing n [] (b ∷ l) = n ∷ differing (suc n) [] l
differing n (a ∷ k) [] = n ∷ differing (suc n) k []
differing n (a ∷ k) (b ∷ l) = unless_same (same a b) n (differing (suc n) k l)

-- "Lines count from 1"
abbrev pub differences : List ℕ → List ℕ → List ℕ
differences one two = differing 1 (lines one) (lines two)

-- the bytes after so many lines
unfoldable pub after : ℕ → List ℕ → List ℕ
after zero l = l
after (suc k) [] = []
after (suc k) (c ∷ l) = cond (eqb c 0x0A) (after k l) (after (suc k) l)

-- how many lines a log has
abbrev pub size : List ℕ → ℕ
size log = length (lines log)

-- the second has more lines
unfoldable pub second_runs_on : List ℕ → List ℕ → Bool
second_runs_on one two = ltb (size one) (size two)

-- "the rest of whichever log runs on .. or an empty part"; it "begins after as many lines as the shorter log has"
unfoldable pub rest : List ℕ → List ℕ → List ℕ
rest one two = cond (second_runs_on one two) (after (size one) two) (after (size two) one)

-- what comes back, and the room afterwards
pub record Compared : Type 0 where
  pub number : ℕ
  pub count : ℕ
  pub room : List ℕ

-- "Numbers go .. into lent room, whose end stays, and their count comes back"; "refusal 14, fewer words than numbers"
abbrev pub given : List ℕ → List ℕ → Compared
given numbers room =
    cond (leb (length numbers) (length room))
    (record { number = 0; count = length numbers; room = numbers ++ drop (length numbers) room })
    (record { number = 14; count = 0; room = room })

unfoldable pub compared : List ℕ → List ℕ → List ℕ → Compared
compared one two room = given (differences one two) room

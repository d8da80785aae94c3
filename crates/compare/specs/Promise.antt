-- What the functions below the entries promise each other. Assumes nothing: these are definitions.
use Rattle.std.specs.Prelude.{Bool, true, false, cond, ◌&&◌, List, [], ◌∷◌, ◌≡◌, ℕ, suc, ◌+◌, ◌-◌, ◌≤◌, ◌<◌, eqb, ltb, length, take, drop, get_or}
use Rattle.std.proofs.lemmas.List.Edits.{sets}
use Rattle.compare.specs.Differing.{lines, same, unless_same, differing, differences, after, size, second_runs_on, rest}
use Rattle.compare.specs.Common.{Shares}
use Rattle.compare.specs.declared.first.Pair.{Pair}
use Rattle.compare.specs.declared.steps.Place.{Place}
use Rattle.compare.specs.declared.steps.Passed.{Passed}

-- ---- the first line of some bytes
unfoldable pub first_line : List ℕ → List ℕ
first_line [] = []
first_line (c ∷ l) = cond (eqb c 0x0A) [] (c ∷ first_line l)

-- how many bytes it has, with its end
unfoldable pub line_size : List ℕ → ℕ
line_size [] = 0
line_size (c ∷ l) = cond (eqb c 0x0A) 1 (suc (line_size l))

-- nothing stands before its end
unfoldable pub at_end : List ℕ → Bool
at_end [] = true
at_end (c ∷ l) = eqb c 0x0A

abbrev pub some : List ℕ → Bool
some [] = false
some (c ∷ l) = true

-- both have a first line, and these are the same
abbrev pub alike : List ℕ → List ℕ → Bool
alike one two = some one && (some two && same (first_line one) (first_line two))

-- the first k bytes are the same, and of the first lines; and then the lines differ unless both end
pub record Runs (one two : List ℕ) (k : ℕ) : Type 0 where
  pub in_one : k ≤ length one
  pub in_two : k ≤ length two
  pub size_one : line_size one ≡ k + line_size (drop k one)
  pub size_two : line_size two ≡ k + line_size (drop k two)
  pub decided : same (first_line one) (first_line two) ≡ (at_end (drop k one) && at_end (drop k two))

pub record Pairs (one two : List ℕ) (r : Pair) : Type 0 where
  pub decided : r.alike ≡ alike one two
  pub size_one : r.one ≡ line_size one
  pub size_two : r.two ≡ line_size two

-- ---- the front of two logs
-- k bytes from a place on are the same, where the flag says so
pub record SameFrom (one two : List ℕ) (at k : ℕ) (flag : Bool) : Type 0 where
  pub same : flag ≡ true → (i : ℕ) → i < k → get_or one (at + i) 0 ≡ get_or two (at + i) 0

-- the first k bytes are the same, and the next isn't
pub record Stops (one two : List ℕ) (k : ℕ) : Type 0 where
  pub shares : Shares one two k
  pub stops : k < length one → k < length two → get_or one k 0 ≡ get_or two k 0 → ⊥

-- the line that the first `at` bytes end in begins at r
pub record Starts (log : List ℕ) (at r : ℕ) : Type 0 where
  pub before : r ≤ at
  pub ends : 0 < r → get_or log (r - 1) 0 ≡ 0x0A
  pub last : (i : ℕ) → r ≤ i → i < at → get_or log i 0 ≡ 0x0A → ⊥

-- 1 for a line's end
abbrev pub mark : ℕ → ℕ
mark c = cond (eqb c 0x0A) 1 0

-- how many line ends there are
unfoldable pub ends : List ℕ → ℕ
ends [] = 0
ends (c ∷ l) = mark c + ends l

-- ---- the walk along both
-- a place that is in both logs, and there are bytes behind it
pub record Within (one two : List ℕ) (p : Place) : Type 0 where
  pub in_one : p.one ≤ length one
  pub in_two : p.two ≤ length two
  pub some : p.one + p.two < length one + length two

-- one step, over a bytes of the first and b of the second: it passes the same lines of both; unless they are alike the last of them differs, and no other does
pub record Steps (one two : List ℕ) (a b : ℕ) (r : Passed) : Type 0 where
  pub in_one : a ≤ length one
  pub in_two : b ≤ length two
  pub some : 0 < r.lines
  pub few : r.lines ≤ a + b
  pub past_one : drop a one ≡ after r.lines one
  pub past_two : drop b two ≡ after r.lines two
  pub have_one : 0 < length one → r.lines ≤ size one
  pub have_two : 0 < length two → r.lines ≤ size two
  pub decided : (n : ℕ) → differing (suc n) (take r.lines (lines one)) (take r.lines (lines two)) ≡ unless_same r.alike (n + r.lines) []

-- from p to q it is a step of what is left of both
pub record Advances (one two : List ℕ) (p q : Place) (r : Passed) : Type 0 where
  pub by_one : ℕ
  pub by_two : ℕ
  pub to_one : q.one ≡ p.one + by_one
  pub to_two : q.two ≡ p.two + by_two
  pub steps : Steps (drop p.one one) (drop p.two two) by_one by_two r

-- n was stored at `at`, unless the lines are alike or that isn't below `full`: with any numbers l that follow behind it, all are counted and stored
pub record PutsNumber (room : List ℕ) (at full n : ℕ) (alike : Bool) (after : List ℕ) (r : ℕ) : Type 0 where
  pub as_long : length after ≡ length room
  pub few : r ≤ at + 1
  pub counted : (l : List ℕ) → at + length (unless_same alike n l) ≡ r + length l
  pub stored : (l : List ℕ) → sets room at (take (full - at) (unless_same alike n l)) ≡ sets after r (take (full - r) l)

-- the first `full` numbers were stored, and this is how many there are
pub record StoresDifferences (one two room : List ℕ) (full : ℕ) (after : List ℕ) (r : ℕ) : Type 0 where
  pub count : r ≡ length (differences one two)
  pub stored : after ≡ sets room 0 (take full (differences one two))
  pub as_long : length after ≡ length room

-- the places behind the lines that both logs have
pub record Meets (one two : List ℕ) (r : Place) : Type 0 where
  pub in_one : r.one ≤ length one
  pub in_two : r.two ≤ length two
  pub goes : rest one two ≡ rest (drop r.one one) (drop r.two two)
  pub runs : second_runs_on one two ≡ second_runs_on (drop r.one one) (drop r.two two)
  pub ended : (ltb r.one (length one) && ltb r.two (length two)) ≡ false

-- What the entries promise: the answer with the room, and the rest as a part of the caller's own bytes. Assumes nothing: these are definitions.
use Rattle.std.specs.Prelude.{cond, List, ◌≡◌, ℕ, ◌+◌, ◌-◌, ◌≤◌, length, drop}
use Rattle.compare.specs.Differing.{second_runs_on, rest, Compared}
use Rattle.compare.specs.declared.Found.{Found}

abbrev pub found : ℕ → ℕ → Found
found number count = record { number = number; count = count }

-- the answer and the room are what they should be
pub record TellsCompared (c : Compared) (r : Found) (after : List ℕ) : Type 0 where
  pub number : r.number ≡ c.number
  pub count : r.count ≡ c.count
  pub room : after ≡ c.room

-- the bytes r at the pointer s are the rest of the log that runs on, at the log's own bytes: the first's at p, or the second's at q. A pointer is a block of
-- memory and a place in it
pub record Rests (one : List ℕ) (p : ℕ × ℕ) (two : List ℕ) (q : ℕ × ℕ) (r : List ℕ) (s : ℕ × ℕ) : Type 0 where
  pub bytes : r ≡ rest one two
  pub block : s.0 ≡ cond (second_runs_on one two) q.0 p.0
  pub place : s.1 ≡ cond (second_runs_on one two) ((length two - length r) + q.1) ((length one - length r) + p.1)

-- the log that the rest is of
abbrev pub longer : List ℕ → List ℕ → List ℕ
longer one two = cond (second_runs_on one two) two one

-- the rest is that log's bytes from the place r on, and n the log's number
pub record RestsAt (one two : List ℕ) (n r : ℕ) : Type 0 where
  pub log : n ≡ cond (second_runs_on one two) 2 1
  pub in_log : r ≤ length (longer one two)
  pub bytes : drop r (longer one two) ≡ rest one two

-- The whole lines that two logs begin with, and the part of a log behind so many lines: what the compare program cuts by.
-- Assumes nothing: these are definitions.
use Rattle.std.specs.Prelude.{List, ◌≡◌, ℕ, ◌-◌, ◌≤◌, ◌<◌, length, drop, get_or}
use Rattle.compare.specs.Differing.{after}

-- the first k bytes are the same
pub record Shares (one two : List ℕ) (k : ℕ) : Type 0 where
  pub in_one : k ≤ length one
  pub in_two : k ≤ length two
  pub same : (i : ℕ) → i < k → get_or one i 0 ≡ get_or two i 0

-- and the last of them, if any, ends a line
pub record Whole (one two : List ℕ) (k : ℕ) : Type 0 where
  pub shares : Shares one two k
  pub ends : 0 < k → get_or one (k - 1) 0 ≡ 0x0A

-- and no more of them do
pub record Front (one two : List ℕ) (k : ℕ) : Type 0 where
  pub whole : Whole one two k
  pub longest : (j : ℕ) → Whole one two j → j ≤ k

-- the bytes from the place r on are those after n lines
pub record Behind (log : List ℕ) (n r : ℕ) : Type 0 where
  pub in_log : r ≤ length log
  pub bytes : drop r log ≡ after n log

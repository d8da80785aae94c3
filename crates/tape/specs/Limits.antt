-- What an operation never does, whatever it is given: read outside the table, or write past the bytes stored or the area's end.
-- Assumes nothing: these are statements.
use Rattle.std.specs.Prelude.{List, ◌≡◌, ℕ, ◌≤◌, ◌<◌, ℤ, pos, length, get_or, drop}
use Rattle.tape.specs.declared.Taken.{Taken}

-- the index z is that of a word of the table, and the word is w
pub record Inside (table : List ℕ) (z : ℤ) (w : ℕ) : Type 0 where
  pub place : ℕ
  pub at : z ≡ pos place
  pub below : place < length table
  pub word : w ≡ get_or table place 0

-- of an answer on this tape and area: no more was stored than was read, than there is of tape, and than there is room; the area is no longer
-- and no shorter, and past the bytes stored it is as it was
pub record Keeps (tape area : List ℕ) (r : Taken) (after : List ℕ) : Type 0 where
  pub fewer : r.stored ≤ r.read
  pub within : r.read ≤ length tape
  pub room : r.stored ≤ length area
  pub size : length after ≡ length area
  pub rest : drop r.stored after ≡ drop r.stored area

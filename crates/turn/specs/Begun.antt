-- The line begun, and the bytes of a block that are of it. Assumes nothing: these are definitions.
use Rattle.std.specs.Prelude.{List, [], ◌∷◌, ◌++◌, ◌≡◌, ℕ, suc, ◌≤◌, eqb, length, take}
use Rattle.machine.specs.Queue.{if}
use Rattle.turn.specs.InWords.{Stored}

-- how many bytes of a block come before the first end of a line
unfoldable pub before_end : List ℕ → ℕ
before_end [] = 0
before_end (c ∷ l) = if (eqb c 0x0A) 0 (suc (before_end l))

-- the line begun has n bytes, of which its buffer has no more than 27: over 26 are of another shape, whatever they are
abbrev pub Begun : List ℕ → List ℕ → ℕ → Type 0
Begun begun line n = Stored 26 1 begun line n

-- the bytes taken, so many of the block, are of the line begun
pub record Takes (line after : List ℕ) (n m : ℕ) (block : List ℕ) (taken : ℕ) : Type 0 where
  pub few : m ≤ 27
  pub within : taken ≤ length block
  pub stored : (begun : List ℕ) → Begun begun line n → Begun (begun ++ take taken block) after m

-- and they are all up to its end
pub record Fills (line after : List ℕ) (n m : ℕ) (block : List ℕ) (taken : ℕ) : Type 0 where
  pub takes : Takes line after n m block taken
  pub all : taken ≡ before_end block

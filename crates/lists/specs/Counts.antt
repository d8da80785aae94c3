-- Tests over the numbers 1 to n: how many pass, and whether all do. Assumes nothing: these are definitions.
use Rattle.std.specs.Prelude.{Bool, true, false, ◌&&◌, ℕ, zero, suc, ◌+◌}

-- 1 for true
abbrev pub bit : Bool → ℕ
bit true = 1
bit false = 0

-- how many of 1 to n pass f
unfoldable pub count : (ℕ → Bool) → ℕ → ℕ
count f zero = 0
count f (suc n) = count f n + bit (f (suc n))

-- all of 1 to n pass f
unfoldable pub all : (ℕ → Bool) → ℕ → Bool
all f zero = true
all f (suc n) = all f n && f (suc n)

-- What docs/MONITOR.md, 17.4 says of the numbers, in another way than by computing them. Assumes nothing: these are definitions.
use mathlib.Core.List.{List, [], ◌∷◌, Memᴰ}
use Rattle.std.specs.Prelude.{◌≡◌, ℕ, suc, ◌+◌, ◌≤◌}
use Rattle.std.proofs.Math.ListN.{get_elem?}
use Rattle.compare.specs.Differing.{lines, differences}

-- "each once, rising": each is n at least, and above the one before it
abbrev pub Rises : ℕ → List ℕ → Type 0
Rises n [] = Unit {0}
Rises n (x ∷ l) = (n ≤ x) × Rises (suc x) l

-- line number k + 1 is another in the two logs, or one has it and the other hasn't
abbrev pub Differs : List ℕ → List ℕ → ℕ → Type 0
Differs one two k = get_elem? (lines one) k ≡ get_elem? (lines two) k → ⊥

-- the numbers rise from 1, and are exactly those of the lines that differ
pub record Exact (one two : List ℕ) : Type 0 where
  pub rising : Rises 1 (differences one two)
  pub all : (k : ℕ) → Differs one two k → Memᴰ (1 + k) (differences one two)
  pub only : (k : ℕ) → Memᴰ (1 + k) (differences one two) → Differs one two k

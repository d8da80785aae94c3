-- docs/MONITOR.md, 2: "words beyond are neither read nor changed". Two tables that differ beyond the used length only. Assumes nothing: these are definitions.
use Rattle.std.specs.Prelude.{List, ◌≡◌, ℕ, ◌≤◌, ◌<◌, length, get_or}
use Rattle.machine.specs.Words.{size}
use Rattle.machine.specs.Sound.{P_of, B_of, S_of}

-- "Length used", by the table's own words 0, 1 and 5
abbrev pub used : List ℕ → ℕ
used t = size (P_of t) (B_of t) (S_of t)

-- t and t' have at least the length used by t, and the same words up to it
pub record SameUsed (t t' : List ℕ) : Type 0 where
  pub long : used t ≤ length t
  pub long' : used t ≤ length t'
  pub same : (i : ℕ) → i < used t → get_or t i 0 ≡ get_or t' i 0

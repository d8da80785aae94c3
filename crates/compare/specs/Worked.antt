-- A few pairs of logs, by computation. Assumes nothing.
use Rattle.std.specs.Prelude.{List, [], ◌∷◌, ◌≡◌, refl, ℕ}
use Rattle.text.specs.Cut.{cut}
use Rattle.compare.specs.Differing.{same, differing, after, second_runs_on, rest, compared, Compared}

-- the bytes A, B and the line's end
abbrev A : ℕ
A = 0x41

abbrev B : ℕ
B = 0x42

abbrev end : ℕ
end = 0x0A

abbrev so : ℕ → ℕ → List ℕ → Compared
so number count room = record { number = number; count = count; room = room }

pub record Worked : Type 0 where
  -- "the last may lack its own": A, B and A, B are the same lines
  pub equal : compared (A ∷ end ∷ B ∷ end ∷ []) (A ∷ end ∷ B ∷ []) (7 ∷ []) ≡ so 0 0 (7 ∷ [])
  -- the second of three lines differs, and the room's end stays
  pub second : compared (A ∷ end ∷ A ∷ end ∷ A ∷ end ∷ []) (A ∷ end ∷ B ∷ A ∷ end ∷ A ∷ end ∷ []) (7 ∷ 8 ∷ []) ≡ so 0 1 (2 ∷ 8 ∷ [])
  -- an empty line isn't an absent one: both lines of the longer log are absent in the other, which has none
  pub absent : compared [] (end ∷ B ∷ []) (7 ∷ 8 ∷ 9 ∷ []) ≡ so 0 2 (1 ∷ 2 ∷ 9 ∷ [])
  pub empty : compared (end ∷ []) (A ∷ []) (7 ∷ []) ≡ so 0 1 (1 ∷ [])
  -- "14, fewer words than numbers, leaves the room unchanged, count 0"
  pub short : compared (A ∷ end ∷ B ∷ []) [] (7 ∷ []) ≡ so 14 0 (7 ∷ [])
  -- the rest of the first, of the second, of neither
  pub first_runs_on : rest (A ∷ end ∷ B ∷ end ∷ A ∷ []) (B ∷ []) ≡ B ∷ end ∷ A ∷ []
  pub second_runs_on : rest (A ∷ []) (B ∷ B ∷ end ∷ end ∷ []) ≡ end ∷ []
  pub neither : rest (A ∷ end ∷ []) (B ∷ []) ≡ []

pub worked : Worked
unfolding cut same differing after second_runs_on rest compared
worked = record { equal = refl; second = refl; absent = refl; empty = refl; short = refl; first_runs_on = refl; second_runs_on = refl; neither = refl }

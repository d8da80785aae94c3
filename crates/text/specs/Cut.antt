-- docs/MONITOR.md, 15: bytes cut into lines. Assumes nothing: this is a definition.
use Rattle.std.specs.Prelude.{cond, List, [], ◌∷◌, ◌++◌, ℕ, eqb}

-- the lines of a text, of whose first the bytes `begun` were read: each "ends in the byte 0A hex; the last input line may lack it"
unfoldable pub cut : List ℕ → List ℕ → List (List ℕ)
cut [] [] = []
cut (x ∷ begun) [] = (x ∷ begun) ∷ []
cut begun (c ∷ l) = cond (eqb c 0x0A) (begun ∷ cut [] l) (cut (begun ++ (c ∷ [])) l)

-- The run byte by byte, as a program reads it: what each byte of the input does to the line begun, that a line too long is of another
-- shape however it goes on, and that a line which isn't is digits, of which none ends it. Assumes nothing.
use mathlib.Core.Bool.{Bool, true, false, ◌&&◌}
use mathlib.Core.List.{List, [], ◌∷◌, ◌++◌}
use mathlib.Core.Logic.{⊎_elim}
use mathlib.Core.Path.{◌≡◌, refl}
use Prim.Native.Nat.{ℕ, ◌<◌}
use native.Mathlib.Omega.{arith}
use lib.ListN.{length}
use lib.Dec.{eqb}
use borrow.Author.Tests.{ne_eqb}
use Rattle.text.specs.Cut.{cut}
use Rattle.lists.proofs.Tests.{and_true}
use Rattle.lines.specs.Digits.{is_digit, all_digits}
use Rattle.lines.specs.Line.{shape, Other}
use Rattle.lines.specs.declared.Parsed.TheVariants.{Other as Neither}
use Rattle.lines.specs.Promise.{numbers}
use Rattle.lines.specs.Replay.{State, next, last, run}
use Rattle.lines.proofs.Values.{digit_tells}

-- a byte that ends the line begun
pub run_ends : (s : State) (begun l : List ℕ) → run s (cut begun (0x0A ∷ l)) ≡ (next s begun).output ++ run (next s begun).state (cut [] l)
unfolding run cut
run_ends s [] l = refl
run_ends s (x ∷ begun) l = refl

-- any other byte
pub run_goes : (s : State) (begun : List ℕ) (c : ℕ) (l : List ℕ) → (c ≡ 0x0A → ⊥) → run s (cut begun (c ∷ l)) ≡ run s (cut (begun ++ (c ∷ [])) l)
unfolding cut
run_goes s [] c l n = rw (ne_eqb c 0x0A n)
run_goes s (x ∷ begun) c l n = rw (ne_eqb c 0x0A n)

-- the end of the input: after the end of a line, and in a line that lacks it
pub run_stops : (s : State) → run s (cut [] []) ≡ last s
unfolding run cut
run_stops s = refl

pub run_stops_in_line : (s : State) (x : ℕ) (begun : List ℕ) → run s (cut (x ∷ begun) []) ≡ (next s (x ∷ begun)).output ++ last (next s (x ∷ begun)).state
unfolding run cut
run_stops_in_line s x begun = refl

-- a line of more than 26 bytes
pub line_too_long : (l : List ℕ) → 26 < length l → shape l ≡ Other
unfolding shape
line_too_long l h = rw (ne_eqb (length l) 26 (λ e. omega arith))

-- a line of no other shape
pub digits_unless_other : (l : List ℕ) → (numbers (shape l) ≡ Neither → ⊥) → all_digits l ≡ true
unfolding shape
digits_unless_other l n = go (eqb (length l) 26 && all_digits l) refl
  where
    go : (t : Bool) → eqb (length l) 26 && all_digits l ≡ t → all_digits l ≡ true
    go true e = (and_true {a = eqb (length l) 26} e).1
    go false e = absurd (n (rw e refl))

pub digit_goes : (c : ℕ) → is_digit c ≡ true → c ≡ 0x0A → ⊥
digit_goes c e z = ⊎_elim (λ h. omega arith) (λ h. omega arith) ((digit_tells c).holds e)

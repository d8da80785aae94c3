-- The lines of a listing, one row more at a time, and how many rows follow an answer. Assumes nothing.
use mathlib.Core.List.{List, [], ◌∷◌, ◌++◌, append-nil, append_assoc}
use mathlib.Core.Path.{◌≡◌, refl, sym, ap, ◌∙◌}
use Prim.Native.Nat.{ℕ, zero, suc, ◌+◌, ◌*◌, ◌≤◌}
use native.Mathlib.Omega.{arith}
use lib.ListN.{length, take, get_or, length-append}
use Rattle.machine.specs.Machine.{Words, four}
use Rattle.machine.specs.Refusal.{row_width}
use Rattle.lines.specs.Line.{row_line, row_bytes, ended}
use Rattle.lines.specs.Replay.{row_lines}
use Rattle.lines.specs.Promise.{Put, Wrote}
use Rattle.lines.proofs.Stores.{behind, row_length}

-- row k of the room: its four words, and the age behind them
abbrev pub row_at : List ℕ → ℕ → Words
row_at room k =
    let i = row_width * k in
    four (get_or room i 0) (get_or room (i + 1) 0) (get_or room (i + 2) 0) (get_or room (i + 3) 0)

abbrev pub age_at : List ℕ → ℕ → ℕ
age_at room k = get_or room (row_width * k + 4) 0

abbrev pub line_at : List ℕ → ℕ → List ℕ
line_at room k = row_line (row_at room k) (age_at room k)

-- the lines of the first k rows in the room
abbrev pub first_lines : ℕ → List ℕ → List ℕ
first_lines k room = row_lines (take (row_width * k) room)

pub no_lines : (room : List ℕ) → first_lines 0 room ≡ []
unfolding row_lines
no_lines room = refl

pub more_lines : (room : List ℕ) (k : ℕ) → row_width * k + row_width ≤ length room → first_lines (k + 1) room ≡ first_lines k room ++ ended (line_at room k)
unfolding row_lines
more_lines [] k h = absurd (omega arith)
more_lines (x ∷ []) k h = absurd (omega arith)
more_lines (x ∷ y ∷ []) k h = absurd (omega arith)
more_lines (x ∷ y ∷ z ∷ []) k h = absurd (omega arith)
more_lines (x ∷ y ∷ z ∷ w ∷ []) k h = absurd (omega arith)
more_lines (x ∷ y ∷ z ∷ w ∷ a ∷ l) zero h = append-nil (ended (row_line (four x y z w) a))
more_lines (x ∷ y ∷ z ∷ w ∷ a ∷ l) (suc k) h =
    let e : row_width * (suc k + 1) ≡ suc (suc (suc (suc (suc (row_width * (k + 1)))))) = omega arith in
    let e₁ : row_width * suc k + 1 ≡ suc (suc (suc (suc (suc (row_width * k + 1))))) = omega arith in
    let e₂ : row_width * suc k + 2 ≡ suc (suc (suc (suc (suc (row_width * k + 2))))) = omega arith in
    let e₃ : row_width * suc k + 3 ≡ suc (suc (suc (suc (suc (row_width * k + 3))))) = omega arith in
    let e₄ : row_width * suc k + 4 ≡ suc (suc (suc (suc (suc (row_width * k + 4))))) = omega arith in
    let e₀ : row_width * suc k ≡ suc (suc (suc (suc (suc (row_width * k))))) = omega arith in
    let first = ended (row_line (four x y z w) a) in
    rw (e, e₁, e₂, e₃, e₄, e₀)
    (ap (λ (r : List ℕ). first ++ r) (more_lines l k (omega arith)) ∙ sym (append_assoc first (first_lines k l) (ended (line_at l k))))

pub lines_length : (room : List ℕ) (k : ℕ) → row_width * k ≤ length room → length (first_lines k room) ≡ row_bytes * k
lines_length room zero h = ap length (no_lines room)
lines_length room (suc k) h =
    let e : suc k ≡ k + 1 = omega arith in
    rw (e, more_lines room k (omega arith), length-append (first_lines k room) (ended (line_at room k)), row_length (row_at room k) (age_at room k))
    (omega (arith, lines_length room k (omega arith)))

-- one line more behind those that were put in
pub rows_more : {before out after : List ℕ} {at next place : ℕ} (room : List ℕ) (k : ℕ) → row_width * k + row_width ≤ length room → next ≡ at + row_bytes * k
    → Put before at (first_lines k room) out → Wrote out next (line_at room k) after place
    → (place ≡ at + row_bytes * (k + 1)) × Put before at (first_lines (k + 1) room) after
rows_more room k h e p w = (
  omega (arith, w.place, row_length (row_at room k) (age_at room k)),
  rw (more_lines room k h) (behind p w.put (omega (arith, lines_length room k (omega arith)))),
)

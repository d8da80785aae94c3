-- Bytes put in one behind the other, zeros, and the lengths of the lines of output. Assumes nothing.
use mathlib.Core.Bool.{true}
use mathlib.Core.List.{List, [], ◌∷◌, ◌++◌}
use mathlib.Core.Path.{◌≡◌, refl, ◌∙◌}
use Prim.Native.Nat.{ℕ, ◌+◌}
use lib.ListN.{length, set, replicate, length-replicate, replicate-append-replicate}
use lib.Dec.{eqb}
use borrow.Author.Tests.{eqb-true}
use Rattle.machine.specs.Machine.{Words}
use Rattle.machine.specs.Step.{Answer}
use Rattle.lists.proofs.Tests.{and_true}
use Rattle.lists.proofs.Numbers.{sets_append}
use Rattle.lines.specs.Digits.{digit, digits}
use Rattle.lines.specs.Line.{all_zero, word_digits, answer_line, answer_bytes, row_line, row_bytes, other_line, ended}
use Rattle.lines.specs.Promise.{Put}

-- bytes put behind bytes that were put in before
pub behind : {s t u a b : List ℕ} {i j : ℕ} → Put s i a t → Put t j b u → j ≡ i + length a → Put s i (a ++ b) u
behind {s} {t} {u} {a} {b} {i} {j} e f h = record { bytes = f.bytes ∙ rw (e.bytes, h) (sets_append s i a b) }

-- one store
pub one : (s : List ℕ) (i : ℕ) {x y : ℕ} → y ≡ x → Put s i (x ∷ []) (set s i y)
one s i e = record { bytes = rw e }

-- zeros, one more at a time, and the four words that they are
pub zeros_put : {s t : List ℕ} {at : ℕ} (i : ℕ) → Put s at (replicate i 0x30) t → Put s at (replicate (i + 1) 0x30) (set t (at + i) 0x30)
zeros_put {t = t} {at} i p = rw (← replicate-append-replicate {A = ℕ} i 1 0x30) (behind p (one t (at + i) refl) (rw length-replicate refl))

pub zero_digits : (ws : Words) → all_zero ws ≡ true → word_digits ws ≡ replicate 16 0x30
unfolding digits digit
zero_digits ws e =
    let (z₀, e₁) = and_true {a = eqb ws.w₀ 0} e in
    let (z₁, e₂) = and_true {a = eqb ws.w₁ 0} e₁ in
    let (z₂, z₃) = and_true {a = eqb ws.w₂ 0} e₂ in
    rw (eqb-true ws.w₀ 0 z₀, eqb-true ws.w₁ 0 z₁, eqb-true ws.w₂ 0 z₂, eqb-true ws.w₃ 0 z₃) refl

-- ---- how long the lines of output are, with their ends
pub answer_length : (r : Answer) → length (ended (answer_line r)) ≡ answer_bytes
unfolding digits
answer_length r = refl

pub row_length : (ws : Words) (age : ℕ) → length (ended (row_line ws age)) ≡ row_bytes
unfolding digits
row_length ws age = refl

pub other_length : length (ended other_line) ≡ 3
unfolding digits
other_length = refl

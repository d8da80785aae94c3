-- Where neither log runs on the rest is the empty part of the first; there are at most as many numbers as the longer log has lines. Assumes nothing.
use mathlib.Core.List.{List, [], ◌∷◌}
use mathlib.Core.Path.{◌≡◌, refl, sym, ap, ◌∙◌}
use Prim.Native.Nat.{ℕ, suc, ◌+◌, ◌-◌, ◌≤◌, max}
use native.Mathlib.Omega.{arith}
use lib.ListN.{length, length-drop}
use borrow.Author.Tests.{le-ltb, le-leb}
use Rattle.compare.specs.Differing.{lines, same, differing, differences, compared, after, size, second_runs_on, rest}
use Rattle.compare.specs.Answer.{TellsCompared, Rests}
use Rattle.compare.specs.declared.Found.{Found}
use Rattle.compare.proofs.Tests.{tested}
use Rattle.compare.proofs.Lines.{lines_some, after_lines}

no_bytes : (l : List ℕ) → length (lines l) ≡ 0 → l ≡ []
no_bytes [] e = refl
no_bytes (c ∷ l) e = absurd (omega (arith, sym (ap length (lines_some c l)) ∙ e))

pub neither : (one two : List ℕ) → size one ≡ size two → rest one two ≡ []
unfolding rest second_runs_on
neither one two e =
    rw (le-ltb (size one) (size two) (omega arith))
    (no_bytes (after (size two) one) (omega (arith, ap length (after_lines (size two) one), length-drop (size two) (lines one))))

-- the part that `rest` hands back is then the empty end of the first log
pub neither_rests : {one two r : List ℕ} {p q s : ℕ × ℕ} → size one ≡ size two → Rests one p two q r s → (r ≡ []) × ((s.0 ≡ p.0) × (s.1 ≡ length one + p.1))
unfolding second_runs_on
neither_rests {one} {two} e h =
    let n = h.bytes ∙ neither one two e in
    let f = le-ltb (size one) (size two) (omega arith) in
    let e : length one - length {A = ℕ} [] ≡ length one = omega arith in
    (n, (h.block ∙ rw f, h.place ∙ rw (f, n, e)))

-- ---- "A room of as many words as the longer log has lines is always enough" (compare.h)
few : (n : ℕ) (k l : List (List ℕ)) → length (differing n k l) ≤ max (length k) (length l)
unfolding differing
few n [] [] = omega arith
few n [] (b ∷ l) = omega (arith, few (suc n) [] l)
few n (a ∷ k) [] = omega (arith, few (suc n) k [])
few n (a ∷ k) (b ∷ l) =
    tested {C = length (differing n (a ∷ k) (b ∷ l)) ≤ max (length (a ∷ k)) (length (b ∷ l))} (same a b)
    (λ t. rw t (omega (arith, few (suc n) k l))) (λ t. rw t (omega (arith, few (suc n) k l)))

pub few_numbers : (one two : List ℕ) → length (differences one two) ≤ max (size one) (size two)
few_numbers one two = few 1 (lines one) (lines two)

pub room_enough : (one two room : List ℕ) {after : List ℕ} {r : Found} → max (size one) (size two) ≤ length room → TellsCompared (compared one two room) r after
    → r.number ≡ 0
unfolding compared
room_enough one two room h a = a.number ∙ rw (le-leb (length (differences one two)) (length room) (omega (arith, few_numbers one two)))

-- The lines of a log, and the bytes after so many of them. Assumes nothing.
use mathlib.Core.List.{List, [], ◌∷◌, ◌++◌, append-nil, append_assoc}
use mathlib.Core.Path.{◌≡◌, refl, sym, ap, ◌∙◌}
use Prim.Native.Nat.{ℕ, zero, suc, ◌+◌, ◌-◌, ◌≤◌}
use native.Mathlib.Nat.{zero-add}
use native.Mathlib.Omega.{arith}
use lib.Dec.{eqb}
use lib.ListN.{length, drop, length-drop}
use Rattle.text.specs.Cut.{cut}
use Rattle.compare.specs.Differing.{lines, after, size}
use Rattle.compare.specs.Promise.{first_line, line_size}
use Rattle.compare.proofs.Tests.{tested}

-- behind the first line
abbrev pub next : List ℕ → List ℕ
next l = drop (line_size l) l

-- ---- the lines
cut_more : (a : ℕ) (begun l : List ℕ) → cut (a ∷ begun) l ≡ ((a ∷ begun) ++ first_line l) ∷ cut [] (next l)
unfolding cut first_line line_size
cut_more a begun [] = rw (append-nil begun)
cut_more a begun (c ∷ l) =
    tested {C = cut (a ∷ begun) (c ∷ l) ≡ ((a ∷ begun) ++ first_line (c ∷ l)) ∷ cut [] (next (c ∷ l))} (eqb c 0x0A)
    (λ t. rw (t, append-nil begun))
    (λ t. rw t (cut_more a (begun ++ (c ∷ [])) l ∙ rw (append_assoc begun (c ∷ []) (first_line l))))

pub lines_none : lines [] ≡ []
unfolding cut
lines_none = refl

pub lines_some : (c : ℕ) (l : List ℕ) → lines (c ∷ l) ≡ first_line (c ∷ l) ∷ lines (next (c ∷ l))
unfolding cut first_line line_size
lines_some c l =
    tested {C = lines (c ∷ l) ≡ first_line (c ∷ l) ∷ lines (next (c ∷ l))} (eqb c 0x0A) (λ t. rw t) (λ t. rw t (cut_more c [] l))

-- ---- the bytes after so many lines
pub after_more : (k : ℕ) (l : List ℕ) → after (suc k) l ≡ after k (next l)
unfolding after line_size
after_more zero [] = refl
after_more (suc k) [] = refl
after_more k (c ∷ l) = tested {C = after (suc k) (c ∷ l) ≡ after k (next (c ∷ l))} (eqb c 0x0A) (λ t. rw t) (λ t. rw t (after_more k l))

-- their lines are the lines after the k-th
pub after_lines : (k : ℕ) (l : List ℕ) → lines (after k l) ≡ drop k (lines l)
unfolding after
after_lines zero l = refl
after_lines (suc k) [] = rw lines_none
after_lines (suc k) (c ∷ l) = ap lines (after_more k (c ∷ l)) ∙ after_lines k (next (c ∷ l)) ∙ rw (lines_some c l)

pub after_size : (k : ℕ) (l : List ℕ) → k ≤ size l → size l ≡ k + size (after k l)
after_size k l h = omega (arith, ap length (after_lines k l), length-drop k (lines l))

-- after k lines, and after m more
pub after_after : (k m : ℕ) (l : List ℕ) → after (k + m) l ≡ after m (after k l)
unfolding after
after_after zero m l = rw (zero-add m)
after_after (suc k) m l =
    let e : suc k + m ≡ suc (k + m) = omega arith in
    rw e (after_more (k + m) l ∙ after_after k m (next l) ∙ ap (after m) (sym (after_more k l)))

-- they are the log's own last ones
after_few : (k : ℕ) (l : List ℕ) → length (after k l) ≤ length l
unfolding after
after_few zero l = omega arith
after_few (suc k) [] = omega arith
after_few (suc k) (c ∷ l) =
    tested {C = length (after (suc k) (c ∷ l)) ≤ length (c ∷ l)} (eqb c 0x0A) (λ t. rw t (omega (arith, after_few k l)))
    (λ t. rw t (omega (arith, after_few (suc k) l)))

pub after_part : (k : ℕ) (l : List ℕ) → after k l ≡ drop (length l - length (after k l)) l
unfolding after
after_part zero l = let e : length l - length l ≡ 0 = omega arith in rw e
after_part (suc k) [] = refl
after_part (suc k) (c ∷ l) =
    tested {C = after (suc k) (c ∷ l) ≡ drop (length (c ∷ l) - length (after (suc k) (c ∷ l))) (c ∷ l)} (eqb c 0x0A)
    (λ t. let e : suc (length l) - length (after k l) ≡ suc (length l - length (after k l)) = omega (arith, after_few k l) in rw (t, e) (after_part k l))
    (λ t. let e : suc (length l) - length (after (suc k) l) ≡ suc (length l - length (after (suc k) l)) = omega (arith, after_few (suc k) l) in
    rw (t, e) (after_part (suc k) l))

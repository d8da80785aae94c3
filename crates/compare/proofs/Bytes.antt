-- The first lines of two logs, one byte more at a time. Assumes nothing.
use mathlib.Core.Bool.{Bool, true, ◌&&◌}
use mathlib.Core.List.{List, [], ◌∷◌}
use mathlib.Core.Path.{◌≡◌, refl, ap, ◌∙◌}
use Prim.Native.Nat.{ℕ, suc, ◌+◌, ◌-◌, ◌≤◌, ◌<◌, min}
use native.Mathlib.Numerals.{add-one}
use native.Mathlib.Omega.{arith}
use lib.Dec.{eqb, leb}
use lib.ListN.{length, take, drop, get_or, length-drop, drop_of_length-le}
use lib.Seq.{drop-cons, take_all}
use borrow.Author.Tests.{eq-eqb, ne_eqb, eqb-false, leb-true, leb-false}
use Rattle.compare.proofs.Tests.{tested}
use Rattle.compare.specs.Differing.{same}
use Rattle.compare.specs.Promise.{first_line, line_size, at_end, Runs}

-- ---- how many bytes it has
module _ (l : List ℕ) (i : ℕ) where
  pub size_ends : length l ≤ i → line_size (drop i l) ≡ 0
  unfolding line_size
  size_ends h = rw (drop_of_length-le l h)

  pub size_stops : i < length l → get_or l i 0 ≡ 0x0A → line_size (drop i l) ≡ 1
  unfolding line_size
  size_stops h e = rw (drop-cons l i 0 h, eq-eqb (get_or l i 0) 0x0A e)

  pub size_goes : i < length l → (get_or l i 0 ≡ 0x0A → ⊥) → line_size (drop i l) ≡ 1 + line_size (drop (i + 1) l)
  unfolding line_size
  size_goes h n =
      let e : line_size (drop i l) ≡ suc (line_size (drop (i + 1) l)) = rw (drop-cons l i 0 h, ne_eqb (get_or l i 0) 0x0A n, add-one) in
      omega arith

-- it fits, and has a byte where there is one
pub size_fits : (l : List ℕ) → line_size l ≤ length l
unfolding line_size
size_fits [] = omega arith
size_fits (c ∷ l) = tested {C = line_size (c ∷ l) ≤ length (c ∷ l)} (eqb c 0x0A) (λ t. rw t (omega arith)) (λ t. rw t (omega (arith, size_fits l)))

pub size_in : (l : List ℕ) {a : ℕ} → a ≡ line_size l → a ≤ length l
size_in l e = omega (arith, size_fits l)

pub size_some : (c : ℕ) (l : List ℕ) → 1 ≤ line_size (c ∷ l)
unfolding line_size
size_some c l = tested {C = 1 ≤ line_size (c ∷ l)} (eqb c 0x0A) (λ t. rw t (omega arith)) (λ t. rw t (omega arith))

-- ---- whether they are the same
abbrev Same : List ℕ → List ℕ → Bool
Same one two = same (first_line one) (first_line two)

abbrev Ends : List ℕ → List ℕ → Bool
Ends one two = at_end one && at_end two

-- where one of them has no byte left
none_one : (two : List ℕ) → Same [] two ≡ Ends [] two
unfolding same first_line at_end
none_one [] = refl
none_one (b ∷ l) = tested {C = Same [] (b ∷ l) ≡ Ends [] (b ∷ l)} (eqb b 0x0A) (λ t. rw t) (λ t. rw t)

none_two : (one : List ℕ) → Same one [] ≡ Ends one []
unfolding same first_line at_end
none_two [] = refl
none_two (a ∷ k) = tested {C = Same (a ∷ k) [] ≡ Ends (a ∷ k) []} (eqb a 0x0A) (λ t. rw t) (λ t. rw t)

-- where the bytes differ, or end the lines
some_both : (a b : ℕ) (k l : List ℕ) → (a ≡ b → a ≡ 0x0A) → Same (a ∷ k) (b ∷ l) ≡ Ends (a ∷ k) (b ∷ l)
unfolding same first_line at_end
some_both a b k l h =
    tested {C = Same (a ∷ k) (b ∷ l) ≡ Ends (a ∷ k) (b ∷ l)} (eqb a 0x0A)
    (λ t. tested {C = Same (a ∷ k) (b ∷ l) ≡ Ends (a ∷ k) (b ∷ l)} (eqb b 0x0A) (λ u. rw (t, u)) (λ u. rw (t, u)))
    (λ t. tested {C = Same (a ∷ k) (b ∷ l) ≡ Ends (a ∷ k) (b ∷ l)} (eqb b 0x0A) (λ u. rw (t, u))
    (λ u. rw (t, u, ne_eqb a b (λ e. eqb-false a 0x0A t (h e)))))

module _ (one two : List ℕ) (i : ℕ) where
  decided_one : length one ≤ i → Same (drop i one) (drop i two) ≡ Ends (drop i one) (drop i two)
  decided_one h = rw (drop_of_length-le one h) (none_one (drop i two))

  decided_two : length two ≤ i → Same (drop i one) (drop i two) ≡ Ends (drop i one) (drop i two)
  decided_two h = rw (drop_of_length-le two h) (none_two (drop i one))

  -- at the end of the shorter
  pub decided_end : i ≡ min (length one) (length two) → Same (drop i one) (drop i two) ≡ Ends (drop i one) (drop i two)
  decided_end e =
      tested {C = Same (drop i one) (drop i two) ≡ Ends (drop i one) (drop i two)} (leb (length one) i) (λ t. decided_one (leb-true (length one) i t))
      (λ t. let h = leb-false (length one) i t in decided_two (omega arith))

  pub decided_both : i < length one → i < length two → (get_or one i 0 ≡ get_or two i 0 → get_or one i 0 ≡ 0x0A)
      → Same (drop i one) (drop i two) ≡ Ends (drop i one) (drop i two)
  decided_both g h e = rw (drop-cons one i 0 g, drop-cons two i 0 h) (some_both (get_or one i 0) (get_or two i 0) (drop (suc i) one) (drop (suc i) two) e)

  -- a byte that is the same, and ends no line
  pub same_goes : i < length one → i < length two → get_or one i 0 ≡ get_or two i 0 → (get_or one i 0 ≡ 0x0A → ⊥)
      → Same (drop i one) (drop i two) ≡ Same (drop (i + 1) one) (drop (i + 1) two)
  unfolding same first_line
  same_goes g h e n =
      rw (drop-cons one i 0 g, drop-cons two i 0 h, add-one, ← e, ne_eqb (get_or one i 0) 0x0A n, eq-eqb (get_or one i 0) (get_or one i 0) refl)

-- ---- the first i bytes were the same, and of the first lines
pub record Gone (one two : List ℕ) (i : ℕ) : Type 0 where
  pub in_one : i ≤ length one
  pub in_two : i ≤ length two
  pub size_one : line_size one ≡ i + line_size (drop i one)
  pub size_two : line_size two ≡ i + line_size (drop i two)
  pub goes : Same one two ≡ Same (drop i one) (drop i two)

pub gone_more : {one two : List ℕ} {i : ℕ} → Gone one two i → i < length one → i < length two → get_or one i 0 ≡ get_or two i 0 → (get_or one i 0 ≡ 0x0A → ⊥)
    → Gone one two (i + 1)
gone_more {one} {two} {i} g h k e n =
    record {
      in_one = omega arith;
      in_two = omega arith;
      size_one = omega (arith, g.size_one, size_goes one i h n);
      size_two = omega (arith, g.size_two, size_goes two i k (λ z. n (e ∙ z)));
      goes = g.goes ∙ same_goes one two i h k e n;
    }

pub gone_runs : {one two : List ℕ} {i : ℕ} → Gone one two i → Same (drop i one) (drop i two) ≡ Ends (drop i one) (drop i two) → Runs one two i
gone_runs g e = record { in_one = g.in_one; in_two = g.in_two; size_one = g.size_one; size_two = g.size_two; decided = g.goes ∙ e }

pub none_end : (l : List ℕ) → length l < 1 → true ≡ at_end l
unfolding at_end
none_end [] e = refl
none_end (c ∷ l) e = absurd (omega arith)

pub some_end : (l : List ℕ) → 1 ≤ length l → eqb (get_or l 0 0) 0x0A ≡ at_end l
unfolding at_end
some_end [] h = absurd (omega arith)
some_end (c ∷ l) h = refl

-- ---- the part of a slice from k on, as the code has it
abbrev pub from : ℕ → List ℕ → List ℕ
from k l = take (length l - k) (drop k l)

pub from_is : (k : ℕ) (l : List ℕ) → from k l ≡ drop k l
from_is k l = take_all (length l - k) (drop k l) (rw (length-drop k l) (omega arith))

pub from_length : (l : List ℕ) (k : ℕ) → length (from k l) ≡ length l - k
from_length l k = ap length (from_is k l) ∙ length-drop k l

-- so each size fits
pub run_fits : (l : List ℕ) (k : ℕ) {a : ℕ} → line_size l ≡ k + line_size (drop k l) → a ≡ line_size (from k l) → k + a ≤ length l
run_fits l k {a} r e = let g : a ≡ line_size (drop k l) = rw (e, from_is k l) in omega (arith, size_fits l, r)

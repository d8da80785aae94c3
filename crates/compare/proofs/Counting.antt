-- Line ends counted, and a log's lines by them. Assumes nothing.
use mathlib.Core.Bool.{Bool, true, false, not, cond}
use mathlib.Core.List.{List, [], ◌∷◌, ◌++◌}
use mathlib.Core.Path.{◌≡◌, refl, ap, ◌∙◌}
use Prim.Native.Nat.{ℕ, suc, ◌+◌, ◌-◌, ◌≤◌, ◌<◌}
use native.Mathlib.Numerals.{add-one}
use native.Mathlib.Omega.{arith}
use lib.Dec.{eqb}
use lib.ListN.{length, take, drop, get_or, drop_of_length-le}
use lib.Seq.{drop-cons}
use mir.Val.{bool_byte}
use Rattle.std.proofs.lemmas.List.{take-append-drop, drop-drop}
use borrow.Author.Tests.{eq-eqb, ne_eqb}
use Rattle.text.specs.Cut.{cut}
use Rattle.compare.specs.Differing.{size}
use Rattle.compare.specs.Promise.{some, mark, ends}
use Rattle.compare.proofs.Tests.{tested}

pub mark_few : (c : ℕ) → mark c ≤ 1
mark_few c = tested {C = mark c ≤ 1} (eqb c 0x0A) (λ t. rw t (omega arith)) (λ t. rw t (omega arith))

-- the test of a byte as a number
pub byte_marks : (c : ℕ) → bool_byte (eqb c 0x0A) ≡ mark c
byte_marks c = tested {C = bool_byte (eqb c 0x0A) ≡ mark c} (eqb c 0x0A) (λ t. rw t) (λ t. rw t)

-- the ends of a log are those of its first bytes and of the others
ends_joined : (k l : List ℕ) → ends (k ++ l) ≡ ends k + ends l
unfolding ends
ends_joined [] l = omega arith
ends_joined (c ∷ k) l = omega (arith, ends_joined k l)

ends_cut : (n : ℕ) (l : List ℕ) → ends l ≡ ends (take n l) + ends (drop n l)
ends_cut n l = rw (← ends_joined (take n l) (drop n l), take-append-drop n l)

-- from `at` on there are those up to `end`, and those from there
pub ends_part : (log : List ℕ) {at end r : ℕ} → at ≤ end → r ≡ ends (take (end - at) (drop at log)) → ends (drop at log) ≡ r + ends (drop end log)
ends_part log {at} {end} {r} h e =
    let z : at + (end - at) ≡ end = omega arith in
    let d : drop (end - at) (drop at log) ≡ drop end log = drop-drop (end - at) at log ∙ ap (λ (n : ℕ). drop n log) z in
    rw (e, ← d) (ends_cut (end - at) (drop at log))

module _ (l : List ℕ) (i : ℕ) where
  pub ends_stop : length l ≤ i → ends (drop i l) ≡ 0
  unfolding ends
  ends_stop h = rw (drop_of_length-le l h)

  pub ends_go : i < length l → ends (drop i l) ≡ mark (get_or l i 0) + ends (drop (i + 1) l)
  unfolding ends
  ends_go h = rw (drop-cons l i 0 h, add-one)

-- what is counted up to `whole`, and those from there
pub ends_whole : (log : List ℕ) (count : ℕ) {at whole r : ℕ} → ends log ≡ count + ends (drop at log) → at ≡ whole → whole ≤ length log
    → r ≡ ends (take (length log - whole) (drop whole log)) → count + r ≡ ends log
ends_whole log count {at} {whole} c e h r =
    omega (arith, c, ap (λ (n : ℕ). ends (drop n log)) e, ends_part log h r, ends_stop log (length log) (omega arith))

-- ---- a log has as many lines as line ends, and one more where the last lacks its own
-- 1 where a line is begun at the end of l; at its start one is, or isn't
abbrev unended : Bool → List ℕ → ℕ
unended begun [] = cond begun 1 0
unended begun (c ∷ l) = unended (not (eqb c 0x0A)) l

cut_lines : (begun l : List ℕ) → length (cut begun l) ≡ ends l + unended (some begun) l
unfolding cut ends
cut_lines [] [] = refl
cut_lines (x ∷ begun) [] = refl
cut_lines [] (c ∷ l) =
    tested {C = length (cut [] (c ∷ l)) ≡ ends (c ∷ l) + unended false (c ∷ l)} (eqb c 0x0A)
    (λ t. rw t (omega (arith, cut_lines [] l)))
    (λ t. rw t (omega (arith, cut_lines (c ∷ []) l)))
cut_lines (x ∷ begun) (c ∷ l) =
    tested {C = length (cut (x ∷ begun) (c ∷ l)) ≡ ends (c ∷ l) + unended true (c ∷ l)} (eqb c 0x0A)
    (λ t. rw t (omega (arith, cut_lines [] l)))
    (λ t. rw t (omega (arith, cut_lines (x ∷ (begun ++ (c ∷ []))) l)))

-- the last byte tells
unended_end : (begun : Bool) (c : ℕ) (l : List ℕ) → get_or (c ∷ l) (length l) 0 ≡ 0x0A → unended begun (c ∷ l) ≡ 0
unended_end begun c [] e = rw (eq-eqb c 0x0A e)
unended_end begun c (d ∷ l) e = unended_end (not (eqb c 0x0A)) d l e

unended_other : (begun : Bool) (c : ℕ) (l : List ℕ) → (get_or (c ∷ l) (length l) 0 ≡ 0x0A → ⊥) → unended begun (c ∷ l) ≡ 1
unended_other begun c [] n = rw (ne_eqb c 0x0A n)
unended_other begun c (d ∷ l) n = unended_other (not (eqb c 0x0A)) d l n

pub no_lines : (l : List ℕ) {r : ℕ} → r ≡ ends l → length l < 1 → r ≡ size l
unfolding cut ends
no_lines [] r h = r
no_lines (c ∷ l) r h = absurd (omega arith)

pub whole_lines : (l : List ℕ) {r : ℕ} → r ≡ ends l → 0 < length l → get_or l (length l - 1) 0 ≡ 0x0A → r ≡ size l
whole_lines [] r h e = absurd (omega arith)
whole_lines (c ∷ l) r h e =
    let z : suc (length l) - 1 ≡ length l = omega arith in
    omega (arith, r, cut_lines [] (c ∷ l), unended_end false c l (rw z at e))

pub begun_lines : (l : List ℕ) {r : ℕ} → r ≡ ends l → 0 < length l → (get_or l (length l - 1) 0 ≡ 0x0A → ⊥) → r + 1 ≡ size l
begun_lines [] r h e = absurd (omega arith)
begun_lines (c ∷ l) r h e =
    let z : suc (length l) - 1 ≡ length l = omega arith in
    omega (arith, r, cut_lines [] (c ∷ l), unended_other false c l (rw z at e))

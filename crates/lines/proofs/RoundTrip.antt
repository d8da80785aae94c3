-- Lines there and back: each request has one line and each layout entry has one, and an answer's line gives the answer back. Assumes nothing.
use mathlib.Core.Bool.{true, ◌&&◌}
use mathlib.Core.List.{List, ◌++◌, append-nil}
use mathlib.Core.Path.{◌≡◌, refl, sym, subst, ◌∙◌}
use Prim.Native.Nat.{ℕ, ◌+◌, ◌^◌, ◌≤◌, ◌<◌}
use native.Mathlib.Omega.{arith}
use lib.Dec.{eqb}
use lib.ListN.{length, take, drop, drop_of_length-le, take-append-drop, length-drop}
use lib.Seq.{length-take-le, drop-drop}
use borrow.Author.Tests.{eqb-true, eqb-false, ne_eqb}
use Rattle.machine.specs.Machine.{Words, four}
use Rattle.machine.specs.Step.{Answer}
use Rattle.machine.specs.Layout.{Entry}
use Rattle.lists.proofs.Tests.{and_true, tested}
use Rattle.lines.specs.Digits.{digits, all_digits}
use Rattle.lines.specs.Line.{Shape, LayoutEntry, Ask, Other, well_formed, entry_of, shape_of}
use Rattle.lines.specs.Line.{part, words_at, shape, word_digits, input_line, entry_line, answer_line, answer_of}
use Rattle.lines.proofs.Numbers.{all_digits_append, digits_are, digits_cut, number_digits, number_below, digits_number}

-- ---- what two and four digits can write
abbrev pub AreWords : Words → Type 0
AreWords ws = (ws.w₀ < 65536) × (ws.w₁ < 65536) × (ws.w₂ < 65536) × (ws.w₃ < 65536)

pub record InRange (k a b : ℕ) (ws : Words) : Type 0 where
  pub call : k < 256
  pub first : a < 65536
  pub second : b < 65536
  pub words : AreWords ws

-- ---- from numbers to a line and back
line_digits : (k a b : ℕ) (ws : Words) → all_digits (input_line k a b ws) ≡ true
line_digits k a b ws = simp (all_digits_append, digits_are)

line_length : (k a b : ℕ) (ws : Words) → length (input_line k a b ws) ≡ 26
unfolding digits
line_length k a b ws = refl

same_words : (ws : Words) {a b c d : ℕ} → a ≡ ws.w₀ → b ≡ ws.w₁ → c ≡ ws.w₂ → d ≡ ws.w₃ → four a b c d ≡ ws
same_words ws e f g h = rw (e, f, g, h)

words_back : (ws : Words) → AreWords ws → words_at 0 (word_digits ws) ≡ ws
unfolding digits
words_back ws r =
    same_words ws (number_digits 4 ws.w₀ r.0) (number_digits 4 ws.w₁ r.1) (number_digits 4 ws.w₂ r.2) (number_digits 4 ws.w₃ r.3)

parts_back : (k a b : ℕ) (ws : Words) → InRange k a b ws →
    (part 0 2 (input_line k a b ws) ≡ k) × (part 2 4 (input_line k a b ws) ≡ a) × (part 6 4 (input_line k a b ws) ≡ b)
    × (words_at 10 (input_line k a b ws) ≡ ws)
unfolding digits
parts_back k a b ws r = (number_digits 2 k r.call, number_digits 4 a r.first, number_digits 4 b r.second, words_back ws r.words)

-- the line of numbers in range is what the numbers are
pub shape_of_input_line : (k a b : ℕ) (ws : Words) → InRange k a b ws → shape (input_line k a b ws) ≡ shape_of k a b ws
unfolding shape
shape_of_input_line k a b ws r =
    let e = parts_back k a b ws r in
    rw (line_length k a b ws, line_digits k a b ws, e.0, e.1, e.2, e.3)

-- ---- answers
same_answer : (r : Answer) {n k b c : ℕ} {ws : Words} → n ≡ r.number → k ≡ r.kind → b ≡ r.buffer → c ≡ r.current → ws ≡ r.words
    → ◌≡◌ {A = Answer} record { number = n; kind = k; buffer = b; current = c; words = ws } r
same_answer r e f g h j = rw (e, f, g, h, j)

-- an answer's line gives the answer back
pub answer_comes_back : (r : Answer) → InRange r.number r.kind r.buffer r.words → r.current < 65536 → answer_of (answer_line r) ≡ r
unfolding digits
answer_comes_back r i c =
    same_answer r (number_digits 2 r.number i.call) (number_digits 4 r.kind i.first) (number_digits 4 r.buffer i.second)
    (number_digits 4 r.current c)
    (words_back r.words i.words)

-- ---- from a line to numbers and back
module _ (l : List ℕ) (digital : all_digits l ≡ true) where
  -- the n digits from place i on
  piece : (i n : ℕ) → i + n ≤ length l → (length (take n (drop i l)) ≡ n) × (all_digits (take n (drop i l)) ≡ true)
  piece i n h = (length-take-le n (drop i l) (simp length-drop (omega arith)), (digits_cut n (drop i l) (digits_cut i l digital).1).0)

  part_below : (i n : ℕ) → i + n ≤ length l → part i n l < 16 ^ n
  part_below i n h =
      let p = piece i n h in
      let b = number_below 0 (take n (drop i l)) p.1 in
      omega (arith, rw p.0 at b)

  -- the bytes from place i on are the n digits of a part, and the rest
  peel : (i n : ℕ) → i + n ≤ length l → drop i l ≡ digits n (part i n l) ++ drop (i + n) l
  peel i n h =
      let p = piece i n h in
      let d = digits_number (take n (drop i l)) p.1 in
      sym (rw (rw p.0 at d, ← drop-drop n i l) (take-append-drop n (drop i l)))

  module _ (long : length l ≡ 26) where
    parts_in_range : InRange (part 0 2 l) (part 2 4 l) (part 6 4 l) (words_at 10 l)
    parts_in_range =
        record {
          call = part_below 0 2 (omega arith);
          first = part_below 2 4 (omega arith);
          second = part_below 6 4 (omega arith);
          words = (part_below 10 4 (omega arith), part_below 14 4 (omega arith), part_below 18 4 (omega arith), part_below 22 4 (omega arith));
        }

    line_of_parts : l ≡ input_line (part 0 2 l) (part 2 4 l) (part 6 4 l) (words_at 10 l)
    line_of_parts =
        let e₁ : l ≡ digits 2 (part 0 2 l) ++ drop 2 l = peel 0 2 (omega arith) in
        let e₂ : drop 2 l ≡ digits 4 (part 2 4 l) ++ drop 6 l = peel 2 4 (omega arith) in
        let e₃ : drop 6 l ≡ digits 4 (part 6 4 l) ++ drop 10 l = peel 6 4 (omega arith) in
        let e₄ : drop 10 l ≡ digits 4 (part 10 4 l) ++ drop 14 l = peel 10 4 (omega arith) in
        let e₅ : drop 14 l ≡ digits 4 (part 14 4 l) ++ drop 18 l = peel 14 4 (omega arith) in
        let e₆ : drop 18 l ≡ digits 4 (part 18 4 l) ++ drop 22 l = peel 18 4 (omega arith) in
        let e₇ : drop 22 l ≡ digits 4 (part 22 4 l) = peel 22 4 (omega arith) ∙ rw (drop_of_length-le l {i = 26} (omega arith), append-nil) in
        cc

-- ---- a line that is no other shape
-- it is 26 digits, and what their parts are
whole : (l : List ℕ) {s : Shape} → shape l ≡ s → (s ≡ Other → ⊥)
    → (all_digits l ≡ true) × (length l ≡ 26) × (shape_of (part 0 2 l) (part 2 4 l) (part 6 4 l) (words_at 10 l) ≡ s)
unfolding shape
whole l e n =
    tested (eqb (length l) 26 && all_digits l)
    (λ t. let h = and_true {a = eqb (length l) 26} t in (h.1, eqb-true (length l) 26 h.0, rw t at e))
    (λ t. absurd (n (sym (rw t at e))))

-- the three shapes are apart
ask_no_entry : {k a b : ℕ} {ws : Words} {e : Entry} → Ask k a b ws ≡ LayoutEntry e → ⊥
ask_no_entry h = let z : ◌≡◌ {A = ℕ} 0 1 = cc in omega arith

ask_no_other : {k a b : ℕ} {ws : Words} → Ask k a b ws ≡ Other → ⊥
ask_no_other h = let z : ◌≡◌ {A = ℕ} 0 1 = cc in omega arith

entry_no_other : {e : Entry} → LayoutEntry e ≡ Other → ⊥
entry_no_other h = let z : ◌≡◌ {A = ℕ} 0 1 = cc in omega arith

-- numbers that are a request, and numbers that are an entry
ask_shape : (k a b : ℕ) (ws : Words) {k' a' b' : ℕ} {ws' : Words} → shape_of k a b ws ≡ Ask k' a' b' ws'
    → (Ask k a b ws ≡ Ask k' a' b' ws') × (k ≡ 0 → ⊥) × (well_formed k a b ws ≡ true)
unfolding shape_of
ask_shape k a b ws e =
    tested (eqb k 0)
    (λ t. tested (eqb ws.w₃ 0) (λ u. absurd (ask_no_entry (sym (rw (t, u) at e)))) (λ u. absurd (ask_no_other (sym (rw (t, u) at e)))))
    (λ t. tested (well_formed k a b ws) (λ u. (rw (t, u) at e, eqb-false k 0 t, u)) (λ u. absurd (ask_no_other (sym (rw (t, u) at e)))))

entry_shape : (k a b : ℕ) (ws : Words) {x : Entry} → shape_of k a b ws ≡ LayoutEntry x → (LayoutEntry (entry_of a b ws) ≡ LayoutEntry x)
    × (k ≡ 0) × (ws.w₃ ≡ 0)
unfolding shape_of
entry_shape k a b ws e =
    tested (eqb k 0)
    (λ t. tested (eqb ws.w₃ 0) (λ u. (rw (t, u) at e, eqb-true k 0 t, eqb-true ws.w₃ 0 u)) (λ u. absurd (entry_no_other (sym (rw (t, u) at e)))))
    (λ t. tested (well_formed k a b ws) (λ u. absurd (ask_no_entry (rw (t, u) at e))) (λ u. absurd (entry_no_other (sym (rw (t, u) at e)))))

-- ---- each request has exactly one line
-- the numbers that a line can ask: in range, a call that isn't 00, and no part that isn't zero and isn't used
pub record Request (k a b : ℕ) (ws : Words) : Type 0 where
  pub range : InRange k a b ws
  pub call : k ≡ 0 → ⊥
  pub formed : well_formed k a b ws ≡ true

pub request_has_a_line : (k a b : ℕ) (ws : Words) → Request k a b ws → shape (input_line k a b ws) ≡ Ask k a b ws
unfolding shape_of
request_has_a_line k a b ws r = shape_of_input_line k a b ws r.range ∙ rw (ne_eqb k 0 r.call, r.formed)

pub request_has_one_line : (l : List ℕ) (k a b : ℕ) (ws : Words) → shape l ≡ Ask k a b ws → Request k a b ws × (l ≡ input_line k a b ws)
request_has_one_line l k a b ws e =
    let w = whole l e ask_no_other in
    let h = ask_shape (part 0 2 l) (part 2 4 l) (part 6 4 l) (words_at 10 l) w.2 in
    let same : Ask (part 0 2 l) (part 2 4 l) (part 6 4 l) (words_at 10 l) ≡ Ask k a b ws = h.0 in
    let k' : part 0 2 l ≡ k = cc in
    let a' : part 2 4 l ≡ a = cc in
    let b' : part 6 4 l ≡ b = cc in
    let ws' : words_at 10 l ≡ ws = cc in
    let r : Request (part 0 2 l) (part 2 4 l) (part 6 4 l) (words_at 10 l) = record { range = parts_in_range l w.0 w.1; call = h.1; formed = h.2 } in
    (rw (k', a', b', ws') at r, cc (line_of_parts l w.0 w.1))

-- ---- each layout entry has exactly one line
abbrev pub EntryInRange : Entry → Type 0
EntryInRange x = InRange 0 x.priority x.owns (four x.name₀ x.name₁ x.name₂ 0)

pub entry_has_a_line : (x : Entry) → EntryInRange x → shape (entry_line x) ≡ LayoutEntry x
unfolding shape_of
entry_has_a_line x r = shape_of_input_line 0 x.priority x.owns (four x.name₀ x.name₁ x.name₂ 0) r

pub entry_has_one_line : (l : List ℕ) (x : Entry) → shape l ≡ LayoutEntry x → EntryInRange x × (l ≡ entry_line x)
entry_has_one_line l x e =
    let w = whole l e entry_no_other in
    let h = entry_shape (part 0 2 l) (part 2 4 l) (part 6 4 l) (words_at 10 l) w.2 in
    let y : Entry = entry_of (part 2 4 l) (part 6 4 l) (words_at 10 l) in
    let same : y ≡ x = cc in
    let r : EntryInRange y = rw (h.1, h.2) at (parts_in_range l w.0 w.1) in
    let q : l ≡ entry_line y = line_of_parts l w.0 w.1 ∙ rw (h.1, h.2) in
    subst (λ (z : Entry). EntryInRange z × (l ≡ entry_line z)) same (r, q)

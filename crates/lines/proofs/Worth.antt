-- Digits by the table of numerals: the table as it is made, what it says of two and of four bytes, and which bytes of a line are digits.
-- Assumes nothing.
use mathlib.Core.Bool.{Bool, true, false, not, ◌&&◌, ◌||◌, and-true as and-true-right}
use mathlib.Core.List.{List}
use mathlib.Core.Path.{◌≡◌, refl, sym, ap, ◌∙◌}
use Prim.Native.Nat.{ℕ, zero, suc, ◌+◌, ◌*◌, ◌/◌, ◌%◌, ◌≤◌, ◌<◌}
use native.Mathlib.Numerals.{add-one}
use native.Mathlib.Omega.{arith}
use lib.Dec.{eqb, ltb}
use lib.ListN.{length, get_or, take, drop, set, replicate, length-set, length-replicate, get_or-replicate}
use lib.Seq.{take_all, take-add, drop-drop, get_or-set_same, get_or-set_other}
use borrow.Author.Tests.{eqb-true, eqb-false, eq-eqb, ltb-true, ltb-false, lt-ltb, le-ltb}
use Rattle.machine.specs.Machine.{Words, four}
use Rattle.lists.proofs.Tests.{differ, tested, and_true, or_false}
use Rattle.lines.specs.Digits.{digit, is_digit, value, all_digits}
use Rattle.lines.specs.Line.{Other, part, words_at, shape_of, shape}
use Rattle.lines.specs.Promise.{worth, Numerals, digits_at, Reads, ReadsPair, TwoDigits}
use Rattle.lines.proofs.Values.{digit_low, digit_high, value_below, digit_of_value, value_of_digit, digit_is, two_from, part_pair, part_word}
use Rattle.lines.proofs.Numbers.{all_digits_append, digits_more}

-- ---- one byte
pub worth_digit : (c : ℕ) → is_digit c ≡ true → worth c ≡ value c
unfolding worth
worth_digit c e = rw e refl

pub worth_none : (c : ℕ) → is_digit c ≡ false → worth c ≡ 65536
unfolding worth
worth_none c e = rw e refl

pub worth_most : (c : ℕ) → worth c ≤ 65536
worth_most c =
    tested (is_digit c) (λ e. omega (arith, worth_digit c e, value_below c e)) (λ e. omega (arith, worth_none c e))

-- ---- the table, made number by number: those below n are in
pub record MadeTo (n : ℕ) (worths twos : List ℕ) : Type 0 where
  pub all : (length worths ≡ 256) × (length twos ≡ 256)
  pub none : (byte : ℕ) → byte < 256 → is_digit byte ≡ false → get_or worths byte 0 ≡ 65536
  pub there : (byte : ℕ) → byte < 256 → is_digit byte ≡ true → value byte < n → get_or worths byte 0 ≡ value byte
  pub pairs : (i : ℕ) → i < n → get_or twos i 0 ≡ digit (i / 16) + 256 * digit (i % 16)

pub made_none : MadeTo 0 (replicate 256 65536) (replicate 256 0)
made_none =
    record {
      all = (length-replicate {A = ℕ} 256 65536, length-replicate {A = ℕ} 256 0);
      none = λ byte h _. get_or-replicate {A = ℕ} 256 byte 65536 0 h;
      there = λ byte h _ l. absurd (omega arith);
      pairs = λ i h. absurd (omega arith);
    }

pub made_all : {worths twos : List ℕ} → MadeTo 256 worths twos → Numerals worths twos
made_all m =
    record {
      right =
          λ byte h.
          tested (is_digit byte)
          (λ e. m.there byte h e (omega (arith, value_below byte e)) ∙ sym (worth_digit byte e))
          (λ e. m.none byte h e ∙ sym (worth_none byte e));
      pairs = m.pairs;
    }

-- a digit's byte is below 256
pub digit_below : (v : ℕ) → v < 16 → digit v < 256
digit_below v h =
    tested (ltb v 10) (λ t. omega (arith, digit_low v (ltb-true v 10 t))) (λ t. omega (arith, digit_high v (ltb-false v 10 t)))

-- one number more: what its last digit is worth, and both its digits
pub made_more : {n x y place : ℕ} {worths twos : List ℕ} → n < 256 → place ≡ digit (n % 16) → x ≡ n % 16 → y ≡ digit (n / 16) + 256 * digit (n % 16)
    → MadeTo n worths twos → MadeTo (n + 1) (set worths place x) (set twos n y)
made_more {n} {x} {y} {place} {worths} {twos} h p e f m =
    record {
      all = (length-set worths place x ∙ m.all.0, length-set twos n y ∙ m.all.1);
      none =
          λ byte k d.
          get_or-set_other worths place byte x 0 (λ g. differ (sym (digit_is (n % 16) low) ∙ ap is_digit (sym p ∙ sym g) ∙ d))
          ∙ m.none byte k d;
      there =
          λ byte k d l.
          tested (eqb (value byte) (n % 16))
          (λ t.
          let g : byte ≡ place = sym (digit_of_value byte d) ∙ ap digit (eqb-true (value byte) (n % 16) t) ∙ sym p in
          rw g (get_or-set_same worths place x 0 (omega (arith, m.all.0, small))) ∙ e ∙ sym (eqb-true (value byte) (n % 16) t))
          (λ t.
          let g : value byte < n = omega (arith, eqb-false (value byte) (n % 16) t, value_below byte d) in
          get_or-set_other worths place byte x 0 (λ i. eqb-false (value byte) (n % 16) t (ap value (i ∙ p) ∙ value_of_digit (n % 16) low))
          ∙ m.there byte k d g);
      pairs =
          λ i k.
          tested (eqb i n)
          (λ t. rw (eqb-true i n t) (get_or-set_same twos n y 0 (omega (arith, m.all.1)) ∙ f))
          (λ t. get_or-set_other twos n i y 0 (eqb-false i n t) ∙ m.pairs i (omega (arith, eqb-false i n t)));
    }
  where
    low : n % 16 < 16
    low = omega arith

    small : place < 256
    small = omega (arith, p, digit_below (n % 16) low)

-- the two digits that the table has of a number
pub two_digits : (n r : ℕ) → r ≡ digit (n % 256 / 16) + 256 * digit (n % 256 % 16) → TwoDigits n r
two_digits n r e =
    let high : n % 256 / 16 ≡ n / 16 % 16 = omega arith in
    let low : n % 256 % 16 ≡ n % 16 = omega arith in
    let f : r ≡ digit (n / 16 % 16) + 256 * digit (n % 16) = rw (high, low) at e in
    let a = digit_below (n / 16 % 16) (omega arith) in
    let b = digit_below (n % 16) (omega arith) in
    record { first = omega (arith, f, a, b); second = omega (arith, f, a, b); few = omega (arith, f, a, b) }

-- ---- two bytes and four
-- by what two bytes are worth, whether both are digits, and their number
two : (c d : ℕ)
    → (ltb 65535 (16 * worth c + worth d) ≡ not (is_digit c && is_digit d))
    × ((is_digit c && is_digit d) ≡ true → (16 * worth c + worth d ≡ 16 * value c + value d) × (16 * value c + value d < 256))
two c d =
    tested (is_digit c)
    (λ e.
    tested (is_digit d)
    (λ f.
    let w = worth_digit c e in
    let x = worth_digit d f in
    let y = value_below c e in
    let z = value_below d f in
    rw (e, f) (le-ltb 65535 (16 * worth c + worth d) (omega arith), λ _. (omega arith, omega arith)))
    (λ f. rw (e, f) (lt-ltb 65535 (16 * worth c + worth d) (omega (arith, worth_none d f)), λ n. absurd (differ (sym n)))))
    (λ e. rw e (lt-ltb 65535 (16 * worth c + worth d) (omega (arith, worth_none c e)), λ n. absurd (differ (sym n))))

pair_digits : (l : List ℕ) (at : ℕ) → at + 2 ≤ length l → digits_at at 2 l ≡ (is_digit (get_or l at 0) && is_digit (get_or l (at + 1) 0))
unfolding all_digits
pair_digits l at h = rw (two_from l at h, and-true-right (is_digit (get_or l (at + 1) 0))) refl

pub reads_pair : (l : List ℕ) (at : ℕ) → at + 2 ≤ length l → ReadsPair l at (16 * worth (get_or l at 0) + worth (get_or l (at + 1) 0))
reads_pair l at h =
    let c = get_or l at 0 in
    let d = get_or l (at + 1) 0 in
    let e : digits_at at 2 l ≡ (is_digit c && is_digit d) = pair_digits l at h in
    let t = two c d in
    record {
      reads =
          record { told = t.0 ∙ ap not (sym e); right = λ a. (t.1 (sym e ∙ a)).0 ∙ sym (part_pair l at h) };
      few = λ a. omega (arith, t.1 (sym e ∙ a));
      most = omega (arith, worth_most c, worth_most d);
    }

-- bytes behind bytes
pub digits_behind : (l : List ℕ) (at k n : ℕ)
    → digits_at at (k + n) l ≡ (digits_at at k l && digits_at (at + k) n l)
digits_behind l at k n =
    rw (take-add k n (drop at l), drop-drop k at l) (all_digits_append (take k (drop at l)) (take n (drop (at + k) l)))

pub reads_word : {l : List ℕ} {at p q : ℕ} → at + 4 ≤ length l → ReadsPair l at p → ReadsPair l (at + 2) q → Reads l at 4 (256 * p + q)
reads_word {l} {at} {p} {q} h r s =
    let a = digits_at at 2 l in
    let b = digits_at (at + 2) 2 l in
    let e : digits_at at 4 l ≡ (a && b) = digits_behind l at 2 2 in
    let w = joined a b p q r.reads.told s.reads.told r.few s.few in
    record {
      told = w ∙ ap not (sym e);
      right =
          λ f.
          let g = and_true {a = a} (sym e ∙ f) in
          omega (arith, r.reads.right g.0, s.reads.right g.1, part_word l at h);
    }
  where
    joined : (a b : Bool) (p q : ℕ) → ltb 65535 p ≡ not a → ltb 65535 q ≡ not b
        → (a ≡ true → p < 256) → (b ≡ true → q < 256) → ltb 65535 (256 * p + q) ≡ not (a && b)
    joined true true p q f g i j = le-ltb 65535 (256 * p + q) (omega (arith, i refl, j refl))
    joined true false p q f g i j = lt-ltb 65535 (256 * p + q) (omega (arith, ltb-true 65535 q g))
    joined false b p q f g i j = lt-ltb 65535 (256 * p + q) (omega (arith, ltb-true 65535 p f))

-- ---- the bytes of a line
-- those of call, a and b, and those of the words
pub line_digits : (l : List ℕ) → length l ≡ 26
    → all_digits l ≡ (digits_at 0 2 l && (digits_at 2 4 l && (digits_at 6 4 l && digits_at 10 16 l)))
line_digits l h =
    let e : all_digits l ≡ digits_at 0 26 l = rw (take_all 26 l (omega arith)) refl in
    e ∙ digits_behind l 0 2 24 ∙ rw (digits_behind l 2 4 20, digits_behind l 6 4 16) refl

pub words_digits : (l : List ℕ) (at : ℕ)
    → digits_at at 16 l
    ≡ (digits_at at 4 l && (digits_at (at + 4) 4 l && (digits_at (at + 8) 4 l && digits_at (at + 12) 4 l)))
words_digits l at =
    let e : at + 4 + 4 ≡ at + 8 = omega arith in
    let f : at + 8 + 4 ≡ at + 12 = omega arith in
    digits_behind l at 4 12 ∙ rw (digits_behind l (at + 4) 4 8, e, digits_behind l (at + 8) 4 4, f) refl

-- zeros are digits
pub zeros_digits : (l : List ℕ) (at k : ℕ) → at + k ≤ length l → ((i : ℕ) → i < k → get_or l (at + i) 0 ≡ 0x30) → digits_at at k l ≡ true
unfolding all_digits is_digit
zeros_digits l at zero h z = refl
zeros_digits l at (suc k) h z =
    rw (← add-one k, ← digits_more l at k (omega arith), zeros_digits l at k (omega arith) (λ i m. z i (omega arith)), z k (omega arith)) refl

-- ---- what was read of a line
none_three : (a b c d : Bool) → (not a || (not b || not c)) ≡ true → (a && (b && (c && d))) ≡ false
none_three true true true d e = absurd (differ (sym e))
none_three true true false d e = refl
none_three true false c d e = refl
none_three false b c d e = refl

all_three : (a b c : Bool) → (not a || (not b || not c)) ≡ false → (a ≡ true) × (b ≡ true) × (c ≡ true)
all_three true true true e = (refl, refl, refl)
all_three true true false e = absurd (differ e)
all_three true false c e = absurd (differ e)
all_three false b c e = absurd (differ e)

none_four : (a b c d : Bool) → (not a || (not b || (not c || not d))) ≡ true → (a && (b && (c && d))) ≡ false
none_four true b c d e = none_last b c d e
  where
    none_last : (b c d : Bool) → (not b || (not c || not d)) ≡ true → (b && (c && d)) ≡ false
    none_last true true true e = absurd (differ (sym e))
    none_last true true false e = refl
    none_last true false d e = refl
    none_last false c d e = refl
none_four false b c d e = refl

all_four : (a b c d : Bool) → (not a || (not b || (not c || not d))) ≡ false → (a ≡ true) × (b ≡ true) × (c ≡ true) × (d ≡ true)
all_four true b c d e = let h = all_three b c d e in (refl, h.0, h.1, h.2)
all_four false b c d e = absurd (differ e)

-- what is not above 65,535
three_words : (a b c : ℕ) → (ltb 65535 a || (ltb 65535 b || ltb 65535 c)) ≡ false → (a < 65536) × (b < 65536) × (c < 65536)
three_words a b c e =
    let f = or_false {a = ltb 65535 a} e in
    let g = or_false {a = ltb 65535 b} f.1 in
    (omega (arith, ltb-false 65535 a f.0), omega (arith, ltb-false 65535 b g.0), omega (arith, ltb-false 65535 c g.1))

-- call, a and b were read of digits: the line has nothing else if its words haven't
pub record Head (l : List ℕ) (k a b : ℕ) : Type 0 where
  pub call : k ≡ part 0 2 l
  pub first : a ≡ part 2 4 l
  pub second : b ≡ part 6 4 l
  pub few : (k < 65536) × (a < 65536) × (b < 65536)
  pub rest : (t : Bool) → digits_at 10 16 l ≡ t → all_digits l ≡ t

pub head : {l : List ℕ} {k a b : ℕ} → length l ≡ 26 → Reads l 0 2 k → Reads l 2 4 a → Reads l 6 4 b
    → (ltb 65535 k || (ltb 65535 a || ltb 65535 b)) ≡ false → Head l k a b
head {l} {k} {a} {b} h x y z e =
    let d = all_three (digits_at 0 2 l) (digits_at 2 4 l) (digits_at 6 4 l) (rw (x.told, y.told, z.told) at e) in
    record {
      call = x.right d.0;
      first = y.right d.1;
      second = z.right d.2;
      few = three_words k a b e;
      rest = λ t f. line_digits l h ∙ rw (d.0, d.1, d.2, f) refl;
    }

pub head_none : {l : List ℕ} {k a b : ℕ} → length l ≡ 26 → Reads l 0 2 k → Reads l 2 4 a → Reads l 6 4 b
    → (ltb 65535 k || (ltb 65535 a || ltb 65535 b)) ≡ true → all_digits l ≡ false
head_none {l} h x y z e =
    line_digits l h
    ∙ none_three (digits_at 0 2 l) (digits_at 2 4 l) (digits_at 6 4 l) (digits_at 10 16 l) (rw (x.told, y.told, z.told) at e)

-- four words from `at` on were read of digits
pub record WordsRead (l : List ℕ) (at w₀ w₁ w₂ w₃ : ℕ) : Type 0 where
  pub all : digits_at at 16 l ≡ true
  pub words : words_at at l ≡ four w₀ w₁ w₂ w₃
  pub few : (w₀ < 65536) × (w₁ < 65536) × (w₂ < 65536) × (w₃ < 65536)

pub words_all : {l : List ℕ} {at w₀ w₁ w₂ w₃ : ℕ} → Reads l at 4 w₀ → Reads l (at + 4) 4 w₁ → Reads l (at + 8) 4 w₂ → Reads l (at + 12) 4 w₃
    → (ltb 65535 w₀ || (ltb 65535 w₁ || (ltb 65535 w₂ || ltb 65535 w₃))) ≡ false → WordsRead l at w₀ w₁ w₂ w₃
words_all {l} {at} {w₀} {w₁} {w₂} {w₃} x y z w e =
    let told = rw (x.told, y.told, z.told, w.told) at e in
    let d = all_four (digits_at at 4 l) (digits_at (at + 4) 4 l) (digits_at (at + 8) 4 l) (digits_at (at + 12) 4 l) told in
    let f = or_false {a = ltb 65535 w₀} e in
    let g = three_words w₁ w₂ w₃ f.1 in
    record {
      all = words_digits l at ∙ rw (d.0, d.1, d.2, d.3) refl;
      words = rw (x.right d.0, y.right d.1, z.right d.2, w.right d.3) refl;
      few = (omega (arith, ltb-false 65535 w₀ f.0), g.0, g.1, g.2);
    }

pub words_none : {l : List ℕ} {at w₀ w₁ w₂ w₃ : ℕ} → Reads l at 4 w₀ → Reads l (at + 4) 4 w₁ → Reads l (at + 8) 4 w₂ → Reads l (at + 12) 4 w₃
    → (ltb 65535 w₀ || (ltb 65535 w₁ || (ltb 65535 w₂ || ltb 65535 w₃))) ≡ true → digits_at at 16 l ≡ false
words_none {l} {at} x y z w e =
    words_digits l at
    ∙ none_four (digits_at at 4 l) (digits_at (at + 4) 4 l) (digits_at (at + 8) 4 l) (digits_at (at + 12) 4 l)
    (rw (x.told, y.told, z.told, w.told) at e)

-- a line that was read so
pub shape_read : {l : List ℕ} {k a b : ℕ} {ws : Words} → length l ≡ 26 → Head l k a b → digits_at 10 16 l ≡ true → words_at 10 l ≡ ws
    → shape l ≡ shape_of k a b ws
unfolding shape
shape_read {l} {k} {a} {b} {ws} h p d e =
    simp (eq-eqb _ _ h, p.rest true d) (cc (p.call, p.first, p.second, e))

pub shape_other : (l : List ℕ) → length l ≡ 26 → all_digits l ≡ false → shape l ≡ Other
unfolding shape
shape_other l h e = simp (eq-eqb _ _ h, e) refl

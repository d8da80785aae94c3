-- Digits and what they are worth: one digit there and back, and the number in two and four digits of a line. Assumes nothing.
use mathlib.Core.Bool.{Bool, true, ◌&&◌}
use mathlib.Core.List.{List, ◌∷◌}
use mathlib.Core.Logic.{◌⊎◌, inl, inr, ⊎_elim}
use mathlib.Core.Path.{◌≡◌, refl, ◌∙◌}
use Prim.Native.Nat.{ℕ, suc, ◌+◌, ◌-◌, ◌*◌, ◌≤◌, ◌<◌}
use native.Mathlib.Numerals.{add-one}
use native.Mathlib.Omega.{arith}
use lib.Dec.{eqb, ltb}
use lib.ListN.{length, get_or, drop}
use lib.Seq.{drop-cons}
use borrow.Author.Count.{below_more}
use borrow.Author.Tests.{eqb-true, lt-ltb, le-ltb, le-leb, lt-leb, ltb-true, ltb-false}
use Rattle.machine.specs.Machine.{four}
use Rattle.lists.proofs.Tests.{and_true, tested}
use Rattle.lists.proofs.Tells.{Tells, le, both, either}
use Rattle.lines.specs.Digits.{digit, is_digit, value, number_from}
use Rattle.lines.specs.Line.{part, words_at}
use Rattle.lines.specs.Promise.{ZerosFrom}

-- ---- one digit
-- a byte from 30 to 39 hex, or from 41 to 46 hex
abbrev pub Digit : ℕ → Type 0
Digit c = ((0x30 ≤ c) × (c ≤ 0x39)) ⊎ ((0x41 ≤ c) × (c ≤ 0x46))

pub digit_tells : (c : ℕ) → Tells (is_digit c) (Digit c)
unfolding is_digit
digit_tells c = either (both (le 0x30 c) (le c 0x39)) (both (le 0x41 c) (le c 0x46))

-- the two cases of a value and of a digit
pub value_low : (c : ℕ) → c ≤ 0x39 → value c ≡ c - 0x30
unfolding value
value_low c h = simp le-leb

pub value_high : (c : ℕ) → 0x39 < c → value c ≡ c - 0x41 + 10
unfolding value
value_high c h = simp lt-leb

pub digit_low : (v : ℕ) → v < 10 → digit v ≡ 0x30 + v
unfolding digit
digit_low v h = simp lt-ltb

pub digit_high : (v : ℕ) → 10 ≤ v → digit v ≡ 0x41 + (v - 10)
unfolding digit
digit_high v h = simp le-ltb

pub value_below : (c : ℕ) → is_digit c ≡ true → value c < 16
value_below c e =
    ⊎_elim (λ h. omega (arith, value_low c h.1)) (λ h. omega (arith, value_high c (omega arith))) ((digit_tells c).holds e)

pub digit_of_value : (c : ℕ) → is_digit c ≡ true → digit (value c) ≡ c
digit_of_value c e =
    ⊎_elim
    (λ h. let w : value c ≡ c - 0x30 = value_low c h.1 in omega (arith, digit_low (value c) (omega arith)))
    (λ h. let w : value c ≡ c - 0x41 + 10 = value_high c (omega arith) in omega (arith, digit_high (value c) (omega arith)))
    ((digit_tells c).holds e)

pub value_of_digit : (v : ℕ) → v < 16 → value (digit v) ≡ v
value_of_digit v h =
    tested (ltb v 10)
    (λ t. let e : digit v ≡ 0x30 + v = digit_low v (ltb-true v 10 t) in rw e (value_low (0x30 + v) (omega (arith, ltb-true v 10 t)) ∙ omega arith))
    (λ t. let e : digit v ≡ 0x41 + (v - 10) = digit_high v (ltb-false v 10 t) in
    rw e (value_high (0x41 + (v - 10)) (omega arith) ∙ omega (arith, ltb-false v 10 t)))

pub digit_is : (v : ℕ) → v < 16 → is_digit (digit v) ≡ true
digit_is v h =
    (digit_tells (digit v)).back
    (tested (ltb v 10)
    (λ t. let l = ltb-true v 10 t in let e : digit v ≡ 0x30 + v = digit_low v l in inl (omega arith))
    (λ t. let l = ltb-false v 10 t in let e : digit v ≡ 0x41 + (v - 10) = digit_high v l in inr (omega arith)))

-- ---- digits of a line
-- the two bytes from `at` on
pub two_from : (l : List ℕ) (at : ℕ) → at + 2 ≤ length l → drop at l ≡ get_or l at 0 ∷ get_or l (at + 1) 0 ∷ drop (at + 2) l
two_from l at h =
    let e : suc (suc at) ≡ at + 2 = omega arith in
    rw (drop-cons l at 0 (omega arith), drop-cons l (suc at) 0 (omega arith), e, add-one) refl

pub part_pair : (l : List ℕ) (at : ℕ) → at + 2 ≤ length l → part at 2 l ≡ 16 * value (get_or l at 0) + value (get_or l (at + 1) 0)
unfolding number_from
part_pair l at h = rw (two_from l at h) (omega arith)

pub part_word : (l : List ℕ) (at : ℕ) → at + 4 ≤ length l → part at 4 l ≡ 256 * part at 2 l + part (at + 2) 2 l
unfolding number_from
part_word l at h = rw (two_from l at (omega arith), two_from l (at + 2) (omega arith)) (omega arith)

-- ---- zeros
pub zeros_none : (l : List ℕ) (at : ℕ) (t : Bool) → ZerosFrom l at 0 t
zeros_none l at t = record { each = λ _ i h. absurd (omega arith) }

pub zeros_more : {l : List ℕ} {at k : ℕ} {t : Bool} → ZerosFrom l at k t → ZerosFrom l at (k + 1) (t && eqb (get_or l (at + k) 0) 0x30)
zeros_more {l} {at} {k} {t} z =
    record { each = λ e. let h = and_true {a = t} e in below_more (λ (i : ℕ). get_or l (at + i) 0 ≡ 0x30) k (z.each h.0) (eqb-true _ 0x30 h.1) }

-- the word in four of them
zero_word : (l : List ℕ) (at : ℕ) → at + 4 ≤ length l → ((i : ℕ) → i < 4 → get_or l (at + i) 0 ≡ 0x30) → part at 4 l ≡ 0
unfolding value
zero_word l at h z =
    let e₀ : get_or l at 0 ≡ 0x30 = let s : at + 0 ≡ at = omega arith in rw s at (z 0 (omega arith)) in
    let e₁ : get_or l (at + 1) 0 ≡ 0x30 = z 1 (omega arith) in
    let e₂ : get_or l (at + 2) 0 ≡ 0x30 = z 2 (omega arith) in
    let e₃ : get_or l (at + 2 + 1) 0 ≡ 0x30 = let s : at + 3 ≡ at + 2 + 1 = omega arith in rw s at (z 3 (omega arith)) in
    rw (part_word l at h, part_pair l at (omega arith), part_pair l (at + 2) (omega arith), e₀, e₁, e₂, e₃) refl

pub zero_words : (l : List ℕ) (at : ℕ) → at + 16 ≤ length l → ((i : ℕ) → i < 16 → get_or l (at + i) 0 ≡ 0x30) → words_at at l ≡ four 0 0 0 0
zero_words l at h z =
    rw (
      zero_word l at (omega arith) (λ i k. z i (omega arith)),
      zero_word l (at + 4) (omega arith) (from 4 (omega arith)),
      zero_word l (at + 8) (omega arith) (from 8 (omega arith)),
      zero_word l (at + 12) (omega arith) (from 12 (omega arith)),
    ) refl
  where
    from : (n : ℕ) → n ≤ 12 → (i : ℕ) → i < 4 → get_or l (at + n + i) 0 ≡ 0x30
    from n m i k = let s : at + (n + i) ≡ at + n + i = omega arith in rw s at (z (n + i) (omega arith))

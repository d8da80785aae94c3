-- Numbers in digits, of any width: the number that digits write, and the digits that write a number, are each other's inverse. Assumes nothing.
use mathlib.Core.Bool.{true, ◌&&◌, and_assoc, and-true as and-true-right}
use mathlib.Core.List.{List, [], ◌∷◌, ◌++◌}
use mathlib.Core.Path.{◌≡◌, refl, sym, ◌∙◌}
use Prim.Native.Nat.{ℕ, zero, suc, ◌+◌, ◌*◌, ◌/◌, ◌%◌, ◌^◌, ◌≤◌, ◌<◌}
use native.Mathlib.Nat.{pow-suc, mul-le-mul_right, mul_assoc, mul_comm}
use native.Mathlib.Numerals.{add-one}
use native.Mathlib.Omega.{arith}
use lib.ListN.{length, get_or, take, drop, length-append, length-drop, take-append-drop}
use lib.Seq.{take-suc, get_or-drop}
use Rattle.lists.proofs.Tests.{and_true}
use Rattle.lines.specs.Digits.{is_digit, value, digits, all_digits, number_from, number}
use Rattle.lines.proofs.Values.{digit_is, value_of_digit, digit_of_value, value_below}

-- ---- the digits of a number
-- n in k digits
pub length_digits : (k n : ℕ) → length (digits k n) ≡ k
unfolding digits
length_digits zero n = refl
length_digits (suc k) n = rw (length-append, length_digits k (n / 16)) (omega arith)

-- four digits are two and two
pub digits_split : (w : ℕ) → digits 4 w ≡ digits 2 (w / 256) ++ digits 2 w
unfolding digits
digits_split w =
    let high : w / 16 / 16 / 16 % 16 ≡ w / 256 / 16 % 16 = omega arith in
    let low : w / 16 / 16 % 16 ≡ w / 256 % 16 = omega arith in
    rw (high, low)

-- digits before digits
pub all_digits_append : (a b : List ℕ) → all_digits (a ++ b) ≡ (all_digits a && all_digits b)
unfolding all_digits
all_digits_append [] b = refl
all_digits_append (c ∷ a) b = rw (all_digits_append a b) (sym (and_assoc (is_digit c) (all_digits a) (all_digits b)))

pub digits_are : (k n : ℕ) → all_digits (digits k n) ≡ true
unfolding digits all_digits
digits_are zero n = refl
digits_are (suc k) n = rw (all_digits_append, digits_are k (n / 16), digit_is (n % 16) (omega arith))

-- the first i bytes of digits, and those behind them, are digits
pub digits_cut : (i : ℕ) (l : List ℕ) → all_digits l ≡ true → (all_digits (take i l) ≡ true) × (all_digits (drop i l) ≡ true)
digits_cut i l e = and_true (sym (all_digits_append (take i l) (drop i l)) ∙ rw take-append-drop e)

-- one byte more of those from `at` on
pub digits_more : (l : List ℕ) (at i : ℕ) → at + i < length l
    → (all_digits (take i (drop at l)) && is_digit (get_or l (at + i) 0)) ≡ all_digits (take (i + 1) (drop at l))
unfolding all_digits
digits_more l at i h =
    let c = get_or l (at + i) 0 in
    rw (add-one, take-suc (drop at l) i 0 (omega (arith, length-drop at l)), all_digits_append, get_or-drop at l i 0, and-true-right (is_digit c)) refl

-- ---- the number of digits
-- one digit more at the end
number_last : (m : ℕ) (l : List ℕ) (c : ℕ) → number_from m (l ++ (c ∷ [])) ≡ 16 * number_from m l + value c
unfolding number_from
number_last m [] c = refl
number_last m (x ∷ l) c = number_last (16 * m + value x) l c

pub number_digits : (k n : ℕ) → n < 16 ^ k → number (digits k n) ≡ n
unfolding digits number_from
number_digits zero n h = omega arith
number_digits (suc k) n h =
    let p : 16 ^ suc k ≡ 16 ^ k * 16 = pow-suc 16 k in
    rw (number_last, number_digits k (n / 16) (omega arith), value_of_digit (n % 16) (omega arith)) (omega arith)

-- digits of n and then k more write less than (n + 1) times the k-th power of 16
pub number_below : (n : ℕ) (l : List ℕ) → all_digits l ≡ true → number_from n l < (n + 1) * 16 ^ length l
unfolding all_digits number_from
number_below n [] e = omega arith
number_below n (c ∷ l) e =
    let d = and_true {a = is_digit c} e in
    let v : value c < 16 = value_below c d.0 in
    let h : number_from (16 * n + value c) l < (16 * n + value c + 1) * 16 ^ length l = number_below (16 * n + value c) l d.1 in
    let m : (16 * n + value c + 1) * 16 ^ length l ≤ (n + 1) * 16 * 16 ^ length l = mul-le-mul_right (16 ^ length l) (omega arith) in
    let q : (n + 1) * 16 ^ suc (length l) ≡ (n + 1) * 16 * 16 ^ length l = rw (pow-suc, mul_comm (16 ^ length l) 16, ← mul_assoc) in
    omega arith

-- as many digits that write the same number are the same
same_digits : (l k : List ℕ) (m n : ℕ) → all_digits l ≡ true → all_digits k ≡ true → length l ≡ length k → number_from m l ≡ number_from n k → (m ≡ n) × (l ≡ k)
unfolding all_digits number_from
same_digits [] [] m n d e h q = (q, refl)
same_digits [] (y ∷ k) m n d e h q = absurd (omega arith)
same_digits (x ∷ l) [] m n d e h q = absurd (omega arith)
same_digits (x ∷ l) (y ∷ k) m n d e h q =
    let d' = and_true {a = is_digit x} d in
    let e' = and_true {a = is_digit y} e in
    let r = same_digits l k (16 * m + value x) (16 * n + value y) d'.1 e'.1 (omega arith) q in
    let v : value x < 16 = value_below x d'.0 in
    let w : value y < 16 = value_below y e'.0 in
    let s : value x ≡ value y = omega arith in
    (omega arith, cc (digit_of_value x d'.0, digit_of_value y e'.0))

pub digits_number : (l : List ℕ) → all_digits l ≡ true → digits (length l) (number l) ≡ l
digits_number l e =
    (same_digits (digits (length l) (number l)) l 0 0 (digits_are (length l) (number l)) e (length_digits (length l) (number l))
    (number_digits (length l) (number l) (omega (arith, number_below 0 l e)))).1

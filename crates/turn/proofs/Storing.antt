-- Items put into a buffer one behind the other, until there are too many for it. Assumes nothing.
use mathlib.Core.List.{List, [], ◌++◌}
use mathlib.Core.Path.{◌≡◌, sym, ap, ◌∙◌}
use Prim.Native.Nat.{ℕ, ◌+◌, ◌*◌, ◌≤◌, ◌<◌}
use native.Mathlib.Decide.{dec_lt}
use native.Mathlib.Nat.{mul-zero, mul-le-mul_left, eq_of_mul-eq-mul_left}
use native.Mathlib.Omega.{arith}
use lib.ListN.{length, take, drop, length-append}
use lib.Seq.{sets, sets-eq, take_at, length-take-le}
use Rattle.lines.specs.Promise.{Put}
use Rattle.turn.specs.InWords.{Stored}

-- the first words of a buffer, and the item put in behind them
pub take_sets : (buffer item : List ℕ) (i : ℕ) → i + length item ≤ length buffer → take (i + length item) (sets buffer i item) ≡ take i buffer ++ item
take_sets buffer item i h =
    let l = length-take-le i buffer (omega arith) in
    rw (sets-eq item buffer i h)
    (take_at (take i buffer ++ item) (drop (i + length item) buffer) (i + length item) (omega (arith, length-append (take i buffer) item)))

-- before the first
pub none_stored : (limit width : ℕ) (buffer : List ℕ) → Stored limit width [] buffer 0
none_stored limit width buffer = record { few = omega arith; words = λ h. rw (mul-zero width); many = λ h. absurd (omega arith) }

module _ {limit width n : ℕ} {l buffer : List ℕ} (s : Stored limit width l buffer n) (item : List ℕ) where
  -- past the limit nothing is stored
  pub stored_past : limit < n → Stored limit width (l ++ item) buffer n
  stored_past h =
      record { few = s.few; words = λ k. absurd (omega arith); many = λ k. omega (arith, s.many h, length-append l item) }

  pub stored_more : {after : List ℕ} → n ≤ limit → length item ≡ width → 1 ≤ width → width * n + width ≤ length buffer → Put buffer (width * n) item after
      → Stored limit width (l ++ item) after (n + 1)
  stored_more {after} h w o r e =
      let k : width * n + length item ≡ width * (n + 1) = omega arith in
      let f : take (width * (n + 1)) after ≡ l ++ item =
      rw (e.bytes, ← k) (take_sets buffer item (width * n) (omega arith) ∙ ap (λ (x : List ℕ). x ++ item) (sym (s.words h))) in
      record {
        few = omega arith;
        words = λ _. sym f;
        many =
            λ j. (let z : n ≡ limit = omega arith in
            omega (arith, ap (λ (x : ℕ). width * x) z, ap length (s.words h), length-take-le (width * n) buffer (omega arith), length-append l item));
      }

-- ---- how many are stored
stored_size : {limit width n : ℕ} {l buffer : List ℕ} → Stored limit width l buffer n → n ≤ limit → width * limit ≤ length buffer → length l ≡ width * n
stored_size {width = width} {n} {buffer = buffer} s h f =
    ap length (s.words h) ∙ length-take-le (width * n) buffer (omega (arith, mul-le-mul_left width h))

-- the list says it, whatever else stands in the buffer
pub stored_count : {limit width n m : ℕ} {l a b : List ℕ} → 0 < width → width * limit ≤ length a → width * limit ≤ length b
    → Stored limit width l a n → Stored limit width l b m
    → n ≡ m
stored_count {limit} {width} {n} {m} {l} {a} {b} w f g s t = go (dec_lt limit n) (dec_lt limit m)
  where
    go : Dec (limit < n) → Dec (limit < m) → n ≡ m
    go (yes h) (yes k) = omega (arith, s.few, t.few)
    go (yes h) (no k) = let i : m ≤ limit = omega arith in absurd (omega (arith, s.many h, stored_size t i g, mul-le-mul_left width i))
    go (no h) (yes k) = let i : n ≤ limit = omega arith in absurd (omega (arith, t.many k, stored_size s i f, mul-le-mul_left width i))
    go (no h) (no k) = eq_of_mul-eq-mul_left width w n m (sym (stored_size s (omega arith) f) ∙ stored_size t (omega arith) g)

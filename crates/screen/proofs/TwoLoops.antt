-- The passes of the two loops on a sound table: along p's event queue, and over p's own buffers. Each loop's invariant says what is left. Assumes nothing.
use mathlib.Core.Path.{◌≡◌, refl, ap, ◌∙◌}
use mathlib.Core.Bool.{Bool, true, false, not}
use mathlib.Core.List.{List}
use Prim.Native.Nat.{ℕ, ◌+◌, ◌*◌, ◌-◌, ◌≤◌, ◌<◌}
use native.Mathlib.Omega.{arith}
use lib.ListN.{length, get_or, take, drop, length-drop}
use lib.Seq.{take_all, get_or-drop}
use lib.Dec.{eqb}
use Rattle.machine.specs.Queue.{Range}
use Rattle.machine.specs.Sound.{P_of, process_at, buffer_at, Sound}
use Rattle.lists.specs.Counts.{bit}
use Rattle.laws.proofs.Own.{owns_from}
use Rattle.screen.specs.Reading.{base_of, buffers_of, queued, taken, one_if_taken, sent}
use Rattle.screen.proofs.Steps.{Follows, queue_read, follows_ends, follows_goes, taken_over, taken_goes}

-- ---- the buffers' words, where they are lent by themselves
module _ (t : List ℕ) {l : List ℕ} (e : l ≡ buffers_of t) where
  buffers_length : length l ≡ length t - base_of t
  buffers_length = rw e (length-drop (base_of t) t)

  buffer_word : (b g i : ℕ) → i ≡ 10 * b + g → get_or l i 0 ≡ buffer_at t b g
  buffer_word b g i k =
      let n : base_of t + i ≡ base_of t + 10 * b + g = omega arith in
      rw e (get_or-drop (base_of t) t i 0 ∙ ap (λ (x : ℕ). get_or t x 0) n)

-- the part of a table that they are
pub buffers_part : (t : List ℕ) (base : ℕ) → base ≡ base_of t → take (length t - base) (drop base t) ≡ buffers_of t
buffers_part t base e = rw e (take_all (length t - base_of t) (drop (base_of t) t) (rw (length-drop (base_of t) t) (omega arith)))

-- ---- along p's event queue: `count` links were followed, and b is next
pub record Following (t : List ℕ) (p b count : ℕ) : Type 0 where
  pub most : count ≤ queued t p
  pub few : queued t p ≤ 128
  pub rest : Follows t (queued t p - count) b

pub following_none : {t : List ℕ} {p b : ℕ} → Sound t → Range (P_of t) p → b ≡ process_at t p 2 → Following t p b 0
following_none {t} {p} {b} S r e =
    let q = S.events p r in
    let k = queue_read t p (process_at t p 3) q.q q.is.linked q.is.exact.once (λ x i. (q.is.exact.only x i).0) in
    let n : queued t p - 0 ≡ length q.q = omega (arith, k.0) in
    record { most = omega arith; few = omega (arith, k.0, k.1, S.fixed.B128); rest = rw (n, e) k.2 }

module _ {t : List ℕ} {p b count : ℕ} (f : Following t p b count) where
  pub following_over : b ≡ 0 → count ≡ queued t p
  following_over e = omega (arith, f.most, follows_ends t (queued t p - count) b f.rest e)

  module _ (some : b ≡ 0 → ⊥) where
    -- b is a buffer, so that its words are there
    pub following_there : {l : List ℕ} → Sound t → l ≡ buffers_of t → (b ≤ 128) × (10 * b + 10 ≤ length l)
    following_there S e =
        omega (arith, (follows_goes t (queued t p - count) b f.rest some).1, S.fixed.B128, S.long, buffers_length t e)

    pub following_goes : {l : List ℕ} → l ≡ buffers_of t → Following t p (get_or l (10 * b + 0) 0) (count + 1)
    following_goes e =
        let k = follows_goes t (queued t p - count) b f.rest some in
        let n : queued t p - (count + 1) ≡ queued t p - count - 1 = omega arith in
        record { most = omega (arith, k.0); few = f.few; rest = rw (n, buffer_word t e b 0 (10 * b + 0) refl) k.2 }

-- ---- over p's own buffers: `left` are left, the next has its standing at the index `at`, and `count` of those passed are not free
at_most_one : (x : Bool) → bit x ≤ 1
at_most_one true = omega arith
at_most_one false = omega arith

-- the first of those left
abbrev next_own : List ℕ → ℕ → ℕ → ℕ
next_own t p left = process_at t p 10 + (process_at t p 11 - left)

pub record Passing (t : List ℕ) (p left at count : ℕ) : Type 0 where
  pub most : count + left ≤ process_at t p 11
  pub place : at ≡ 10 * next_own t p left + 4
  pub rest : count + taken t (next_own t p left) left ≡ sent t p

module _ {t : List ℕ} {p left at count : ℕ} (f : Passing t p left at count) where
  pub passing_over : left ≤ 0 → count ≡ sent t p
  passing_over h = omega (arith, f.rest, taken_over t (next_own t p left) left h)

  -- those left are buffers, so that their words are there
  pub passing_there : {l : List ℕ} → Sound t → Range (P_of t) p → l ≡ buffers_of t → (k : ℕ) → k < left → at + 10 * k < length l
  passing_there S r e k h =
      let b = (owns_from S.fixed p (process_at t p 11 - left + k) r (omega (arith, f.most))).0 in
      omega (arith, f.place, f.most, b, S.long, buffers_length t e)

  -- one buffer more
  pub passing_one : {l : List ℕ} {n : ℕ} → l ≡ buffers_of t → 0 < left → n ≡ one_if_taken (get_or l at 0) → Passing t p (left - 1) (at + 10) (count + n)
  passing_one {l} buffers some e =
      let b = next_own t p left in
      let on : b + 1 ≡ next_own t p (left - 1) = omega (arith, f.most) in
      let is = e ∙ ap one_if_taken (buffer_word t buffers b 4 at f.place) in
      record {
        most = omega (arith, f.most, e, at_most_one (not (eqb (get_or l at 0) 0)));
        place = omega (arith, f.place, f.most);
        rest = omega (arith, f.rest, is, taken_goes t b left some, ap (λ (k : ℕ). taken t k (left - 1)) on);
      }

-- two buffers more
pub passing_two : {t l : List ℕ} {p left at count m n : ℕ} → l ≡ buffers_of t → Passing t p left at count → 1 < left → m ≡ one_if_taken (get_or l at 0)
    → n ≡ one_if_taken (get_or l (at + 10) 0) → Passing t p (left - 2) (at + 20) (count + (m + n))
passing_two {t} {l} {p} {left} {at} {count} {m} {n} buffers f h e k =
    let a : left - 2 ≡ left - 1 - 1 = omega arith in
    let b : at + 20 ≡ at + 10 + 10 = omega arith in
    let c : count + (m + n) ≡ count + m + n = omega arith in
    rw (a, b, c) (passing_one (passing_one f buffers (omega arith) e) buffers (omega arith) k)

-- Long logs as the compare program compares them: it cuts both where `compare_after` says, compares the fronts, and counts on in what is behind
-- them; the rest is that of what is behind them. Assumes nothing.
use mathlib.Core.Bool.{cond}
use mathlib.Core.List.{List, [], ◌∷◌, ◌++◌, map, append_cancel_right}
use mathlib.Core.Path.{◌≡◌, refl, sym, ap, ◌∙◌}
use Prim.Native.Nat.{ℕ, zero, suc, ◌+◌, ◌≤◌}
use native.Mathlib.Omega.{arith}
use lib.Dec.{eqb}
use lib.ListN.{length, take, drop, take-append-drop}
use lib.Seq.{take-nil}
use Rattle.text.specs.Cut.{cut}
use Rattle.compare.specs.Differing.{lines, same, differing, differences, after, size, rest}
use Rattle.compare.specs.Common.{Whole, Behind}
use Rattle.compare.proofs.Tests.{tested}
use Rattle.compare.proofs.Lines.{lines_none, after_lines}
use Rattle.compare.proofs.Pieces.{pieces, later_rest}
use Rattle.compare.proofs.WholeLines.{differing_none}
use Rattle.compare.proofs.Stepping.{same_front, whole_size, whole_steps}

-- ---- the bytes of the first k lines
before : ℕ → List ℕ → List ℕ
before zero l = []
before (suc k) [] = []
before (suc k) (c ∷ l) = c ∷ cond (eqb c 0x0A) (before k l) (before (suc k) l)

before_after : (k : ℕ) (l : List ℕ) → before k l ++ after k l ≡ l
unfolding before after
before_after zero l = refl
before_after (suc k) [] = refl
before_after (suc k) (c ∷ l) =
    tested {C = before (suc k) (c ∷ l) ++ after (suc k) (c ∷ l) ≡ c ∷ l} (eqb c 0x0A)
    (λ t. rw t (ap (λ (m : List ℕ). c ∷ m) (before_after k l)))
    (λ t. rw t (ap (λ (m : List ℕ). c ∷ m) (before_after (suc k) l)))

-- their lines are the first k
before_cut : (k : ℕ) (begun l : List ℕ) → cut begun (before (suc k) l) ≡ take (suc k) (cut begun l)
unfolding before cut
before_cut k [] [] = refl
before_cut k (x ∷ begun) [] = rw (take-nil k)
before_cut zero begun (c ∷ l) =
    tested {C = cut begun (before 1 (c ∷ l)) ≡ take 1 (cut begun (c ∷ l))} (eqb c 0x0A) (λ t. rw t) (λ t. rw t (before_cut zero (begun ++ (c ∷ [])) l))
before_cut (suc k) begun (c ∷ l) =
    tested {C = cut begun (before (suc (suc k)) (c ∷ l)) ≡ take (suc (suc k)) (cut begun (c ∷ l))} (eqb c 0x0A)
    (λ t. rw t (ap (λ (m : List (List ℕ)). begun ∷ m) (before_cut k [] l)))
    (λ t. rw t (before_cut (suc k) (begun ++ (c ∷ [])) l))

before_lines : (k : ℕ) (l : List ℕ) → lines (before k l) ≡ take k (lines l)
unfolding before cut
before_lines zero l = refl
before_lines (suc k) l = before_cut k [] l

-- ---- a log cut behind k lines
module _ {k i : ℕ} {log : List ℕ} (b : Behind log k i) where
  front_lines : lines (take i log) ≡ take k (lines log)
  front_lines =
      let e : take i log ++ drop i log ≡ before k log ++ drop i log = take-append-drop i log ∙ sym (before_after k log) ∙ rw b.bytes in
      ap lines (append_cancel_right (take i log) (before k log) (drop i log) e) ∙ before_lines k log

  back_lines : lines (drop i log) ≡ drop k (lines log)
  back_lines = ap lines b.bytes ∙ after_lines k log

-- ---- both logs cut so
-- numbers that count on
shifted : (k n : ℕ) (a b : List (List ℕ)) → differing (n + k) a b ≡ map (λ (x : ℕ). x + k) (differing n a b)
unfolding differing
shifted k n [] [] = refl
shifted k n [] (y ∷ b) = let e : suc (n + k) ≡ suc n + k = omega arith in rw e (ap (λ (m : List ℕ). (n + k) ∷ m) (shifted k (suc n) [] b))
shifted k n (x ∷ a) [] = let e : suc (n + k) ≡ suc n + k = omega arith in rw e (ap (λ (m : List ℕ). (n + k) ∷ m) (shifted k (suc n) a []))
shifted k n (x ∷ a) (y ∷ b) =
    let e : suc (n + k) ≡ suc n + k = omega arith in
    tested {C = differing (n + k) (x ∷ a) (y ∷ b) ≡ map (λ (z : ℕ). z + k) (differing n (x ∷ a) (y ∷ b))} (same x y)
    (λ t. rw (t, e) (shifted k (suc n) a b))
    (λ t. rw (t, e) (ap (λ (m : List ℕ). (n + k) ∷ m) (shifted k (suc n) a b)))

module _ {k i j : ℕ} {one two : List ℕ} (a : Behind one k i) (b : Behind two k j) where
  pub in_pieces : differences one two ≡ differences (take i one) (take j two) ++ map (λ (x : ℕ). x + k) (differences (drop i one) (drop j two))
  in_pieces =
      pieces k 1 (lines one) (lines two) ∙
      rw (shifted k 1 (drop k (lines one)) (drop k (lines two)), ← front_lines a, ← front_lines b, ← back_lines a, ← back_lines b)

  pub rest_in_pieces : k ≤ size one → k ≤ size two → rest one two ≡ rest (drop i one) (drop j two)
  rest_in_pieces g h = later_rest k one two g h ∙ rw (← a.bytes, ← b.bytes)

-- ---- the whole lines that both begin with, which `compare_front` and `compare_lines` tell: no number is in them, and both logs are cut behind as many lines
pub front_behind : {one two : List ℕ} {k : ℕ} → Whole one two k → Behind one (size (take k one)) k × Behind two (size (take k one)) k
unfolding after
front_behind {k = zero} w = rw (ap length lines_none) (record { in_log = omega arith; bytes = refl }, record { in_log = omega arith; bytes = refl })
front_behind {one} {two} {k = suc j} w =
    let s = whole_steps j w refl in
    let e = whole_size j w in (
      record { in_log = s.in_one; bytes = s.past_one ∙ ap (λ (n : ℕ). after n one) e },
      record { in_log = s.in_two; bytes = s.past_two ∙ ap (λ (n : ℕ). after n two) e },
    )

pub front_none : {one two : List ℕ} {k : ℕ} → Whole one two k → differences (take k one) (take k two) ≡ []
front_none {two = two} {k = k} w = rw (same_front k w.shares (omega arith)) (differing_none 1 (lines (take k two)))

-- The pass over both logs, a step at a time, and the numbers stored on the way. Assumes nothing.
use mathlib.Core.Bool.{Bool, true, false}
use mathlib.Core.List.{List, [], ◌++◌}
use mathlib.Core.Path.{◌≡◌, refl, sym, ap, ◌∙◌}
use Prim.Native.Nat.{ℕ, suc, ◌+◌, ◌-◌, ◌≤◌}
use native.Mathlib.Numerals.{add-one}
use native.Mathlib.Omega.{arith}
use lib.ListN.{length, take, drop, length-drop, drop_of_length-le}
use lib.Seq.{sets, take-nil, drop-drop}
use Rattle.compare.specs.Differing.{lines, differing, unless_same}
use Rattle.compare.specs.Promise.{Steps, Advances, PutsNumber, StoresDifferences}
use Rattle.compare.specs.declared.steps.Place.{Place}
use Rattle.compare.specs.declared.steps.Passed.{Passed}
use Rattle.compare.proofs.Lines.{lines_none, after_lines}
use Rattle.compare.proofs.Pieces.{pieces}

-- ---- one step more
abbrev differ : ℕ → List ℕ → List ℕ → List ℕ
differ n x y = differing n (lines x) (lines y)

unless_more : (t : Bool) (n : ℕ) (l : List ℕ) → unless_same t n [] ++ l ≡ unless_same t n l
unless_more true n l = refl
unless_more false n l = refl

module _ {x y : List ℕ} {a b : ℕ} {s : Passed} (p : Steps x y a b s) where
  behind_one : drop s.lines (lines x) ≡ lines (drop a x)
  behind_one = sym (after_lines s.lines x) ∙ ap lines (sym p.past_one)

  behind_two : drop s.lines (lines y) ≡ lines (drop b y)
  behind_two = sym (after_lines s.lines y) ∙ ap lines (sym p.past_two)

  -- the numbers are the step's own, and then those of what is left
  differ_more : (n : ℕ) → differ (n + 1) x y ≡ unless_same s.alike (n + s.lines) (differ (n + s.lines + 1) (drop a x) (drop b y))
  differ_more n =
      let e : suc n + s.lines ≡ n + s.lines + 1 = omega arith in
      rw (add-one n, pieces s.lines (suc n) (lines x) (lines y), p.decided n, behind_one, behind_two, e)
      (unless_more s.alike (n + s.lines) (differ (n + s.lines + 1) (drop a x) (drop b y)))

-- ---- the pass, of which the bytes from i and j on are left
pub record Passing (one two room₀ : List ℕ) (full i j number count : ℕ) (room : List ℕ) : Type 0 where
  pub in_one : i ≤ length one
  pub in_two : j ≤ length two
  pub as_long : length room ≡ length room₀
  pub few : count ≤ number
  pub fits : number ≤ i + j
  pub counted : length (differ 1 one two) ≡ count + length (differ (number + 1) (drop i one) (drop j two))
  pub stored : sets room₀ 0 (take full (differ 1 one two)) ≡ sets room count (take (full - count) (differ (number + 1) (drop i one) (drop j two)))

module _ {one two room₀ room : List ℕ} {full number count : ℕ} {p q : Place} {s : Passed}
    (c : Passing one two room₀ full p.one p.two number count room) (d : Advances one two p q s) where
  left_one : length (drop p.one one) ≡ length one - p.one
  left_one = length-drop p.one one

  left_two : length (drop p.two two) ≡ length two - p.two
  left_two = length-drop p.two two

  pub advanced : (q.one ≤ length one) × (q.two ≤ length two)
  advanced = (omega (arith, c.in_one, d.to_one, d.steps.in_one, left_one), omega (arith, c.in_two, d.to_two, d.steps.in_two, left_two))

  pub number_fits : number + s.lines ≤ q.one + q.two
  number_fits = omega (arith, c.fits, d.steps.few, d.to_one, d.to_two)

  next_one : drop d.by_one (drop p.one one) ≡ drop q.one one
  next_one = drop-drop d.by_one p.one one ∙ ap (λ (n : ℕ). drop n one) (sym d.to_one)

  next_two : drop d.by_two (drop p.two two) ≡ drop q.two two
  next_two = drop-drop d.by_two p.two two ∙ ap (λ (n : ℕ). drop n two) (sym d.to_two)

  pub passing_more : {room' : List ℕ} {count' : ℕ} → PutsNumber room count full (number + s.lines) s.alike room' count'
      → Passing one two room₀ full q.one q.two (number + s.lines) count' room'
  passing_more u =
      let l = differ (number + s.lines + 1) (drop q.one one) (drop q.two two) in
      let m = rw (next_one, next_two) at (differ_more d.steps number) in
      record {
        in_one = advanced.0;
        in_two = advanced.1;
        as_long = u.as_long ∙ c.as_long;
        few = omega (arith, c.few, u.few, d.steps.some);
        fits = number_fits;
        counted = c.counted ∙ rw m (u.counted l);
        stored = c.stored ∙ rw m (u.stored l);
      }

-- nothing is left
pub passing_ends : {one two room₀ room : List ℕ} {full i j number count : ℕ} → Passing one two room₀ full i j number count room
    → length one ≤ i → length two ≤ j → StoresDifferences one two room₀ full room count
unfolding differing
passing_ends {one} {two} {i = i} {j = j} {number = number} {count = count} s g h =
    let d : differ (number + 1) (drop i one) (drop j two) ≡ [] = rw (drop_of_length-le one g, drop_of_length-le two h, lines_none) in
    let e : length (differ (number + 1) (drop i one) (drop j two)) ≡ 0 = rw d in
    record { count = omega (arith, s.counted); stored = sym (s.stored ∙ rw (d, take-nil)); as_long = s.as_long }

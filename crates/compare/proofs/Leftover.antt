-- The rest of the log that runs on: a step less of both logs at a time, and what is left where one of them ends. Assumes nothing.
use mathlib.Core.Bool.{true, false}
use mathlib.Core.List.{List, [], ◌∷◌}
use mathlib.Core.Path.{◌≡◌, sym, ap, ◌∙◌}
use Prim.Native.Nat.{ℕ, ◌+◌, ◌-◌, ◌≤◌, ◌<◌}
use native.Mathlib.Omega.{arith}
use lib.Dec.{ltb, leb-zero, leb-suc-zero, leb-suc-suc}
use lib.ListN.{length, drop, length-drop, drop_of_length-le}
use lib.Seq.{drop-drop}
use borrow.Author.Tests.{lt-ltb, ltb-false}
use Rattle.text.specs.Cut.{cut}
use Rattle.compare.specs.Differing.{after, size, second_runs_on, rest}
use Rattle.compare.specs.Answer.{Rests, RestsAt}
use Rattle.compare.specs.Promise.{Advances, Meets}
use Rattle.compare.specs.declared.steps.Place.{Place}
use Rattle.compare.specs.declared.steps.Passed.{Passed}
use Rattle.compare.proofs.Tests.{first_false}
use Rattle.compare.proofs.Bytes.{from, from_is, from_length}
use Rattle.compare.proofs.Lines.{lines_some, after_part}
use Rattle.compare.proofs.Pieces.{later_runs, later_rest}

-- ---- of the first log the bytes from i on are left, of the second those from j on
pub record Left (one two : List ℕ) (i j : ℕ) : Type 0 where
  pub in_one : i ≤ length one
  pub in_two : j ≤ length two
  pub goes : rest one two ≡ rest (drop i one) (drop j two)
  pub runs : second_runs_on one two ≡ second_runs_on (drop i one) (drop j two)

module _ {one two : List ℕ} {p q : Place} {r : Passed} (l : Left one two p.one p.two) (d : Advances one two p q r) where
  at_one : drop q.one one ≡ after r.lines (drop p.one one)
  at_one = ap (λ (n : ℕ). drop n one) d.to_one ∙ sym (drop-drop d.by_one p.one one) ∙ d.steps.past_one

  at_two : drop q.two two ≡ after r.lines (drop p.two two)
  at_two = ap (λ (n : ℕ). drop n two) d.to_two ∙ sym (drop-drop d.by_two p.two two) ∙ d.steps.past_two

  pub left_more : p.one < length one → p.two < length two → Left one two q.one q.two
  left_more g h =
      let u = d.steps.have_one (omega (arith, length-drop p.one one)) in
      let v = d.steps.have_two (omega (arith, length-drop p.two two)) in
      record {
        in_one = omega (arith, l.in_one, d.to_one, d.steps.in_one, length-drop p.one one);
        in_two = omega (arith, l.in_two, d.to_two, d.steps.in_two, length-drop p.two two);
        goes = l.goes ∙ rw (at_one, at_two) (later_rest r.lines (drop p.one one) (drop p.two two) u v);
        runs = l.runs ∙ rw (at_one, at_two) (later_runs r.lines (drop p.one one) (drop p.two two) u v);
      }

-- ---- where one of them has no line left
runs_not : (x : List ℕ) → second_runs_on x [] ≡ false
unfolding second_runs_on cut
runs_not x = rw (leb-suc-zero (size x))

rest_one : (x : List ℕ) → rest x [] ≡ x
unfolding rest second_runs_on after cut
rest_one x = rw (leb-suc-zero (size x))

runs_on : (y : List ℕ) → 0 < length y → second_runs_on [] y ≡ true
unfolding second_runs_on cut
runs_on [] h = absurd (omega arith)
runs_on (b ∷ l) h = rw (lines_some b l, leb-suc-suc, leb-zero)

rest_two : (y : List ℕ) → 0 < length y → rest [] y ≡ y
unfolding rest second_runs_on after cut
rest_two [] h = absurd (omega arith)
rest_two (b ∷ l) h = rw (lines_some b l, leb-suc-suc, leb-zero)

module _ {one two : List ℕ} {r : Place} (m : Meets one two r) where
  -- the second runs on
  module _ (h : r.two < length two) where
    none_left : drop r.one one ≡ []
    none_left =
        drop_of_length-le one (ltb-false r.one (length one) (first_false {b = ltb r.two (length two)} m.ended (lt-ltb r.two (length two) h)))

    pub second_runs : second_runs_on one two ≡ true
    second_runs = m.runs ∙ rw none_left (runs_on (drop r.two two) (omega (arith, length-drop r.two two)))

    second_rest : rest one two ≡ drop r.two two
    second_rest = m.goes ∙ rw none_left (rest_two (drop r.two two) (omega (arith, length-drop r.two two)))

    pub rests_second : (p q : ℕ × ℕ) → Rests one p two q (from r.two two) (q.0, r.two + q.1)
    rests_second p q =
        let v : length two - length (from r.two two) ≡ r.two = omega (arith, from_length two r.two) in
        record { bytes = from_is r.two two ∙ sym second_rest; block = rw second_runs; place = rw (second_runs, v) }

    pub part_in_second : {p q s : ℕ × ℕ} {l : List ℕ} → Rests one p two q l s → length l ≤ length two
    part_in_second h = omega (arith, ap length h.bytes, ap length second_rest, length-drop r.two two)

    -- its place is known by its size
    pub rests_at_second : {p q s : ℕ × ℕ} {l : List ℕ} → Rests one p two q l s → RestsAt one two 2 (length two - length l)
    unfolding rest
    rests_at_second h =
        let e = h.bytes in
        let w : rest one two ≡ after (size one) two = rw second_runs in
        record {
          log = rw second_runs;
          in_log = rw second_runs (omega arith);
          bytes = rw (second_runs, e, w) (sym (after_part (size one) two));
        }

  -- or it doesn't
  module _ (h : length two ≤ r.two) where
    second_ends : second_runs_on one two ≡ false
    second_ends = m.runs ∙ rw (drop_of_length-le two h) (runs_not (drop r.one one))

    first_rest : rest one two ≡ drop r.one one
    first_rest = m.goes ∙ rw (drop_of_length-le two h) (rest_one (drop r.one one))

    pub rests_first : (p q : ℕ × ℕ) → Rests one p two q (from r.one one) (p.0, r.one + p.1)
    rests_first p q =
        let v : length one - length (from r.one one) ≡ r.one = omega (arith, from_length one r.one, m.in_one) in
        record { bytes = from_is r.one one ∙ sym first_rest; block = rw second_ends; place = rw (second_ends, v) }

    pub part_in_first : {p q s : ℕ × ℕ} {l : List ℕ} → Rests one p two q l s → length l ≤ length one
    part_in_first h = omega (arith, ap length h.bytes, ap length first_rest, length-drop r.one one)

    pub rests_at_first : {p q s : ℕ × ℕ} {l : List ℕ} → Rests one p two q l s → RestsAt one two 1 (length one - length l)
    unfolding rest
    rests_at_first h =
        let e = h.bytes in
        let w : rest one two ≡ after (size two) one = rw second_ends in
        record {
          log = rw second_ends;
          in_log = rw second_ends (omega arith);
          bytes = rw (second_ends, e, w) (sym (after_part (size two) one));
        }

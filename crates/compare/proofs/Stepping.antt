-- A step along two logs passes the same lines of both: a line of each, or the whole lines that both begin with. Assumes nothing.
use mathlib.Core.Bool.{true}
use mathlib.Core.List.{List, [], ◌∷◌, ◌++◌}
use mathlib.Core.Path.{◌≡◌, sym, ap, ◌∙◌}
use Prim.Native.Nat.{ℕ, zero, suc, ◌+◌, ◌-◌, ◌≤◌, ◌<◌}
use native.Mathlib.Numerals.{add-one}
use native.Mathlib.Omega.{arith}
use lib.ListN.{length, take, drop, get_or}
use lib.Seq.{length-take-le, take-suc, get_or-take, split_at, ext_get_or}
use Rattle.compare.specs.Differing.{lines, unless_same, differing, after, size}
use Rattle.compare.specs.Common.{Shares, Whole}
use Rattle.compare.specs.Promise.{line_size, alike, ends, Pairs, Within, Steps, Advances}
use Rattle.compare.specs.declared.first.Pair.{Pair}
use Rattle.compare.specs.declared.steps.Place.{Place}
use Rattle.compare.specs.declared.steps.Passed.{Passed}
use Rattle.compare.proofs.Bytes.{size_in, size_some, from, from_is, from_length}
use Rattle.compare.proofs.Lines.{lines_none, lines_some, after_more}
use Rattle.compare.proofs.WholeLines.{ended, front_ends, ends_few, front_size, front_lines, front_in, front_after, differing_none}

-- ---- a line of each
has_line : (l : List ℕ) → 0 < length l → 1 ≤ size l
has_line [] h = absurd (omega arith)
has_line (c ∷ l) h = rw (lines_some c l) (omega arith)

first_after : (l : List ℕ) {a : ℕ} → a ≡ line_size l → drop a l ≡ after 1 l
unfolding after
first_after l e = ap (λ (n : ℕ). drop n l) e ∙ sym (after_more 0 l)

first_differ : (n : ℕ) (x y : List ℕ) → 0 < length x + length y → differing (suc n) (take 1 (lines x)) (take 1 (lines y)) ≡ unless_same (alike x y) (n + 1) []
unfolding differing
first_differ n [] [] h = absurd (omega arith)
first_differ n [] (b ∷ l) h = rw (lines_none, lines_some b l, add-one n)
first_differ n (a ∷ k) [] h = rw (lines_none, lines_some a k, add-one n)
first_differ n (a ∷ k) (b ∷ l) h = rw (lines_some a k, lines_some b l, add-one n)

some_byte : (x y : List ℕ) → 0 < length x + length y → 1 ≤ line_size x + line_size y
some_byte [] [] h = absurd (omega arith)
some_byte [] (b ∷ l) h = omega (arith, size_some b l)
some_byte (a ∷ k) y h = omega (arith, size_some a k)

pub pair_steps : {one two : List ℕ} {p : Pair} → Pairs one two p → 0 < length one + length two
    → Steps one two p.one p.two (record { alike = p.alike; lines = 1 })
pair_steps {one} {two} p h =
    record {
      in_one = size_in one p.size_one;
      in_two = size_in two p.size_two;
      some = omega arith;
      few = omega (arith, some_byte one two h, p.size_one, p.size_two);
      past_one = first_after one p.size_one;
      past_two = first_after two p.size_two;
      have_one = has_line one;
      have_two = has_line two;
      decided = λ n. first_differ n one two h ∙ rw (sym p.decided);
    }

-- ---- whole lines of both
-- a log that begins with j bytes and a line end
begun : (l : List ℕ) (j : ℕ) → j < length l → get_or l j 0 ≡ 0x0A → l ≡ take j l ++ 0x0A ∷ drop (suc j) l
begun l j h e = split_at l j 0 h ∙ rw e

pub same_front : {one two : List ℕ} {k : ℕ} (j : ℕ) → Shares one two k → j ≤ k → take j one ≡ take j two
same_front {one} {two} j s h =
    ext_get_or 0 (take j one) (take j two) (rw (length-take-le j one (omega (arith, s.in_one)), length-take-le j two (omega (arith, s.in_two))))
    (λ i g. let k : i < j = omega (arith, length-take-le j one (omega (arith, s.in_one))) in
    rw (get_or-take j one i 0, get_or-take j two i 0) (s.same i (omega arith)))

-- of which the last ends a line
module _ {one two : List ℕ} (j : ℕ) (w : Whole one two (suc j)) where
  abbrev p : List ℕ
  p = take j one

  end_one : get_or one j 0 ≡ 0x0A
  end_one = let e : suc j - 1 ≡ j = omega arith in rw e at (w.ends (omega arith))

  in_first : one ≡ p ++ 0x0A ∷ drop (suc j) one
  in_first = begun one j (omega (arith, w.shares.in_one)) end_one

  in_second : two ≡ p ++ 0x0A ∷ drop (suc j) two
  in_second = begun two j (omega (arith, w.shares.in_two)) (sym (w.shares.same j (omega arith)) ∙ end_one) ∙ rw (same_front j w.shares (omega arith))

  bytes : take (suc j) one ≡ ended p
  bytes = take-suc one j 0 (omega (arith, w.shares.in_one)) ∙ rw end_one

  counts : ends (take (suc j) one) ≡ suc (ends p)
  counts = ap ends bytes ∙ front_ends p

  pub whole_size : ends (take (suc j) one) ≡ size (take (suc j) one)
  whole_size = counts ∙ sym (ap size bytes ∙ front_size p)

  pub whole_steps : {n : ℕ} → n ≡ ends (take (suc j) one) → Steps one two (suc j) (suc j) (record { alike = true; lines = n })
  whole_steps {n} e =
      let c : n ≡ suc (ends p) = e ∙ counts in
      record {
        in_one = w.shares.in_one;
        in_two = w.shares.in_two;
        some = omega arith;
        few = omega (arith, ends_few p, length-take-le j one (omega (arith, w.shares.in_one)));
        past_one = sym (ap (λ (m : ℕ). after m one) c ∙ ap (after (suc (ends p))) in_first ∙ front_after p (drop (suc j) one));
        past_two = sym (ap (λ (m : ℕ). after m two) c ∙ ap (after (suc (ends p))) in_second ∙ front_after p (drop (suc j) two));
        have_one = λ _. omega (arith, front_in p (drop (suc j) one), ap size in_first);
        have_two = λ _. omega (arith, front_in p (drop (suc j) two), ap size in_second);
        decided = λ m. rw (
          c,
          ap (λ (l : List ℕ). take (suc (ends p)) (lines l)) in_first ∙ front_lines p (drop (suc j) one),
          ap (λ (l : List ℕ). take (suc (ends p)) (lines l)) in_second ∙ front_lines p (drop (suc j) two),
        ) (differing_none (suc m) (lines (ended p)));
      }

pub front_steps : {one two : List ℕ} {k n : ℕ} → Whole one two k → 0 < k → n ≡ ends (take k one) → Steps one two k k (record { alike = true; lines = n })
front_steps {k = zero} w h e = absurd (omega arith)
front_steps {k = suc j} w h e = whole_steps j w e

-- ---- from a place on
pub within_some : {one two : List ℕ} {p : Place} → Within one two p → 0 < length (from p.one one) + length (from p.two two)
within_some {one} {two} {p} w = omega (arith, w.in_one, w.in_two, w.some, from_length one p.one, from_length two p.two)

pub advances : {one two : List ℕ} {a b : ℕ} {p q : Place} {r : Passed} → Steps (from p.one one) (from p.two two) a b r
    → q.one ≡ p.one + a → q.two ≡ p.two + b → Advances one two p q r
advances {one} {two} {a} {b} {p} s g h =
    record { by_one = a; by_two = b; to_one = g; to_two = h; steps = rw (from_is p.one one, from_is p.two two) at s }

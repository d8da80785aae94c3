-- The bytes of a block, one more at a time, and where they bring a run. Assumes nothing.
use mathlib.Core.Bool.{Bool, true, false}
use mathlib.Core.List.{List, [], ◌∷◌, ◌++◌, append-nil, append_assoc}
use mathlib.Core.Path.{◌≡◌, refl, ap, ◌∙◌}
use Prim.Native.Nat.{ℕ, zero, suc, ◌+◌, ◌≤◌, ◌<◌}
use native.Mathlib.Numerals.{add-one}
use native.Mathlib.Omega.{arith}
use lib.ListN.{length, take, drop, get_or}
use lib.Seq.{take-suc, drop-cons, drop-length}
use lib.Dec.{eqb}
use borrow.Author.Tests.{eq-eqb, ne_eqb, eqb-false}
use Rattle.machine.specs.Queue.{if}
use Rattle.lists.proofs.Tests.{and_true}
use Rattle.lines.specs.Digits.{is_digit, all_digits}
use Rattle.lines.specs.Replay.{State}
use Rattle.lines.proofs.Run.{digit_goes}
use Rattle.turn.specs.Begun.{Begun, before_end, Takes}
use Rattle.turn.specs.Feed.{reach}

-- a byte that doesn't end the line
pub reach_goes : (s : State) (begun : List ℕ) (c : ℕ) (l : List ℕ) → (c ≡ 0x0A → ⊥) → reach s begun (c ∷ l) ≡ reach s (begun ++ (c ∷ [])) l
unfolding reach
reach_goes s begun c l n = rw (ne_eqb c 0x0A n)

-- nor does any of those before the end
pub reach_end : (s : State) (begun block rest : List ℕ)
    → reach s begun (take (before_end block) block ++ rest) ≡ reach s (begun ++ take (before_end block) block) rest
unfolding before_end
reach_end s begun [] rest = rw (append-nil begun) refl
reach_end s begun (c ∷ l) rest = go (eqb c 0x0A) refl (reach_end s (begun ++ (c ∷ [])) l rest)
  where
    go : (t : Bool) → eqb c 0x0A ≡ t → reach s (begun ++ (c ∷ [])) (take (before_end l) l ++ rest) ≡ reach s ((begun ++ (c ∷ [])) ++ take (before_end l) l) rest
        → reach s begun (take (if t 0 (suc (before_end l))) (c ∷ l) ++ rest) ≡ reach s (begun ++ take (if t 0 (suc (before_end l))) (c ∷ l)) rest
    go true e r = rw (append-nil begun) refl
    go false e r =
        reach_goes s begun c (take (before_end l) l ++ rest) (eqb-false c 0x0A e)
        ∙ r
        ∙ ap (λ (x : List ℕ). reach s x rest) (append_assoc begun (c ∷ []) (take (before_end l) l))

-- digits up to it
pub digits_end : (block : List ℕ) (k : ℕ) → all_digits (take k block) ≡ true → k < length block → get_or block k 0 ≡ 0x0A → before_end block ≡ k
unfolding before_end all_digits
digits_end [] k e h z = absurd (omega arith)
digits_end (c ∷ l) zero e h z = rw (eq-eqb c 0x0A z)
digits_end (c ∷ l) (suc k) e h z =
    let (first, more) = and_true {a = is_digit c} e in
    rw (ne_eqb c 0x0A (digit_goes c first), digits_end l k more (omega arith) z) refl

-- the bytes before the end, of which i were passed
pub end_goes : (block : List ℕ) (i : ℕ) → i < length block → (get_or block i 0 ≡ 0x0A → ⊥) → before_end block ≡ i + before_end (drop i block)
    → before_end block ≡ (i + 1) + before_end (drop (i + 1) block)
unfolding before_end
end_goes block i h n e =
    let z : before_end (drop i block) ≡ suc (before_end (drop (i + 1) block)) = rw (drop-cons block i 0 h, ne_eqb (get_or block i 0) 0x0A n, add-one) in
    omega arith

pub end_comes : (block : List ℕ) (i : ℕ) → i < length block → get_or block i 0 ≡ 0x0A → before_end block ≡ i + before_end (drop i block) → i ≡ before_end block
unfolding before_end
end_comes block i h n e =
    let z : before_end (drop i block) ≡ 0 = rw (drop-cons block i 0 h, eq-eqb (get_or block i 0) 0x0A n) in
    omega arith

pub end_none : (block : List ℕ) → before_end (drop (length block) block) ≡ 0
unfolding before_end
end_none block = rw (drop-length block)

pub takes_none : (line block : List ℕ) (n : ℕ) → n ≤ 27 → Takes line line n n block 0
takes_none line block n h =
    record { few = h; within = omega arith; stored = λ begun b. rw (append-nil begun) b }

-- one byte more that doesn't end the line
module _ {line mid after : List ℕ} {n m r : ℕ} {block : List ℕ} {i : ℕ} (t : Takes line mid n m block i) where
  pub takes_more : i < length block → (get_or block i 0 ≡ 0x0A → ⊥) → r ≤ 27
      → ((l : List ℕ) → Begun l mid m → Begun (l ++ (get_or block i 0 ∷ [])) after r) → Takes line after n r block (i + 1)
  takes_more h ne few stored =
      let b = get_or block i 0 in
      let a = take i block in
      let e : take (i + 1) block ≡ a ++ (b ∷ []) = rw add-one (take-suc block i 0 h) in
      record {
        few = few;
        within = omega arith;
        stored = λ begun k. rw (e, ← append_assoc begun a (b ∷ [])) (stored (begun ++ a) (t.stored begun k));
      }

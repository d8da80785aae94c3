-- A pass over records by rising number that counts those of which a test holds: the words on the way. A pass by which processes may enter the running
-- queue: the walk on the way. Assumes nothing.
use mathlib.Core.Bool.{Bool, true, false}
use mathlib.Core.List.{List, [], ◌∷◌}
use mathlib.Core.Path.{◌≡◌, refl, sym, ap, subst, ◌∙◌}
use Prim.Native.Nat.{ℕ, ◌+◌}
use lib.ListN.{length}
use Rattle.machine.specs.Queue.{from, keep, fold}
use Rattle.machine.specs.Machine.{Machine}
use Rattle.machine.specs.Walk.{Walk, nowhere, walked, WalkSoFar, begin, walk_on}
use Rattle.machine.specs.Words.{Shows}
use Rattle.lists.proofs.Numbers.{fold_none, fold_more, count_zero, count_yes, keep_no}

-- m after f for the first k records
abbrev pub swept : (ℕ → Machine → Machine) → ℕ → Machine → Machine
swept f k m = fold f (from 1 k) m

-- t shows it, and of n of these records the test holds
pub record Swept (f : ℕ → Machine → Machine) (test : ℕ → Bool) (m : Machine) (t : List ℕ) (k n : ℕ) : Type 0 where
  pub words : Shows t (swept f k m)
  pub count : n ≡ length (keep test (from 1 k))

pub swept_none : {f : ℕ → Machine → Machine} {test : ℕ → Bool} {m : Machine} {t : List ℕ} → Shows t m → Swept f test m t 0 0
swept_none {f} {test} {m} s = record { words = rw (fold_none f m) s; count = count_zero test }

-- one record more, of which r says what the test does
module _ {f : ℕ → Machine → Machine} {test : ℕ → Bool} {m : Machine} {t u : List ℕ} (k : ℕ) {n : ℕ} {r : Bool} (a : Swept f test m t k n)
    (s : Shows u (f (k + 1) (swept f k m))) (e : r ≡ test (k + 1)) where
  words_more : Shows u (swept f (k + 1) m)
  words_more = subst (Shows u) (sym (fold_more f k m)) s

  pub swept_yes : r ≡ true → Swept f test m u (k + 1) (n + 1)
  swept_yes h = record { words = words_more; count = ap (λ (x : ℕ). x + 1) a.count ∙ sym (count_yes test k (sym e ∙ h)) }

  pub swept_no : r ≡ false → Swept f test m u (k + 1) n
  swept_no h = record { words = words_more; count = a.count ∙ sym (ap length (keep_no test k (sym e ∙ h))) }

-- ---- walks
-- the machine is that of the pass
pub walk_machine : (reason : ℕ) (who : ℕ → Machine → ℕ) (f : ℕ → Machine → Machine) (l : List ℕ) (s : WalkSoFar)
    → (fold (walk_on reason who f) l s).machine ≡ fold f l s.machine
unfolding fold
walk_machine reason who f [] s = refl
walk_machine reason who f (x ∷ l) s = walk_machine reason who f l (walk_on reason who f x s)

-- the walk of f for the first k records
abbrev pub walk_through : ℕ → (ℕ → Machine → ℕ) → (ℕ → Machine → Machine) → ℕ → Machine → Walk
walk_through reason who f k m = (fold (walk_on reason who f) (from 1 k) (begin m)).walk

module _ (reason : ℕ) (who : ℕ → Machine → ℕ) (f : ℕ → Machine → Machine) where
  pub walk_through_none : (m : Machine) → walk_through reason who f 0 m ≡ nowhere
  walk_through_none m = ap (λ (s : WalkSoFar). s.walk) (fold_none (walk_on reason who f) (begin m))

  -- one record more
  pub walk_through_more : (k : ℕ) (m : Machine)
      → walk_through reason who f (k + 1) m ≡ walked reason (who (k + 1) (swept f k m)) (swept f k m) (f (k + 1) (swept f k m)) (walk_through reason who f k m)
  walk_through_more k m =
      ap (λ (s : WalkSoFar). s.walk) (fold_more (walk_on reason who f) k (begin m))
      ∙ ap (λ (n : Machine). walked reason (who (k + 1) n) n (f (k + 1) n) (walk_through reason who f k m)) (walk_machine reason who f (from 1 k) (begin m))

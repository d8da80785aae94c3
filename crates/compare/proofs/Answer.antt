-- The answer, of a pass that stores nothing and one that stores all. Assumes nothing.
use mathlib.Core.List.{List, [], ◌∷◌, ◌++◌}
use mathlib.Core.Path.{◌≡◌, refl, sym, ◌∙◌}
use Prim.Native.Nat.{ℕ, ◌≤◌, ◌<◌}
use native.Mathlib.Nat.{zero-add}
use native.Mathlib.Omega.{arith}
use lib.Dec.{leb-zero}
use lib.ListN.{length, drop}
use lib.Seq.{sets, sets-eq, take-length}
use borrow.Author.Tests.{le-leb, lt-leb}
use Rattle.compare.specs.Differing.{differences, compared}
use Rattle.compare.specs.Answer.{TellsCompared}
use Rattle.compare.specs.Promise.{StoresDifferences}

none_is : (l : List ℕ) → length l ≡ 0 → l ≡ []
none_is [] e = refl
none_is (x ∷ l) e = absurd (omega arith)

module _ {one two room mid : List ℕ} {n : ℕ} (p : StoresDifferences one two room 0 mid n) where
  -- too short a room, and as it was
  pub answers_short : length mid < n → TellsCompared (compared one two room) (record { number = 14; count = 0 }) mid
  unfolding compared
  answers_short h = rw (lt-leb (length (differences one two)) (length room) (omega (arith, p.count, p.as_long)))
      (record { number = refl; count = refl; room = p.stored })

  -- no numbers
  pub answers_none : n ≡ 0 → TellsCompared (compared one two room) (record { number = 0; count = 0 }) mid
  unfolding compared
  answers_none z =
      let e : differences one two ≡ [] = none_is (differences one two) (sym p.count ∙ z) in
      rw (e, leb-zero (length room)) (record { number = refl; count = refl; room = p.stored })

  pub answers_all : {after : List ℕ} {m : ℕ} → StoresDifferences one two mid n after m → n ≤ length mid
      → TellsCompared (compared one two room) (record { number = 0; count = n }) after
  unfolding compared
  answers_all q h =
      let ds = differences one two in
      let e : sets room 0 ds ≡ ds ++ drop (length ds) room = sets-eq ds room 0 (omega (arith, p.count, p.as_long)) ∙ rw (zero-add (length ds)) in
      rw (le-leb (length ds) (length room) (omega (arith, p.count, p.as_long)))
      (record { number = refl; count = p.count; room = q.stored ∙ rw (p.stored, p.count, take-length ds) e })

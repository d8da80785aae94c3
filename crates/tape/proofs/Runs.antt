-- What a run does, a character a step. Assumes nothing.
use mathlib.Core.Bool.{Bool, false, ◌||◌, or_assoc}
use mathlib.Core.List.{List, [], ◌++◌, append_assoc}
use mathlib.Core.Path.{◌≡◌, refl, ap, ◌∙◌}
use Prim.Native.Nat.{ℕ, zero, suc, ◌+◌, ◌-◌, ◌≤◌, ◌<◌}
use native.Mathlib.Nat.{add_assoc}
use native.Mathlib.Numerals.{add-one}
use native.Mathlib.Omega.{arith}
use lib.IntN.{ℤ}
use lib.ListN.{length, get_or, set, drop, length-set, drop_of_length-le}
use lib.Seq.{drop-cons}
use Rattle.tape.specs.Character.{character}
use Rattle.tape.specs.Tape.{Run, Stops, Runs, onward, by_met, run}
use Rattle.tape.specs.Promise.{PutsByte}

-- ---- bytes stored one behind the other
module _ (area : List ℕ) (at full v : ℕ) where
  pub puts : at < full → PutsByte area at full v (set area at v)
  puts h = let d : full - at ≡ suc (full - (at + 1)) = omega arith in record { as_long = length-set area at v; stored = λ l. rw (d, add-one) }

-- ---- runs one behind the other
pub onward_onward : (a b : List ℕ) (m n : ℕ) (f g : Bool) (o : Run) → onward a m f (onward b n g o) ≡ onward (a ++ b) (m + n) (f || g) o
onward_onward a b m n f g (Stops k) = refl
onward_onward a b m n f g (Runs l k z h) = rw (append_assoc a b l, add_assoc m n k, ← or_assoc f g h)

-- ---- the run from a character on
module _ (mode : ℕ) (table : List ℕ) where
  -- there is room, and a byte
  pub run_goes : (z : ℤ) (tape : List ℕ) (room i : ℕ) → 0 < room → i < length tape
      → run mode table z room (drop i tape)
      ≡ by_met (character mode table z (get_or tape i 0)) (λ y. run mode table y (room - 1) (drop (i + 1) tape))
      (λ y. run mode table y (suc (room - 1)) (drop (i + 1) tape))
  unfolding run
  run_goes z tape room i g h =
      let e : room ≡ suc (room - 1) = omega arith in
      ap (λ (n : ℕ). run mode table z n (drop i tape)) e ∙ rw (drop-cons tape i 0 h, add-one)

  -- there is none
  pub run_full : (z : ℤ) (tape : List ℕ) (room : ℕ) → room ≡ 0 → run mode table z room tape ≡ Runs [] 0 z false
  unfolding run
  run_full z tape room e = rw e

  pub run_empty : (z : ℤ) (tape : List ℕ) (room i : ℕ) → length tape ≤ i → run mode table z room (drop i tape) ≡ Runs [] 0 z false
  unfolding run
  run_empty z tape zero i h = refl
  run_empty z tape (suc room) i h = rw (drop_of_length-le tape h)

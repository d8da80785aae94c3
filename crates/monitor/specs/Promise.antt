-- What the entries of the monitor promise, on any words at all. Assumes nothing: these are definitions.
use Rattle.std.specs.Prelude.{true, List, [], ◌∷◌, ◌≡◌, ℕ, length, drop}
use Rattle.machine.specs.Numbers.{no_such_call, table_not_sound}
use Rattle.machine.specs.Machine.{Machine, Words}
use Rattle.machine.specs.Request.{request, last_call}
use Rattle.machine.specs.Refusal.{◌when◌, first, outside}
use Rattle.machine.specs.Step.{Answer as Reply, refused, step}
use Rattle.machine.specs.Walk.{Walk, nowhere, walk}
use Rattle.machine.specs.Legal.{Legal}
use Rattle.machine.specs.Words.{size, Shows}
use Rattle.machine.specs.Sound.{Sound}
use Rattle.machine.specs.Layout.{entries, sum, laid_over, layout_refusal}
use Rattle.answers.specs.Promise.{Serves, with_listing}

-- ---- a call
-- call k with parts a, b, ws takes the table t and the room s to u and v, and answers r
pub record Called (t u s v : List ℕ) (k a b : ℕ) (ws : Words) (r : Reply) : Type 0 where
  -- rows 13 and 1
  pub unsound : (Sound t → ⊥) → r ≡ refused (first ((no_such_call when outside k last_call) ∷ (table_not_sound when true) ∷ []))
  -- every other row, and what an accepted call does
  pub sound : Serves t u (request k a b ws (length s)) r
  pub room : (m : Machine) → Shows t m → Legal m → v ≡ with_listing (step m (request k a b ws (length s))).listing s
  -- "None changes a lent word of table or listing room"
  pub unchanged : (r.number ≡ 0 → ⊥) → (u ≡ t) × (v ≡ s)

-- and w is its walk: the numbers of docs/MONITOR.md, 13, "in a separate answer"
pub record CalledWalked (t u s v : List ℕ) (k a b : ℕ) (ws : Words) (r : Reply) (w : Walk) : Type 0 where
  pub called : Called t u s v k a b ws r
  -- on unsound words nobody enters
  pub unsound : (Sound t → ⊥) → w ≡ nowhere
  -- on others the walk is that of the call's steps; where it is refused, `nowhere` too
  pub sound : (m : Machine) → Shows t m → Legal m → w ≡ walk m (request k a b ws (length s))

-- ---- a layout
-- a layout by the list ws in that edition, with semaphores of those counters, takes the table t to u and answers r; `zero_answer` is that of
-- refusal 0
pub record LaidOut (ws : List ℕ) (edition : ℕ) (counters t u : List ℕ) (r : Reply) : Type 0 where
  pub answer : r ≡ refused (layout_refusal ws edition counters (length t))
  pub words : layout_refusal ws edition counters (length t) ≡ 0
      → Shows u (laid_over (drop (size (length (entries ws)) (sum (entries ws)) (length counters)) t) edition counters (entries ws))
  pub unchanged : (layout_refusal ws edition counters (length t) ≡ 0 → ⊥) → u ≡ t

-- ---- the check alone
-- r tells whether the words t are a sound table: 1 if they are, 0 if not
pub record SoundTold (t : List ℕ) (r : ℕ) : Type 0 where
  pub sound : Sound t → r ≡ 1
  pub unsound : (Sound t → ⊥) → r ≡ 0

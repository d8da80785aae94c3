-- What calls leave alone: how many processes, buffers and own buffers there are, the edition, how many semaphores, and every word of the
-- buffers in waking and stopping. Assumes nothing.
use Prim.Native.Nat.{ℕ}
use mathlib.Core.Bool.{Bool, true, false}
use mathlib.Core.List.{List, [], ◌∷◌}
use mathlib.Core.Path.{◌≡◌, refl, ap, ◌∙◌}
use lib.Dec.{eqb}
use Rattle.machine.specs.Queue.{if, same, fold}
use Rattle.machine.specs.Machine.{Machine, edition, semaphores, owner, owns, Words}
use Rattle.machine.specs.Moves.{wake, waiting, answered, answer_with}
use Rattle.machine.specs.Log.{Talk, talk_of, moved, freed}
use Rattle.lists.proofs.Tests.{either}
use Rattle.laws.specs.Talk.{talk}

-- what no call changes
pub record Shape : Type 0 where
  pub P : ℕ
  pub B : ℕ
  pub counts : ℕ → ℕ
  pub edition : ℕ
  pub semaphores : ℕ

abbrev pub shape : Machine → Shape
shape m = record { P = m.P; B = m.B; counts = owns m; edition = edition m; semaphores = semaphores m }

-- and with it the words of the buffers
pub record Books : Type 0 where
  pub shaped : Shape
  pub words : ℕ → ℕ → ℕ

abbrev pub books : Machine → Books
books m = record { shaped = shape m; words = m.buffer }

-- what the books say of buffer b
abbrev pub booked : Books → ℕ → Talk
booked x b = talk_of (x.words b 2) (x.words b 3) (x.words b 4) (x.words b 5)

-- a wake or none
pub may_wake : (t : Bool) (reason p : ℕ) (m : Machine) → books (if t (wake reason p m) m) ≡ books m
may_wake t reason p m = either (λ (w : Machine). books w ≡ books m) t (λ e. refl) (λ e. refl)

-- moves that leave the books alone, one after the other
pub fold_books : (f : ℕ → Machine → Machine) → ((x : ℕ) (m : Machine) → books (f x m) ≡ books m) → (l : List ℕ) (m : Machine) → books (fold f l m) ≡ books m
unfolding fold
fold_books f h [] m = refl
fold_books f h (x ∷ l) m = fold_books f h l (f x m) ∙ h x m

-- ---- what is put into a buffer's words, seen in the talk
-- receiver and standing of b
pub put_both : (k b r s : ℕ) (t : Talk)
    → talk_of t.owner (same k b r t.receiver) (same k b s t.standing) t.age ≡ if (eqb k b) (talk_of t.owner r s t.age) t
unfolding same
put_both k b r s t = go (eqb k b)
  where
    go : (x : Bool) → talk_of t.owner (if x r t.receiver) (if x s t.standing) t.age ≡ if x (talk_of t.owner r s t.age) t
    go true = refl
    go false = refl

-- 0 in receiver, standing and age of b
pub put_freed : (k b : ℕ) (t : Talk)
    → talk_of t.owner (same k b 0 t.receiver) (same k b 0 t.standing) (same k b 0 t.age) ≡ if (eqb k b) (freed t) t
unfolding same
put_freed k b t = go (eqb k b)
  where
    go : (x : Bool) → talk_of t.owner (if x 0 t.receiver) (if x 0 t.standing) (if x 0 t.age) ≡ if x (freed t) t
    go true = refl
    go false = refl

-- its standing alone
pub put_standing : (k b s : ℕ) (t : Talk) → talk_of t.owner t.receiver (same k b s t.standing) t.age ≡ if (eqb k b) (moved s t) t
unfolding same
put_standing k b s t = go (eqb k b)
  where
    go : (x : Bool) → talk_of t.owner t.receiver (if x s t.standing) t.age ≡ if x (moved s t) t
    go true = refl
    go false = refl

-- ---- answering
pub answer_books : (b : ℕ) (ws : Words) (m : Machine) → books (answer_with b ws m) ≡ books (answered b ws m)
answer_books b ws m = may_wake (waiting b m) 1 (owner m b) (answered b ws m)

pub answer_talk : (b : ℕ) (ws : Words) (m : Machine) (k : ℕ) → talk (answer_with b ws m) k ≡ if (eqb k b) (moved 3 (talk m k)) (talk m k)
answer_talk b ws m k = ap (λ (x : Books). booked x k) (answer_books b ws m) ∙ put_standing k b 3 (talk m k)

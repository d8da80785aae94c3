-- Cleaning a process moves each buffer as lines 6 to 9 of 'Reading a log' say. Assumes nothing.
use Prim.Native.Nat.{ℕ}
use mathlib.Core.Bool.{Bool, true, false, ◌&&◌, ◌||◌}
use mathlib.Core.Path.{◌≡◌, refl, ap, ◌∙◌}
use lib.Dec.{eqb}
use Rattle.machine.specs.Queue.{if, Range}
use Rattle.machine.specs.Machine.{Machine, state, owner, receiver, standing, buffers}
use Rattle.machine.specs.Moves.{unlink, answer_with, withdrawn, clean_buffer}
use Rattle.machine.specs.Request.{Clean}
use Rattle.machine.specs.Step.{Answer, halted, cleaned}
use Rattle.machine.specs.Log.{Talk, moved, freed, move}
use Rattle.lists.proofs.Tests.{either}
use Rattle.lists.proofs.Numbers.{fold_keeps}
use Rattle.theorems.proofs.Cleaning.{cleaned_talks}
use Rattle.laws.specs.Talk.{talk}
use Rattle.logs.proofs.LeftAlone.{shape, Books, answer_books}

-- the cases of a buffer's cleaning are those of the lines, where an orphan's receiver isn't its owner
lines : (o r s₁ s₂ s₃ s₄ : Bool) (E H A t : Talk) → (o && (r && s₄)) ≡ false →
    if o (if s₁ E (if s₃ E (if s₂ H t))) (if r (if s₁ A (if s₂ A (if s₄ E t))) t)
    ≡ if (o && (s₁ || (s₃ || false))) E (if (o && s₂) H (if (r && (s₁ || (s₂ || false))) A (if (r && s₄) E t)))
lines true r true s₂ s₃ s₄ E H A t n = refl
lines true r false s₂ true s₄ E H A t n = refl
lines true r false true false s₄ E H A t n = refl
lines true true false false false s₄ E H A t n = rw n
lines true false false false false s₄ E H A t n = refl
lines false true true s₂ s₃ s₄ E H A t n = refl
lines false true false true s₃ s₄ E H A t n = refl
lines false true false false s₃ s₄ E H A t n = refl
lines false false s₁ s₂ s₃ s₄ E H A t n = refl

-- not orphaned with its owner for a receiver, if its owner is p
abbrev pub Apart : ℕ → Talk → Type 0
Apart p t = (eqb t.owner p && (eqb t.receiver p && eqb t.standing 4)) ≡ false

module _ (p b : ℕ) (m : Machine) where
  abbrev Shaped : Machine → Type 0
  Shaped w = shape w ≡ shape m

  shaped_answer : (x : Machine) → Shaped x → Shaped (answer_with b withdrawn x)
  shaped_answer x e = ap (λ (x : Books). x.shaped) (answer_books b withdrawn x) ∙ e

  clean_shaped : Shaped (clean_buffer p b m)
  unfolding clean_buffer
  clean_shaped =
      let s : ℕ → Bool = eqb (standing m b) in
      either Shaped (eqb (owner m b) p)
      (λ _. either Shaped (s 1) (λ _. refl) (λ _. either Shaped (s 3) (λ _. refl) (λ _. either Shaped (s 2) (λ _. refl) (λ _. refl))))
      (λ _. either Shaped (eqb (receiver m b) p)
      (λ _. either Shaped (s 1) (λ _. shaped_answer (unlink p b m) refl)
      (λ _. either Shaped (s 2) (λ _. shaped_answer m refl) (λ _. either Shaped (s 4) (λ _. refl) (λ _. refl))))
      (λ _. refl))

-- of a machine
pub clean_shape : (p : ℕ) (m : Machine) → shape (cleaned p m) ≡ shape m
clean_shape p m =
    fold_keeps (λ w. shape w ≡ shape m) (clean_buffer p) (buffers m) (λ b i w e. clean_shaped p b w ∙ e) (halted p m)
    (either (λ (w : Machine). shape w ≡ shape m) (eqb (state m p) 0) (λ t. refl) (λ t. refl))

pub clean_moves : (p : ℕ) (m : Machine) (k : ℕ) → Range m.B k → Apart p (talk m k) → (r : Answer) → talk (cleaned p m) k ≡ move k (talk m k) (Clean p) r
unfolding move
clean_moves p m k i n r =
    let t = talk m k in
    let s : ℕ → Bool = eqb t.standing in
    cleaned_talks p m k i
    ∙ lines (eqb t.owner p) (eqb t.receiver p) (s 1) (s 2) (s 3) (s 4) (freed t) (moved 4 t) (moved 3 t) t n

-- Cleaning one buffer leaves owner, receiver, standing and age of the others as they are, and a clean leaves the sizes. Assumes nothing.
use Prim.Native.Nat.{ℕ, ◌<◌}
use native.Mathlib.Omega.{arith}
use mathlib.Core.Bool.{Bool}
use mathlib.Core.Path.{◌≡◌, refl, ◌∙◌}
use lib.Dec.{eqb}
use Rattle.machine.specs.Queue.{from, fold}
use Rattle.machine.specs.Machine.{Machine, owner, receiver, standing, state, buffers}
use Rattle.machine.specs.Moves.{unlink, waiting, answer_with, withdrawn, clean_buffer}
use Rattle.laws.specs.Talk.{talk}
use Rattle.lists.proofs.Links.{decide}
use Rattle.lists.proofs.Tests.{either}
use Rattle.lists.proofs.Numbers.{fold_keeps, in_from}
use Rattle.machine.specs.Step.{halted, cleaned}

module _ (p b k : ℕ) (n : k ≡ b → ⊥) (m : Machine) where
  abbrev Alike : Machine → Type 0
  Alike w = talk w k ≡ talk m k

  answer_others : (x : Machine) → Alike x → Alike (answer_with b withdrawn x)
  answer_others x e = either Alike (waiting b x) (λ t. simp decide e) (λ t. simp decide e)

  pub clean_others : Alike (clean_buffer p b m)
  unfolding clean_buffer
  clean_others =
      let s : ℕ → Bool = eqb (standing m b) in
      either Alike (eqb (owner m b) p)
      (λ _. either Alike (s 1) (λ _. simp decide)
      (λ _. either Alike (s 3) (λ _. simp decide)
      (λ _. either Alike (s 2) (λ _. simp decide) (λ _. refl))))
      (λ _. either Alike (eqb (receiver m b) p)
      (λ _. either Alike (s 1) (λ _. answer_others (unlink p b m) refl)
      (λ _. either Alike (s 2) (λ _. answer_others m refl)
      (λ _. either Alike (s 4) (λ _. simp decide) (λ _. refl))))
      (λ _. refl))

-- nor are the later ones touched by a sweep over the first ones
pub clean_later : (p n k : ℕ) (m : Machine) → n < k → talk (fold (clean_buffer p) (from 1 n) m) k ≡ talk m k
clean_later p n k m h =
    fold_keeps (λ w. talk w k ≡ talk m k) (clean_buffer p) (from 1 n)
    (λ b i w e. (let j = in_from b 1 n i in clean_others p b k (omega arith) w ∙ e)) m refl

-- as many records as before
abbrev pub Sized : Machine → Machine → Type 0
Sized m n = (n.B ≡ m.B) × (n.P ≡ m.P)

clean_size : (p b : ℕ) (m₀ m : Machine) → Sized m₀ m → Sized m₀ (clean_buffer p b m)
unfolding clean_buffer
clean_size p b m₀ m z =
    either (Sized m₀) (eqb (owner m b) p)
    (λ _. either (Sized m₀) (eqb (standing m b) 1) (λ _. z)
    (λ _. either (Sized m₀) (eqb (standing m b) 3) (λ _. z) (λ _. either (Sized m₀) (eqb (standing m b) 2) (λ _. z) (λ _. z))))
    (λ _. either (Sized m₀) (eqb (receiver m b) p)
    (λ _. either (Sized m₀) (eqb (standing m b) 1) (λ _. either (Sized m₀) (waiting b m) (λ _. z) (λ _. z))
    (λ _. either (Sized m₀) (eqb (standing m b) 2) (λ _. either (Sized m₀) (waiting b m) (λ _. z) (λ _. z))
    (λ _. either (Sized m₀) (eqb (standing m b) 4) (λ _. z) (λ _. z))))
    (λ _. z))

pub cleaned_size : (p : ℕ) (m : Machine) → Sized m (cleaned p m)
cleaned_size p m =
    fold_keeps (Sized m) (clean_buffer p) (buffers m) (λ b i n z. clean_size p b m n z) (halted p m)
    (either (Sized m) (eqb (state m p) 0) (λ t. (refl, refl)) (λ t. (refl, refl)))

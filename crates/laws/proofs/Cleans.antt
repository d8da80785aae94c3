-- A clean keeps a legal machine legal. Assumes nothing.
use Prim.Native.Nat.{ℕ}
use native.Mathlib.Omega.{arith}
use mathlib.Core.Logic.{inl, inr}
use mathlib.Core.Path.{◌≡◌, refl, sym, ◌∙◌}
use lib.Dec.{eqb}
use borrow.Author.Tests.{eqb-true, eqb-false}
use Rattle.machine.specs.Queue.{Range}
use Rattle.machine.specs.Machine.{Machine, state, owner, receiver, standing, Words}
use Rattle.machine.specs.Machine.{buffers}
use Rattle.machine.specs.Moves.{unlink, waiting, answer_with, withdrawn, clean_buffer}
use Rattle.machine.specs.Request.{Clean}
use Rattle.machine.specs.Refusal.{refusal}
use Rattle.machine.specs.Step.{effect, halted, cleaned}
use Rattle.machine.specs.Legal.{Legal}
use Rattle.lists.proofs.Links.{no_same, refl_same}
use Rattle.lists.proofs.Tests.{inside, passes, either}
use Rattle.lists.proofs.Numbers.{fold_keeps, in_from}
use Rattle.laws.proofs.States.{legal_stop}
use Rattle.laws.proofs.States.{legal_reason}
use Rattle.laws.proofs.Mark.{Unawaited, legal_orphan, legal_free, legal_free_queued}
use Rattle.laws.proofs.Calls.{unawaited, legal_answer_with, legal_answer_unlinked}

pub record Cleaning (p B : ℕ) (n : Machine) : Type 0 where
  pub legal : Legal n
  pub size : n.B ≡ B
  pub stopped : state n p ≡ 0

-- an answer wakes nobody but the owner
answer_size : (b : ℕ) (ws : Words) (n : Machine) → (answer_with b ws n).B ≡ n.B
answer_size b ws n = either (λ (k : Machine). k.B ≡ n.B) (waiting b n) (λ t. refl) (λ t. refl)

answer_others : (b : ℕ) (ws : Words) (n : Machine) (p : ℕ) → (p ≡ owner n b → ⊥) → state (answer_with b ws n) p ≡ state n p
answer_others b ws n p ne = either (λ (k : Machine). state k p ≡ state n p) (waiting b n) (λ t. no_same p (owner n b) 1 _ ne) (λ t. refl)

module _ {p B b : ℕ} {n : Machine} (c : Cleaning p B n) (i : Range n.B b) where
  keeps : {k : Machine} → Legal k → k.B ≡ n.B → state k p ≡ state n p → Cleaning p B k
  keeps l e s = record { legal = l; size = e ∙ c.size; stopped = s ∙ c.stopped }

  clean_own : owner n b ≡ p → Unawaited n b
  clean_own o e k = let z = c.stopped in omega (arith, rw o at e)

  pub clean_one : Cleaning p B (clean_buffer p b n)
  unfolding clean_buffer
  clean_one =
      either (Cleaning p B) (eqb (owner n b) p)
      (λ to. (let o = eqb-true (owner n b) p to in
      either (Cleaning p B) (eqb (standing n b) 1)
      (λ t. keeps (legal_free_queued c.legal i (inl (eqb-true (standing n b) 1 t, refl)) (clean_own o)) refl refl)
      (λ t. either (Cleaning p B) (eqb (standing n b) 3)
      (λ t. keeps (legal_free_queued c.legal i (inr (eqb-true (standing n b) 3 t, o)) (clean_own o)) refl refl)
      (λ t. either (Cleaning p B) (eqb (standing n b) 2)
      (λ t. keeps (legal_orphan c.legal i (eqb-true (standing n b) 2 t) (clean_own o)) refl refl)
      (λ t. c)))))
      (λ to. (let ne : p ≡ owner n b → ⊥ = λ e. eqb-false (owner n b) p to (sym e) in
      either (Cleaning p B) (eqb (receiver n b) p)
      (λ tr. either (Cleaning p B) (eqb (standing n b) 1)
      (λ t. keeps (legal_answer_unlinked c.legal i withdrawn (eqb-true (standing n b) 1 t) (eqb-true (receiver n b) p tr))
      (answer_size b withdrawn (unlink p b n)) (answer_others b withdrawn (unlink p b n) p ne))
      (λ t. either (Cleaning p B) (eqb (standing n b) 2)
      (λ t. keeps (legal_answer_with c.legal i withdrawn (eqb-true (standing n b) 2 t)) (answer_size b withdrawn n) (answer_others b withdrawn n p ne))
      (λ t. either (Cleaning p B) (eqb (standing n b) 4)
      (λ t.
      (let s4 = eqb-true (standing n b) 4 t in
      keeps (legal_free c.legal i (omega arith) (omega arith) (unawaited c.legal i (omega arith))) refl refl))
      (λ t. c))))
      (λ tr. c)))

-- first the process halts
pub halted_cleaning : {m : Machine} → Legal m → {a : ℕ} → Range m.P a → Cleaning a m.B (halted a m)
halted_cleaning {m} L {a} i =
    either (Cleaning a m.B) (eqb (state m a) 0)
    (λ t. record { legal = legal_reason L i; size = refl; stopped = eqb-true (state m a) 0 t })
    (λ t. record { legal = legal_stop L i; size = refl; stopped = refl_same a 0 _ })

pub cleaned_cleaning : {m : Machine} → Legal m → {a : ℕ} → Range m.P a → Cleaning a m.B (cleaned a m)
cleaned_cleaning {m} L {a} i =
    fold_keeps (Cleaning a m.B) (clean_buffer a) (buffers m)
    (λ b j n c. clean_one c (let k = in_from b 1 m.B j in omega (arith, c.size)))
    (halted a m) (halted_cleaning L i)

pub clean : {m : Machine} → Legal m → (a : ℕ) → refusal m (Clean a) ≡ 0 → Legal (effect m (Clean a)).machine
unfolding refusal effect
clean {m} L a e = (cleaned_cleaning L (inside m.P a (passes _ (omega arith) e).0)).legal

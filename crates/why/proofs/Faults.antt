-- What is told: nothing exactly if the words are a sound table, and else the first clause that fails, at the first record at which it does.
-- Assumes nothing.
use mathlib.Core.Path.{◌≡◌, refl, sym, subst, ◌∙◌}
use mathlib.Core.Logic.{◌↔◌, ⊎_elim}
use mathlib.Core.Bool.{Bool, true, false, true≢false}
use mathlib.Core.List.{List}
use Prim.Native.Nat.{ℕ, zero, suc, ◌+◌, ◌≤◌, ◌<◌}
use native.Mathlib.Omega.{arith}
use native.Mathlib.Nat.{eq-or-lt_of_le}
use native.Mathlib.Numerals.{add-one}
use lib.Dec.{eqb}
use borrow.Author.Tests.{eqb-true, eqb-false, eq-eqb, ne_eqb}
use Rattle.machine.specs.Queue.{Range}
use Rattle.machine.specs.Sound.{Sound}
use Rattle.lists.proofs.Tests.{tested}
use Rattle.why.specs.Clause.{last_clause, clause_of, records, right}
use Rattle.why.specs.Fault.{lowest, failing, broken, told, telling, fault}
use Rattle.why.specs.Says.{Says}
use Rattle.why.specs.declared.Fault.{Fault}
use Rattle.why.proofs.Told.{clause_tells}
use Rattle.why.proofs.Denied.{clause_denies}
use Rattle.why.proofs.Whole.{AllHold, sound_of, holds_of}

-- ---- the lowest that fails, as a loop goes: none passed, one more passes, one fails
module _ (f : ℕ → Bool) where
  pub lowest_none : lowest f 0 ≡ 0
  unfolding lowest
  lowest_none = refl

  pub lowest_more : (k : ℕ) → lowest f k ≡ 0 → f (k + 1) ≡ true → lowest f (k + 1) ≡ 0
  unfolding lowest
  lowest_more k e t = let u : f (suc k) ≡ true = simp add-one at t in rw add-one (rw (e, u) refl)

  lowest_stays : (k n : ℕ) → lowest f k ≡ k → (k ≡ 0 → ⊥) → k ≤ n → lowest f n ≡ k
  unfolding lowest
  lowest_stays k zero e z l = absurd (z (omega arith))
  lowest_stays k (suc n) e z l =
      ⊎_elim (λ i. subst (λ (m : ℕ). lowest f m ≡ k) i e) (λ i. (let h = lowest_stays k n e z (omega arith) in rw (h, ne_eqb k 0 z) refl)) (eq-or-lt_of_le l)

  pub lowest_fails : (k n : ℕ) → lowest f k ≡ 0 → f (k + 1) ≡ false → k < n → lowest f n ≡ k + 1
  unfolding lowest
  lowest_fails k n e t l = lowest_stays (k + 1) n here (λ z. omega arith) (omega arith)
    where
      here : lowest f (k + 1) ≡ k + 1
      here = let u : f (suc k) ≡ false = simp add-one at t in rw add-one (rw (e, u) refl)

  pub lowest_passed : (n : ℕ) → lowest f n ≡ 0 → (p : ℕ) → Range n p → f p ≡ true
  unfolding lowest
  lowest_passed zero e p r = absurd (omega arith)
  lowest_passed (suc n) e p r =
      tested (eqb (lowest f n) 0)
      (λ t. ⊎_elim (λ i. rw i (last t)) (λ i. lowest_passed n (eqb-true (lowest f n) 0 t) p (omega arith)) (eq-or-lt_of_le r.1))
      (λ t. absurd (eqb-false (lowest f n) 0 t (rw t at e)))
    where
      last : eqb (lowest f n) 0 ≡ true → f (suc n) ≡ true
      last t = tested (f (suc n)) (λ u. u) (λ u. absurd (no (rw (t, u) at e)))
        where
          no : suc n ≡ 0 → ⊥
          no z = omega arith

  pub passed_lowest : (n : ℕ) → ((p : ℕ) → Range n p → f p ≡ true) → lowest f n ≡ 0
  unfolding lowest
  passed_lowest zero h = refl
  passed_lowest (suc n) h = rw (passed_lowest n (λ p r. h p (omega arith)), h (suc n) (omega arith)) refl

  -- where one fails: which one
  pub record Lowest (n k : ℕ) : Type 0 where
    pub one : Range n k
    pub fails : f k ≡ false
    pub before : (p : ℕ) → Range n p → p < k → f p ≡ true

  pub lowest_is : (n : ℕ) → (lowest f n ≡ 0 → ⊥) → Lowest n (lowest f n)
  unfolding lowest
  lowest_is zero z = absurd (z refl)
  lowest_is (suc n) z =
      tested (eqb (lowest f n) 0)
      (λ t. tested (f (suc n)) (λ u. absurd (z (rw (t, u) refl)))
      (λ u. rw (t, u) (record { one = omega arith; fails = u; before = λ p r l. lowest_passed n (eqb-true (lowest f n) 0 t) p (omega arith) })))
      (λ t. (let h = lowest_is n (eqb-false (lowest f n) 0 t) in
      rw t (record { one = omega (arith, h.one); fails = h.fails; before = λ p r l. h.before p (omega (arith, h.one)) l })))

-- ---- what is told
module _ (w : List ℕ) where
  its_clause : (c : ℕ) → (telling w c).clause ≡ c
  its_clause c = tested (eqb c 0) (λ t. rw t (sym (eqb-true c 0 t))) (λ t. rw t refl)

  -- no clause fails
  hold : broken w ≡ 0 → AllHold w
  hold e c r n i =
      (clause_tells w (clause_of c) n).holds
      (lowest_passed (right w (clause_of c)) (records w (clause_of c))
      (eqb-true (failing w c) 0 (lowest_passed (λ k. eqb (failing w k) 0) last_clause e c r)) n i)

  right_all : Sound w → (c : ℕ) → failing w c ≡ 0
  right_all S c = passed_lowest (right w (clause_of c)) (records w (clause_of c))
      (λ r i. (clause_tells w (clause_of c) r).back (holds_of w S (clause_of c) r i))

  unbroken : Sound w → broken w ≡ 0
  unbroken S = passed_lowest (λ k. eqb (failing w k) 0) last_clause (λ c r. eq-eqb (failing w c) 0 (right_all S c))

  pub fault_sound : Sound w → fault w ≡ told 0 0 0
  fault_sound S = rw (unbroken S) refl

  -- clause 0 is told exactly of a sound table
  pub fault_none : ((fault w).clause ≡ 0) ↔ Sound w
  fault_none = ((λ e. sound_of w (hold (sym (its_clause (broken w)) ∙ e))), (λ S. rw (fault_sound S) refl))

  -- else what is told is true of the words
  says : (c : ℕ) → (c ≡ 0 → ⊥) → Lowest (λ k. eqb (failing w k) 0) last_clause c → Says w (telling w c)
  says c n l =
      let z = eqb-false (failing w c) 0 l.fails in
      let h = lowest_is (right w (clause_of c)) (records w (clause_of c)) z in
      rw (ne_eqb c 0 n) (record {
        numbered = l.one;
        there = h.one;
        fails = λ k. true≢false (sym ((clause_tells w (clause_of c) (failing w c)).back k) ∙ h.fails);
        denied = clause_denies w (clause_of c) (failing w c) h.fails;
        named = refl;
        first = λ r i j. (clause_tells w (clause_of c) r).holds (h.before r i j);
        before = λ k i j r m. (clause_tells w (clause_of k) r).holds
            (lowest_passed (right w (clause_of k)) (records w (clause_of k)) (eqb-true (failing w k) 0 (l.before k i j)) r m);
      })

  pub fault_says : ((fault w).clause ≡ 0 → ⊥) → Says w (fault w)
  fault_says n =
      let b : broken w ≡ 0 → ⊥ = λ e. n (its_clause (broken w) ∙ e) in says (broken w) b (lowest_is (λ k. eqb (failing w k) 0) last_clause b)

  -- any two answers that are so are one
  pub one_answer : (f g : Fault) → f ≡ fault w → g ≡ fault w → f ≡ g
  one_answer f g a b = a ∙ sym b

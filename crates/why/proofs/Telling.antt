-- What is known while the clauses are passed one after the other, and what is told where one fails. Assumes nothing.
use mathlib.Core.Path.{◌≡◌, refl, sym, ap, subst, ◌∙◌}
use mathlib.Core.Bool.{Bool, true, false}
use mathlib.Core.List.{List}
use Rattle.std.proofs.Common.{Option, Some, None}
use Rattle.why.specs.declared.Fault.{Fault}
use Prim.Native.Nat.{ℕ, ◌+◌, ◌-◌, ◌≤◌, ◌<◌}
use native.Mathlib.Omega.{arith}
use lib.Dec.{eqb}
use borrow.Author.Tests.{eqb-true, ne_eqb}
use Rattle.machine.specs.Queue.{Range}
use Rattle.lists.specs.Counts.{all}
use Rattle.lists.proofs.Tells.{all_holds}
use Rattle.lists.proofs.Tests.{tested}
use Rattle.why.specs.Clause.{Clause, last_clause, clause_of, sort, many, records, right, Holds, place}
use Rattle.why.specs.Looked.{Looked, Ready, sort_by, if_fails}
use Rattle.why.specs.Fault.{lowest, failing, broken, told, fault}
use Rattle.why.proofs.Told.{clause_tells}
use Rattle.why.proofs.Faults.{lowest_passed, lowest_fails}

-- of what a clause speaks, and its number
sorts : all (λ c. eqb (sort_by c) (sort (clause_of c))) 48 ≡ true
unfolding all sort_by clause_of
sorts = refl

pub sorted_by : (w : List ℕ) (c : ℕ) → Range last_clause c → many w (sort_by c) ≡ records w (clause_of c)
sorted_by w c r = ap (many w) (eqb-true (sort_by c) (sort (clause_of c)) (all_holds (λ x. eqb (sort_by x) (sort (clause_of x))) 48 sorts c r.0 r.1))

module _ {w : List ℕ} where
  pub ready_at : (n : ℕ) {c : ℕ} → c ≡ n → Ready w c → Ready w n
  ready_at n e r = subst (Ready w) e r

  -- ---- what was found
  pub found_right : {k : Clause} {r : ℕ} {f : Option ℕ} → Looked w k r f → f ≡ None → right w k r ≡ true
  found_right {k} {r} {f} l e =
      tested (right w k r) (λ t. t) (λ t. (let h : f ≡ Some (place w k r) = rw t at l.is in let g : None ≡ Some (place w k r) = sym e ∙ h in absurd (cc)))

  pub found_wrong : {k : Clause} {r : ℕ} {f : Option ℕ} {i : ℕ} → Looked w k r f → f ≡ Some i → right w k r ≡ false
  found_wrong {k} {r} {f} {i} l e =
      tested (right w k r) (λ t. (let h : f ≡ None = rw t at l.is in let g : Some i ≡ None = sym e ∙ h in absurd (cc))) (λ t. t)

  place_found : {k : Clause} {r : ℕ} {f : Option ℕ} {i : ℕ} → Looked w k r f → f ≡ Some i → i ≡ place w k r
  place_found {k} {r} {f} {i} l e =
      let t = found_wrong l e in
      let h : f ≡ Some (place w k r) = rw t at l.is in
      let g : Some i ≡ Some (place w k r) = sym e ∙ h in
      (cc)

-- ---- record by record: the first that fails, and none
module _ (w : List ℕ) (c : ℕ) where
  pub fails_at : (r : ℕ) {i : ℕ} → 1 ≤ r → r ≤ records w (clause_of c) → lowest (right w (clause_of c)) (r - 1) ≡ 0
      → Looked w (clause_of c) r (Some i) → Some (told c r i) ≡ if_fails w c
  fails_at r {i} l u h k =
      let e : r - 1 + 1 ≡ r = omega arith in
      let t : right w (clause_of c) r ≡ false = found_wrong k refl in
      let f : failing w c ≡ r = rw e at (lowest_fails (right w (clause_of c)) (r - 1) (records w (clause_of c)) h (rw e t) (omega arith)) in
      let p : i ≡ place w (clause_of c) r = place_found k refl in
      rw (f, ne_eqb r 0 (λ z. omega arith), p) refl

  pub fails_not : failing w c ≡ 0 → None ≡ if_fails w c
  fails_not h = rw h refl

-- ---- clause by clause
module _ (w : List ℕ) where
  abbrev pub passes : ℕ → Bool
  passes k = eqb (failing w k) 0

  module _ (c : ℕ) (p : lowest passes c ≡ 0) where
    held : (k r : ℕ) → Range c k → Range (records w (clause_of k)) r → Holds w (clause_of k) r
    held k r i j =
        (clause_tells w (clause_of k) r).holds
        (lowest_passed (right w (clause_of k)) (records w (clause_of k)) (eqb-true (failing w k) 0 (lowest_passed passes c p k i)) r j)

    -- what the next clause may rely on
    pub ready : Ready w (c + 1)
    unfolding clause_of
    ready =
        record {
          header = λ l. held 1 1 (omega arith) (omega arith);
          few = λ l. ((held 2 1 (omega arith) (omega arith)).1, (held 3 1 (omega arith) (omega arith), held 4 1 (omega arith) (omega arith)));
          sized = λ l. record {
            some = (held 2 1 (omega arith) (omega arith)).0;
            P32 = (held 2 1 (omega arith) (omega arith)).1;
            B128 = held 3 1 (omega arith) (omega arith);
            S16 = held 4 1 (omega arith) (omega arith);
            long = held 5 1 (omega arith) (omega arith);
          };
        }

    -- it fails: this is told
    pub tells : {f : Fault} → c < last_clause → if_fails w (c + 1) ≡ Some f → f ≡ fault w
    tells {f} l e =
        tested (eqb (failing w (c + 1)) 0)
        (λ t. (let h : None ≡ Some f = rw t at e in absurd (cc)))
        (λ t. (let g : Some (told (c + 1) (failing w (c + 1)) (place w (clause_of (c + 1)) (failing w (c + 1)))) ≡ Some f = rw t at e in
        let b : broken w ≡ c + 1 = lowest_fails passes c last_clause p t l in
        rw b (rw (ne_eqb (c + 1) 0 (λ z. omega arith)) (cc))))

  pub passed : (c : ℕ) → if_fails w c ≡ None → passes c ≡ true
  passed c e = tested (eqb (failing w c) 0) (λ t. t)
      (λ t. (let h : Some (told c (failing w c) (place w (clause_of c) (failing w c))) ≡ None = rw t at e in absurd (cc)))

  -- none failed
  pub tells_none : lowest passes last_clause ≡ 0 → told 0 0 0 ≡ fault w
  tells_none p = rw p refl

-- A queue followed, record by record. Assumes nothing.
use mathlib.Core.Path.{◌≡◌, refl, ap, ◌∙◌}
use mathlib.Core.Bool.{true, false}
use mathlib.Core.List.{List}
use Prim.Native.Nat.{ℕ, zero, suc, ◌≤◌}
use native.Mathlib.Omega.{arith}
use lib.ListN.{get_or}
use borrow.Author.Tests.{eq-eqb, ne_eqb}
use Rattle.why.specs.QueueParts.{Queues, queues, among, meets}
use Rattle.why.specs.Looked.{Sized}
use Rattle.why.proofs.ByKind.{next_at}

-- ---- a queue followed: none left, out of range, met, one further
module _ (q : Queues) (x : ℕ) where
  pub meets_spent : (at : ℕ) → meets q 0 at x ≡ false
  unfolding meets
  meets_spent at = refl

  pub meets_out : (k at : ℕ) → among q.records at ≡ false → meets q k at x ≡ false
  unfolding meets
  meets_out zero at e = refl
  meets_out (suc k) at e = rw e refl

  pub meets_here : (k at : ℕ) → 1 ≤ k → among q.records at ≡ true → at ≡ x → meets q k at x ≡ true
  unfolding meets
  meets_here zero at l e f = absurd (omega arith)
  meets_here (suc k) at l e f = rw (e, eq-eqb at x f) refl

  pub meets_goes : (k j at : ℕ) → k ≡ suc j → among q.records at ≡ true → (at ≡ x → ⊥) → meets q k at x ≡ meets q j (q.next at) x
  unfolding meets
  meets_goes k j at l e f = rw l (rw (e, ne_eqb at x f) refl)

module _ {w : List ℕ} (z : Sized w) (k : ℕ) where
  abbrev q : Queues
  q = queues w k

  -- the word read
  pub next_read : (x : ℕ) {at v : ℕ} → at ≡ q.links x → v ≡ get_or w at 0 → v ≡ q.next x
  next_read x e f = f ∙ ap (λ (i : ℕ). get_or w i 0) e ∙ next_at z k x

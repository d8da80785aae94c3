-- A pass over records by which processes enter: no entry passes more than 31, so the walk stays small, and there is room in words for one entry more.
-- Assumes nothing.
use Prim.Native.Nat.{ℕ, ◌+◌, ◌*◌, ◌≤◌}
use native.Mathlib.Omega.{arith}
use mathlib.Core.Bool.{not}
use mathlib.Core.Path.{◌≡◌}
use lib.Dec.{eqb}
use borrow.Author.Tests.{eqb-false, not-true}
use Rattle.machine.specs.Queue.{Range}
use Rattle.machine.specs.Machine.{Machine, state}
use Rattle.machine.specs.Walk.{Walk, nowhere, entered}
use Rattle.machine.specs.Legal.{Legal}
use Rattle.lists.proofs.Tests.{either, and_true}
use Rattle.laws.proofs.Passing.{passing_31}
use Rattle.answers.specs.Promise.{walk_to, arrival, Roomy}

pub arrival_32 : {m : Machine} → Legal m → (reason : ℕ) {p : ℕ} → Range m.P p → (n : Machine) → arrival reason p m n ≤ 32
arrival_32 {m} L reason {p} i n =
    either (λ (k : ℕ). k ≤ 32) (entered p m n)
    (λ t. omega (arith, passing_31 L reason i (eqb-false (state m p) 1 (not-true _ (and_true {a = not (eqb (state m p) 1)} t).0))))
    (λ t. omega arith)

-- the walk after k records
pub record Little (k : ℕ) (w : Walk) : Type 0 where
  pub entries : w.entries ≤ k
  pub passed : w.passed ≤ 31 * k

pub little_none : {w : Walk} → w ≡ nowhere → Little 0 w
little_none e = rw e (record { entries = omega arith; passed = omega arith })

-- one record more, by which nobody enters, or one does
pub little_same : {k : ℕ} {w : Walk} → Little k w → Little (k + 1) w
little_same s = record { entries = omega (arith, s.entries); passed = omega (arith, s.passed) }

module _ {k : ℕ} {w : Walk} (s : Little k w) {position : ℕ} (h : position ≤ 32) where
  pub little_roomy : k ≤ 128 → Roomy w position
  little_roomy l = record { entries = omega (arith, s.entries); passed = omega (arith, s.passed) }

  pub little_more : {v : Walk} → v ≡ walk_to position w → Little (k + 1) v
  little_more e =
      rw e (either (Little (k + 1)) (eqb position 0)
      (λ t. record { entries = omega (arith, s.entries); passed = omega (arith, s.passed) })
      (λ t. record { entries = omega (arith, s.entries); passed = omega (arith, s.passed) }))

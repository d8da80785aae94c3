-- A test tells a fact: it is true exactly where the fact holds. Assumes nothing.
use mathlib.Core.Path.{◌≡◌, refl, sym}
use mathlib.Core.Logic.{◌⊎◌, inl, inr, ⊎_elim}
use mathlib.Core.Bool.{Bool, true, false, not, ◌&&◌, ◌||◌, false≢true, and-eq-true_iff}
use Prim.Native.Nat.{ℕ, zero, suc, ◌≤◌}
use native.Mathlib.Omega.{arith}
use native.Mathlib.Nat.{eq-or-lt_of_le}
use lib.Dec.{leb, eqb}
use borrow.Author.Tests.{leb-true, le-leb, eqb-true, eq-eqb}
use Rattle.machine.specs.Queue.{Range}
use Rattle.lists.specs.Counts.{all}

-- all, as a proposition
pub all_holds : (f : ℕ → Bool) (n : ℕ) → all f n ≡ true → (p : ℕ) → 1 ≤ p → p ≤ n → f p ≡ true
unfolding all
all_holds f zero t p l u = absurd (omega arith)
all_holds f (suc n) t p l u =
    let h = (and-eq-true_iff (all f n) (f (suc n))).0 t in
    ⊎_elim (λ e. rw e h.1) (λ s. all_holds f n h.0 p l (omega arith)) (eq-or-lt_of_le u)

pub all_true : (f : ℕ → Bool) (n : ℕ) → ((p : ℕ) → 1 ≤ p → p ≤ n → f p ≡ true) → all f n ≡ true
unfolding all
all_true f zero h = refl
all_true f (suc n) h =
    (and-eq-true_iff (all f n) (f (suc n))).1 (all_true f n (λ p l u. h p l (omega arith)), h (suc n) (omega arith) (omega arith))

pub record Tells (b : Bool) (A : Type 0) : Type 0 where
  pub holds : b ≡ true → A
  pub back : A → b ≡ true

pub eq : (m n : ℕ) → Tells (eqb m n) (m ≡ n)
eq m n = record { holds = eqb-true m n; back = eq-eqb m n }

pub le : (m n : ℕ) → Tells (leb m n) (m ≤ n)
le m n = record { holds = leb-true m n; back = le-leb m n }

pub both : {a b : Bool} {A B : Type 0} → Tells a A → Tells b B → Tells (a && b) (A × B)
both {a} {b} x y =
    record {
      holds = λ t. let h = (and-eq-true_iff a b).0 t in (x.holds h.0, y.holds h.1);
      back = λ h. (and-eq-true_iff a b).1 (x.back h.0, y.back h.1);
    }

pub nay : {a : Bool} {A : Type 0} → Tells a A → Tells (not a) (A → ⊥)
nay {a = true} x = record { holds = λ t. absurd (false≢true t); back = λ h. absurd (h (x.holds refl)) }
nay {a = false} x = record { holds = λ t k. false≢true (x.back k); back = λ h. refl }

-- a or b, where a's fact decides: either as a sum, or as "if not a, then b", or as "if a, then b"
pub either : {a b : Bool} {A B : Type 0} → Tells a A → Tells b B → Tells (a || b) (A ⊎ B)
either {a = true} {b} x y = record { holds = λ t. inl (x.holds refl); back = λ h. refl }
either {a = false} {b} x y = record { holds = λ t. inr (y.holds t); back = λ h. ⊎_elim (λ k. absurd (false≢true (x.back k))) y.back h }

pub unless : {a b : Bool} {A B : Type 0} → Tells a A → Tells b B → Tells (a || b) ((A → ⊥) → B)
unless {a = true} {b} x y = record { holds = λ t n. absurd (n (x.holds refl)); back = λ h. refl }
unless {a = false} {b} x y = record { holds = λ t n. y.holds t; back = λ h. y.back (h (λ k. false≢true (x.back k))) }

pub implies : {a b : Bool} {A B : Type 0} → Tells a A → Tells b B → Tells (not a || b) (A → B)
implies {a = true} {b} x y = record { holds = λ t k. y.holds t; back = λ h. y.back (h (x.holds refl)) }
implies {a = false} {b} x y = record { holds = λ t k. absurd (false≢true (x.back k)); back = λ h. refl }

pub every : (f : ℕ → Bool) (n : ℕ) {F : ℕ → Type 0} → ((p : ℕ) → Tells (f p) (F p)) → Tells (all f n) ((p : ℕ) → Range n p → F p)
every f n x =
    record { holds = λ t p r. (x p).holds (all_holds f n t p r.0 r.1); back = λ h. all_true f n (λ p l u. (x p).back (h p (l, u))) }

-- two tests that tell one fact are one
pub one_test : {a b : Bool} {A : Type 0} → Tells a A → Tells b A → a ≡ b
one_test {a = true} {b = true} x y = refl
one_test {a = true} {b = false} x y = sym (y.back (x.holds refl))
one_test {a = false} {b = true} x y = x.back (y.holds refl)
one_test {a = false} {b = false} x y = refl

-- the same fact in other words
pub said : {b : Bool} {A B : Type 0} → Tells b A → (A → B) → (B → A) → Tells b B
said x f g = record { holds = λ t. f (x.holds t); back = λ h. x.back (g h) }

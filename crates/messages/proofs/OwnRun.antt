-- The lowest free buffer of a process, looked for among its own only. Assumes nothing.
use Prim.Native.Nat.{ℕ, ◌+◌, ◌-◌, ◌≤◌, ◌<◌}
use native.Mathlib.Omega.{arith}
use mathlib.Core.Bool.{false}
use mathlib.Core.Path.{◌≡◌, sym, ap, ◌∙◌}
use borrow.Author.Tests.{eq-eqb, ne_eqb}
use Rattle.machine.specs.Queue.{Range, head}
use Rattle.machine.specs.Machine.{Machine, owns, owner, standing, current}
use Rattle.machine.specs.Refusal.{is_free_own, free_own}
use Rattle.machine.specs.Legal.{Legal}
use Rattle.lists.proofs.Links.{cases}
use Rattle.lists.proofs.Numbers.{first_in, keep_none, keep_lowest}
use Rattle.laws.proofs.Own.{owns_from, owns_only}
use Rattle.messages.specs.Conversations.{MayOwn}

-- none of the i buffers from `first` on is free
abbrev pub Taken : Machine → ℕ → ℕ → Type 0
Taken m first i = (j : ℕ) → j < i → standing m (first + j) ≡ 0 → ⊥

-- with words 10 and 11 of p as they were read
module _ {m : Machine} {p : ℕ} (o : MayOwn p m) {first n : ℕ} (f : first ≡ m.process p 10) (k : n ≡ owns m p) where
  pub own_is : (i : ℕ) → i < n → Range m.B (first + i) × (owner m (first + i) ≡ p)
  own_is i h = rw f (owns_from o.0.fixed p i o.1 (omega arith))

  own_only : (b : ℕ) → Range m.B b → owner m b ≡ p → (first ≤ b) × (b < first + n)
  own_only b r e = rw (f, k) (owns_only o.0.fixed p b o.1 r e)

  -- below the next of them no buffer is free and p's
  below : (i : ℕ) → Taken m first i → (b : ℕ) → Range m.B b → b < first + i → is_free_own m p b ≡ false
  below i none b r h =
      cases (owner m b) p
      (λ e. (let l = own_only b r e in
      let s : first + (b - first) ≡ b = omega arith in
      rw (ne_eqb (standing m b) 0 (rw s at (none (b - first) (omega arith))), eq-eqb (owner m b) p e)))
      (λ d. rw (ne_eqb (owner m b) p d))

  pub own_lowest : (i : ℕ) → i < n → Taken m first i → standing m (first + i) ≡ 0 → first + i ≡ free_own m p
  own_lowest i h none s =
      let a = own_is i h in
      sym (keep_lowest (is_free_own m p) 1 m.B (first + i) a.0.0 (omega arith)
      (λ b l u. below i none b (omega arith) u)
      (rw (eq-eqb (owner m (first + i)) p a.1, eq-eqb (standing m (first + i)) 0 s)))

  pub own_none : Taken m first n → 0 ≡ free_own m p
  own_none none =
      sym (ap head (keep_none (is_free_own m p) 1 m.B
      (λ b l u. (let r : Range m.B b = omega arith in
      cases (owner m b) p (λ e. below n none b r (own_only b r e).1) (λ d. rw (ne_eqb (owner m b) p d))))))

-- the current process is one
pub may_own : {m : Machine} {p : ℕ} → Legal m → p ≡ current m → (p ≡ 0 → ⊥) → MayOwn p m
may_own {m} L e some = (L, rw e (L.running.only (current m) (first_in m.running (λ z. some (e ∙ z)))).0)

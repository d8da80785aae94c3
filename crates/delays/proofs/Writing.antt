-- Links and differences after what a call writes. Assumes nothing.
use mathlib.Core.Path.{◌≡◌, refl, sym, ap, ap₂, ◌∙◌}
use mathlib.Core.List.{List}
use Prim.Native.Nat.{ℕ, ◌+◌, ◌-◌, ◌*◌, ◌≤◌}
use native.Mathlib.Omega.{arith}
use lib.ListN.{get_or}
use lib.Seq.{get_or-set_same, get_or-set_other}
use lib.Dec.{eqb, leb}
use borrow.Author.Tests.{eqb-true, eqb-false}
use Rattle.machine.specs.Queue.{if, Range}
use Rattle.lists.proofs.Tests.{either}
use Rattle.delays.specs.Words.{P_of, next, difference, put_next, put_difference, Sized, sum, later, earlier, unlinked, linked}
use Rattle.delays.proofs.Reading.{next_link, next_small, P_put_next, P_put_difference, after_next, after_difference}
use Rattle.delays.proofs.Taking.{Took}
use Rattle.delays.proofs.Putting.{PutsDelay}

-- a link is read alike where its word and P are the same
next_same : (t u : List ℕ) (y : ℕ) → get_or u (2 * y) 0 ≡ get_or t (2 * y) 0 → P_of u ≡ P_of t → next u y ≡ next t y
unfolding next
next_same t u y e f = ap₂ (λ (l P : ℕ). if (leb l P) l 0) e f

module _ (t : List ℕ) where
  pub next_here : (b v : ℕ) → Sized t → b ≤ P_of t → v ≤ P_of t → next (put_next b v t) b ≡ v
  next_here b v s h l =
      let e : get_or (put_next b v t) (2 * b) 0 ≡ v = get_or-set_same t (2 * b) v 0 (omega (arith, s.long)) in
      sym (next_link (put_next b v t) b (omega (arith, e, P_put_next t b v))) ∙ e

  pub next_else : (b v y : ℕ) → (y ≡ b → ⊥) → next (put_next b v t) y ≡ next t y
  next_else b v y n = next_same t (put_next b v t) y (get_or-set_other t (2 * b) (2 * y) v 0 (λ e. n (omega (arith, e)))) (P_put_next t b v)

  pub next_difference : (p v y : ℕ) → 1 ≤ p → next (put_difference p v t) y ≡ next t y
  next_difference p v y h = next_same t (put_difference p v t) y (get_or-set_other t (2 * p + 1) (2 * y) v 0 (λ e. omega (arith, e))) (P_put_difference t p v h)

  pub difference_next : (b v y : ℕ) → difference (put_next b v t) y ≡ difference t y
  difference_next b v y = get_or-set_other t (2 * b) (2 * y + 1) v 0 (λ e. omega (arith, e))

  pub difference_here : (p v : ℕ) → Sized t → p ≤ P_of t → difference (put_difference p v t) p ≡ v
  difference_here p v s h = get_or-set_same t (2 * p + 1) v 0 (omega (arith, s.long))

  pub difference_else : (p v y : ℕ) → (y ≡ p → ⊥) → difference (put_difference p v t) y ≡ difference t y
  difference_else p v y n = get_or-set_other t (2 * p + 1) (2 * y + 1) v 0 (λ e. n (omega (arith, e)))

  -- x ends later or earlier
  pub next_later : (x d y : ℕ) → next (later x d t) y ≡ next t y
  next_later x d y = either (λ (u : List ℕ). next u y ≡ next t y) (eqb x 0) (λ e. refl) (λ e. next_difference x _ y (omega (arith, eqb-false x 0 e)))

  pub next_earlier : (x d y : ℕ) → next (earlier x d t) y ≡ next t y
  next_earlier x d y = either (λ (u : List ℕ). next u y ≡ next t y) (eqb x 0) (λ e. refl) (λ e. next_difference x _ y (omega (arith, eqb-false x 0 e)))

  pub later_here : (x d : ℕ) → Sized t → x ≤ P_of t → (x ≡ 0 → ⊥) → difference (later x d t) x ≡ sum (difference t x) d
  later_here x d s h n = either (λ (u : List ℕ). difference u x ≡ sum (difference t x) d) (eqb x 0) (λ e. absurd (n (eqb-true x 0 e)))
      (λ e. difference_here x _ s h)

  pub earlier_here : (x d : ℕ) → Sized t → x ≤ P_of t → (x ≡ 0 → ⊥) → difference (earlier x d t) x ≡ difference t x - d
  earlier_here x d s h n = either (λ (u : List ℕ). difference u x ≡ difference t x - d) (eqb x 0) (λ e. absurd (n (eqb-true x 0 e)))
      (λ e. difference_here x _ s h)

  pub later_else : (x d y : ℕ) → (y ≡ x → ⊥) → difference (later x d t) y ≡ difference t y
  later_else x d y n = either (λ (u : List ℕ). difference u y ≡ difference t y) (eqb x 0) (λ e. refl) (λ e. difference_else x _ y n)

  pub earlier_else : (x d y : ℕ) → (y ≡ x → ⊥) → difference (earlier x d t) y ≡ difference t y
  earlier_else x d y n = either (λ (u : List ℕ). difference u y ≡ difference t y) (eqb x 0) (λ e. refl) (λ e. difference_else x _ y n)

-- ---- taken out
pub took : (t : List ℕ) (b p : ℕ) → Sized t → b ≤ P_of t → ((next t p ≡ 0 → ⊥)
    → difference t (next t p) + difference t p ≡ sum (difference t (next t p)) (difference t p))
    → Took (next t) (difference t) (next (unlinked b p t)) (difference (unlinked b p t)) b p
took t b p s h f =
    let x : ℕ = next t p in
    let u : List ℕ = put_next b x t in
    let a = after_next t b x refl s in
    record {
      here = next_later u x _ b ∙ next_here t b x s h (next_small t p);
      links = λ y n. next_later u x _ y ∙ next_else t b x y n;
      its = λ n. later_here u x _ a.size (omega (arith, a.processes, next_small t p)) n
          ∙ ap (λ (c : ℕ). sum c (difference t p)) (difference_next t b x x) ∙ sym (f n);
      differences = λ y n. later_else u x _ y n ∙ difference_next t b x y;
    }

-- ---- put in
pub puts : (t : List ℕ) (b c p : ℕ) → Sized t → b ≤ P_of t → Range (P_of t) p → (b ≡ p → ⊥) → (next t b ≡ p → ⊥)
    → PutsDelay (next t) (difference t) (next (linked b c p t)) (difference (linked b c p t)) b c p
puts t b c p s h i n m =
    let x : ℕ = next t b in
    let l = next_small t b in
    let t₁ : List ℕ = put_next p x t in
    let t₂ : List ℕ = put_difference p c t₁ in
    let t₃ : List ℕ = put_next b p t₂ in
    let a = after_next t p x refl s in
    let a' = after_difference t₁ p c refl i.0 a.size in
    let a'' = after_next t₂ b p refl a'.size in
    let q : P_of t₂ ≡ P_of t = a'.processes ∙ a.processes in
    record {
      here = next_earlier t₃ x c b ∙ next_here t₂ b p a'.size (omega (arith, q)) (omega (arith, q, i.1));
      mine = next_earlier t₃ x c p ∙ next_else t₂ b p p (λ e. n (sym e)) ∙ next_difference t₁ p c p i.0 ∙ next_here t p x s i.1 l;
      links = λ y k j. next_earlier t₃ x c y ∙ next_else t₂ b p y k ∙ next_difference t₁ p c y i.0 ∙ next_else t p x y j;
      my = earlier_else t₃ x c p (λ e. m (sym e)) ∙ difference_next t₂ b p p ∙ difference_here t₁ p c a.size (omega (arith, a.processes, i.1));
      its = λ k. earlier_here t₃ x c a''.size (omega (arith, a''.processes, q, l)) k
          ∙ ap (λ (w : ℕ). w - c) (difference_next t₂ b p x ∙ difference_else t₁ p c x m ∙ difference_next t p x x);
      differences = λ y j k. earlier_else t₃ x c y k ∙ difference_next t₂ b p y ∙ difference_else t₁ p c y j ∙ difference_next t p x y;
    }

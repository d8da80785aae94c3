-- All event queues at once: the sum of their lengths decides whether each holds all that belong there. Assumes nothing.
use mathlib.Core.Path.{◌≡◌, refl, sym, ap, ◌∙◌}
use mathlib.Core.Logic.{⊎_elim}
use mathlib.Core.Bool.{Bool, true, false, false≢true}
use mathlib.Core.List.{List}
use Prim.Native.Nat.{ℕ, zero, suc, ◌+◌, ◌-◌, ◌≤◌, ◌<◌}
use native.Mathlib.Numerals.{add-one}
use native.Mathlib.Omega.{arith}
use native.Mathlib.Nat.{eq-or-lt_of_le}
use lib.ListN.{length}
use lib.Dec.{eqb}
use borrow.Author.Tests.{eqb-true, eq-eqb, eqb-false, ne_eqb}
use Rattle.machine.specs.Queue.{if, Range}
use Rattle.machine.specs.Machine.{given}
use Rattle.lists.proofs.Tells.{Tells}
use Rattle.lists.specs.Counts.{bit, count}
use Rattle.sound.specs.Queues.{failed, sweep}

-- ---- a sweep by its steps
pub sweep_none : (go : ℕ → ℕ → ℕ) (k : ℕ) → k ≡ sweep go 0 k
unfolding sweep
sweep_none go k = refl

pub sweep_next : (go : ℕ → ℕ → ℕ) (p k : ℕ) → (sweep go p k ≡ failed → ⊥) → sweep go (suc p) k ≡ go (suc p) (sweep go p k)
unfolding sweep
sweep_next go p k n = rw (ne_eqb (sweep go p k) failed n) refl

-- a step from p, and one that failed
pub sweep_further : (go : ℕ → ℕ → ℕ) (p k l r : ℕ) → l ≡ sweep go p k → (l ≡ failed → ⊥) → r ≡ go (p + 1) l → r ≡ sweep go (p + 1) k
sweep_further go p k l r e n h = rw add-one (rw (sweep_next go p k (λ z. n (e ∙ z))) (rw (add-one, e) at h))

sweep_stuck : (go : ℕ → ℕ → ℕ) (p d k : ℕ) → sweep go p k ≡ failed → sweep go (d + p) k ≡ failed
unfolding sweep
sweep_stuck go p zero k e = let z : 0 + p ≡ p = omega arith in rw z e
sweep_stuck go p (suc d) k e = let z : suc d + p ≡ suc (d + p) = omega arith in let h = sweep_stuck go p d k e in
    rw z (rw (eq-eqb (sweep go (d + p) k) failed h) refl)

pub sweep_fails : (go : ℕ → ℕ → ℕ) (p n k r : ℕ) → p + 1 ≤ n → r ≡ sweep go (p + 1) k → r ≡ failed → eqb (sweep go n k) 0 ≡ false
sweep_fails go p n k r l e f =
    let z : (n - (p + 1)) + (p + 1) ≡ n = omega arith in
    let h : sweep go n k ≡ failed = rw z at (sweep_stuck go (p + 1) (n - (p + 1)) k (sym e ∙ f)) in
    ne_eqb (sweep go n k) 0 (omega arith)

-- ---- all of 1 to P, where `go p` follows a chain K p, of which at most c p records belong there
module _ (go : ℕ → ℕ → ℕ) (K : ℕ → List ℕ → Type 0) (c : ℕ → ℕ)
    (followed_to : (p k r : ℕ) → go p k ≡ r → (r ≡ failed → ⊥) → (q : List ℕ) × (length q + r ≡ k) × K p q)
    (goes : (p : ℕ) (q : List ℕ) (k : ℕ) → K p q → length q ≤ k → go p k ≡ k - length q)
    (most : (p : ℕ) (q : List ℕ) → K p q → length q ≤ c p) where
  abbrev Full : ℕ → Type 0
  Full p = (q : List ℕ) × K p q × (length q ≡ c p)

  last_step : (p k r : ℕ) → sweep go (suc p) k ≡ r → (r ≡ failed → ⊥) → (sweep go p k ≡ failed → ⊥) × (go (suc p) (sweep go p k) ≡ r)
  unfolding sweep
  last_step p k r t n = by (eqb (sweep go p k) failed) refl t
    where
      by : (x : Bool) → eqb (sweep go p k) failed ≡ x → if x failed (go (suc p) (sweep go p k)) ≡ r → (sweep go p k ≡ failed → ⊥)
          × (go (suc p) (sweep go p k) ≡ r)
      by true e h = absurd (n (sym h))
      by false e h = (eqb-false (sweep go p k) failed e, h)

  -- no more is taken than there is
  pub bound : (p k r : ℕ) → sweep go p k ≡ r → (r ≡ failed → ⊥) → k ≤ r + given c p
  unfolding given
  bound zero k r t n = omega (arith, sweep_none go k)
  bound (suc p) k r t n =
      let u = last_step p k r t n in
      let b = bound p k (sweep go p k) refl u.0 in
      let w = followed_to (suc p) (sweep go p k) r u.1 n in
      let m = most (suc p) w.0 w.2 in
      omega (arith, w.1)

  -- where all that there is was taken, each took its own
  exact : (p k r : ℕ) → sweep go p k ≡ r → (r ≡ failed → ⊥) → r + given c p ≤ k → (i : ℕ) → Range p i → Full i
  unfolding given
  exact zero k r t n l i a = absurd (omega arith)
  exact (suc p) k r t n l i a =
      let u = last_step p k r t n in
      let v = bound p k (sweep go p k) refl u.0 in
      let w = followed_to (suc p) (sweep go p k) r u.1 n in
      let m = most (suc p) w.0 w.2 in
      let e : length w.0 ≡ c (suc p) = omega (arith, w.1) in
      ⊎_elim
      (λ (s : i ≡ suc p). rw s (w.0, w.2, e))
      (λ (s : i < suc p). exact p k (sweep go p k) refl u.0 (omega (arith, w.1)) i (omega arith))
      (eq-or-lt_of_le a.1)

  -- and where each holds its own, all is taken
  taken : (p k : ℕ) → k < failed → ((i : ℕ) → Range p i → Full i) → given c p ≤ k → sweep go p k + given c p ≡ k
  unfolding given
  taken zero k s h l = omega (arith, sweep_none go k)
  taken (suc p) k s h l =
      let a : sweep go p k + given c p ≡ k = taken p k s (λ i r. h i (omega arith)) (omega arith) in
      let f = h (suc p) (omega arith) in
      let b = goes (suc p) f.0 (sweep go p k) f.1 (omega (arith, f.2)) in
      let d = sweep_next go p k (omega arith) in
      omega (arith, f.2)

  -- so one test tells them all
  pub sweep_tells : (P : ℕ) → given c P < failed → Tells (eqb (sweep go P (given c P)) 0) ((i : ℕ) → Range P i → Full i)
  sweep_tells P s =
      record {
        holds = λ t i r. (let e = eqb-true (sweep go P (given c P)) 0 t in exact P (given c P) 0 e (omega arith) (omega arith) i r);
        back = λ h. eq-eqb (sweep go P (given c P)) 0 (let e = taken P (given c P) s h (omega arith) in omega arith);
      }

-- ---- the sum of what belongs to each is what belongs to any
given_add : (f g : ℕ → ℕ) (n : ℕ) → given (λ p. f p + g p) n ≡ given f n + given g n
unfolding given
given_add f g zero = refl
given_add f g (suc n) = let h = given_add f g n in omega arith

given_zero : (f : ℕ → ℕ) (n : ℕ) → ((p : ℕ) → Range n p → f p ≡ 0) → given f n ≡ 0
unfolding given
given_zero f zero h = refl
given_zero f (suc n) h = let a = given_zero f n (λ p r. h p (omega arith)) in let b = h (suc n) (omega arith) in omega arith

pub given_counts : (f : ℕ → ℕ → Bool) (g : ℕ → Bool) (P n : ℕ) → ((x : ℕ) → Range n x → given (λ p. bit (f p x)) P ≡ bit (g x))
    → given (λ p. count (f p) n) P ≡ count g n
unfolding count
given_counts f g P zero h = given_zero _ P (λ p r. refl)
given_counts f g P (suc n) h =
    let a = given_counts f g P n (λ x r. h x (omega arith)) in
    let b = h (suc n) (omega arith) in
    given_add (λ p. count (f p) n) (λ p. bit (f p (suc n))) P ∙ cc

-- where each x counts at most once, and all that counts is there, each x is there
module _ (f : ℕ → ℕ → Bool) (g : ℕ → Bool) (P : ℕ) where
  given_most : (n : ℕ) → ((x : ℕ) → Range n x → given (λ p. bit (f p x)) P ≤ bit (g x)) → given (λ p. count (f p) n) P ≤ count g n
  unfolding count
  given_most zero h = omega (arith, given_zero (λ p. count (f p) 0) P (λ p r. refl))
  given_most (suc n) h =
      let a = given_most n (λ x r. h x (omega arith)) in
      let b = h (suc n) (omega arith) in
      omega (arith, given_add (λ p. count (f p) n) (λ p. bit (f p (suc n))) P)

  pub given_each : (n : ℕ) → ((x : ℕ) → Range n x → given (λ p. bit (f p x)) P ≤ bit (g x)) → count g n ≤ given (λ p. count (f p) n) P
      → (x : ℕ) → Range n x → bit (g x) ≤ given (λ p. bit (f p x)) P
  unfolding count
  given_each zero h l x r = absurd (omega arith)
  given_each (suc n) h l x r =
      let a = given_most n (λ y k. h y (omega arith)) in
      let b = h (suc n) (omega arith) in
      let s = given_add (λ p. count (f p) n) (λ p. bit (f p (suc n))) P in
      ⊎_elim
      (λ (e : x ≡ suc n). rw e (omega arith))
      (λ (k : x < suc n). given_each n (λ y i. h y (omega arith)) (omega arith) x (omega arith))
      (eq-or-lt_of_le r.1)

-- none of 1 to P but h
pub given_single : (f : ℕ → Bool) (h P : ℕ) → ((p : ℕ) → (p ≡ h → ⊥) → f p ≡ false) → given (λ p. bit (f p)) P ≤ 1
unfolding given
given_single f h zero n = omega arith
given_single f h (suc P) n = go (given_single f h P n) (f (suc P)) refl
  where
    other : f (suc P) ≡ true → (p : ℕ) → Range P p → p ≡ h → ⊥
    other e p k i = false≢true (sym (n (suc P) (λ j. omega arith)) ∙ e)

    go : given (λ p. bit (f p)) P ≤ 1 → (x : Bool) → f (suc P) ≡ x → given (λ p. bit (f p)) P + bit x ≤ 1
    go i true e = let z = given_zero (λ p. bit (f p)) P (λ p k. ap bit (n p (other e p k))) in omega arith
    go i false e = omega arith

-- one of 1 to P
pub given_some : (f : ℕ → Bool) (P : ℕ) → 1 ≤ given (λ p. bit (f p)) P → (p : ℕ) × Range P p × (f p ≡ true)
unfolding given
given_some f zero h = absurd (omega arith)
given_some f (suc P) h = go (given_some f P) (f (suc P)) refl h
  where
    go : (1 ≤ given (λ p. bit (f p)) P → (p : ℕ) × Range P p × (f p ≡ true)) → (x : Bool) → f (suc P) ≡ x → 1 ≤ given (λ p. bit (f p)) P + bit x
        → (p : ℕ) × Range (suc P) p × (f p ≡ true)
    go i true e l = (suc P, omega arith, e)
    go i false e l = let j = i (omega arith) in (j.0, omega (arith, j.1), j.2)

-- exactly one of 1 to P is h
pub given_one : (f : ℕ → Bool) (h P : ℕ) → Range P h → ((p : ℕ) → (p ≡ h → ⊥) → f p ≡ false) → f h ≡ true → given (λ p. bit (f p)) P ≡ 1
unfolding given
given_one f h zero r n t = absurd (omega arith)
given_one f h (suc P) r n t =
    ⊎_elim
    (λ (e : h ≡ suc P).
    let z = given_zero (λ p. bit (f p)) P (λ p k. ap bit (n p (omega arith))) in
    let y : f (suc P) ≡ true = rw e at t in
    rw y (omega arith))
    (λ (s : h < suc P).
    let i = given_one f h P (omega arith) n t in
    let y : f (suc P) ≡ false = n (suc P) (omega arith) in
    rw y (omega arith))
    (eq-or-lt_of_le r.1)

pub given_nobody : (f : ℕ → Bool) (P : ℕ) → ((p : ℕ) → f p ≡ false) → given (λ p. bit (f p)) P ≡ 0
given_nobody f P n = given_zero _ P (λ p k. ap bit (n p))

-- One step along a chain of waits, as the definitions have it, and the words that go into the room one by one. Assumes nothing.
use mathlib.Core.Path.{◌≡◌, refl, sym, ap, ◌∙◌}
use mathlib.Core.Bool.{true, false}
use mathlib.Core.List.{List, [], ◌∷◌}
use Prim.Native.Nat.{ℕ, zero, suc, ◌+◌, ◌-◌, ◌≤◌, ◌<◌}
use native.Mathlib.Omega.{arith}
use native.Mathlib.Numerals.{sub-one}
use lib.ListN.{length, get_or, set, length-set}
use lib.Seq.{sets}
use lib.Dec.{eqb}
use borrow.Author.Tests.{eq-eqb, ne_eqb}
use Rattle.lists.proofs.Tests.{either}
use Rattle.stuck.specs.declared.chain.Chain.{Chain}
use Rattle.stuck.specs.Waiting.{Waiting}
use Rattle.stuck.specs.Chain.{follow, onward, along}

module _ (w : Waiting) (v : List ℕ) (p : ℕ) where
  pub follow_met : (k : ℕ) → get_or v p 0 ≡ 1 → ◌≡◌ {A = Chain} (record { left = k; ring = true }) (follow w v k p)
  unfolding follow
  follow_met zero e = refl
  follow_met (suc k) e = rw (eq-eqb (get_or v p 0) 1 e)

  pub follow_ends : (k : ℕ) → 1 ≤ k → (get_or v p 0 ≡ 1 → ⊥) → (w.state p ≡ 3 → ⊥) → ◌≡◌ {A = Chain} (record { left = k - 1; ring = false }) (follow w v k p)
  unfolding follow
  follow_ends zero h e n = absurd (omega arith)
  follow_ends (suc k) h e n = rw (sub-one, ne_eqb (get_or v p 0) 1 e, ne_eqb (w.state p) 3 n)

  pub follow_goes : (k : ℕ) → 1 ≤ k → (get_or v p 0 ≡ 1 → ⊥) → w.state p ≡ 3 → follow w (set v p 1) (k - 1) (w.holder p) ≡ follow w v k p
  unfolding follow
  follow_goes zero h e n = absurd (omega arith)
  follow_goes (suc k) h e n = rw (sub-one, ne_eqb (get_or v p 0) 1 e, eq-eqb (w.state p) 3 n)

-- what is left is no more than was
pub follow_left : (w : Waiting) (v : List ℕ) (k p : ℕ) → (follow w v k p).left ≤ k
unfolding follow
follow_left w v zero p = omega arith
follow_left w v (suc k) p =
    either (λ (r : Chain). r.left ≤ suc k) (eqb (get_or v p 0) 1)
    (λ e. omega arith)
    (λ e. either (λ (r : Chain). r.left ≤ suc k) (eqb (w.state p) 3) (λ f. omega (arith, follow_left w (set v p 1) k (w.holder p))) (λ f. omega arith))

-- ---- onward, and along
module _ (w : Waiting) where
  pub onward_stays : (p : ℕ) → (w.state p ≡ 3 → ⊥) → p ≡ onward w p
  unfolding onward
  onward_stays p h = rw (ne_eqb (w.state p) 3 h)

  pub onward_goes : (p : ℕ) → w.state p ≡ 3 → w.holder p ≡ onward w p
  unfolding onward
  onward_goes p h = rw (eq-eqb (w.state p) 3 h)

  pub along_length : (n a : ℕ) → length (along w n a) ≡ n
  unfolding along
  along_length zero a = refl
  along_length (suc n) a = ap suc (along_length n (onward w a))

  pub along_none : (p : ℕ) → along w 0 p ≡ []
  unfolding along
  along_none p = refl

  pub along_more : (j p q : ℕ) → q ≡ onward w p → along w (suc j) p ≡ p ∷ along w j q
  unfolding along
  along_more j p q e = rw e

-- ---- words into the room
-- with i of n words gone into the room from `at` on, which was s and is v, those from p on are next: words j p are j words from p
pub record Writing (words : ℕ → ℕ → List ℕ) (s v : List ℕ) (at a n p i : ℕ) : Type 0 where
  pub few : i ≤ n
  pub same : length v ≡ length s
  pub room : sets v (at + i) (words (n - i) p) ≡ sets s at (words n a)

pub writing_none : (words : ℕ → ℕ → List ℕ) (s : List ℕ) (at a n : ℕ) → Writing words s s at a n a 0
writing_none words s at a n =
    let e : n - 0 ≡ n = omega arith in
    let z : at + 0 ≡ at = omega arith in
    record { few = omega arith; same = refl; room = rw (e, z) }

module _ {words : ℕ → ℕ → List ℕ} {s v : List ℕ} {at a n p i : ℕ} (g : Writing words s v at a n p i) where
  pub writing_goes : {x q m : ℕ} → i < n → m ≡ at + i → ((j : ℕ) → words (suc j) p ≡ x ∷ words j q) → Writing words s (set v m x) at a n q (i + 1)
  writing_goes {x} {q} {m} h f e =
      let k : n - i ≡ suc (n - (i + 1)) = omega arith in
      let z : at + (i + 1) ≡ suc (at + i) = omega arith in
      let l : words (n - i) p ≡ x ∷ words (n - (i + 1)) q = ap (λ (j : ℕ). words j p) k ∙ e (n - (i + 1)) in
      record { few = omega arith; same = length-set v m x ∙ g.same; room = rw (z, f) (sym (ap (sets v (at + i)) l) ∙ g.room) }

  pub writing_done : n ≤ i → words 0 p ≡ [] → v ≡ sets s at (words n a)
  writing_done h e =
      let k : n - i ≡ 0 = omega arith in
      sym (ap (λ (j : ℕ). sets v (at + i) (words j p)) k ∙ ap (sets v (at + i)) e) ∙ g.room

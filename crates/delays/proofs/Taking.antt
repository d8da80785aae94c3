-- A process taken out of the list: found, and the list without it. Assumes nothing.
use mathlib.Core.Path.{◌≡◌, refl, sym, ap, subst, ◌∙◌}
use mathlib.Core.Bool.{true, false}
use mathlib.Core.List.{List, [], ◌∷◌}
use mathlib.Core.Logic.{inl, inr, ⊎_elim}
use Prim.Native.Nat.{ℕ, ◌+◌, ◌-◌, ◌≤◌, ◌<◌}
use native.Mathlib.Omega.{arith}
use lib.ListN.{length}
use borrow.Author.Tests.{eq-eqb, ne_eqb}
use Rattle.machine.specs.Queue.{In, Out, Distinct, without}
use Rattle.lists.proofs.Links.{cases}
use Rattle.lists.proofs.Lists.{without_out}
use Rattle.delays.specs.declared.list.Spot.{Spot}
use Rattle.delays.specs.Words.{next, difference, walk, met, further}
use Rattle.delays.specs.Delays.{LinkedByTime}
use Rattle.delays.proofs.Reading.{sum_under}
use Rattle.delays.proofs.Walks.{spot, walk_stops, walk_goes}
use Rattle.delays.proofs.Standing.{Some, stands_same, stands_behind, walk_in}

-- links and differences after p was taken out from behind b
pub record Took (nx df nx' df' : ℕ → ℕ) (b p : ℕ) : Type 0 where
  pub here : nx' b ≡ nx p
  pub links : (y : ℕ) → (y ≡ b → ⊥) → nx' y ≡ nx y
  pub its : (nx p ≡ 0 → ⊥) → df' (nx p) ≡ df (nx p) + df p
  pub differences : (y : ℕ) → (y ≡ nx p → ⊥) → df' y ≡ df y

module _ (nx df nx' df' : ℕ → ℕ) (p b : ℕ) (d d' : ℕ → ℕ) (took : Took nx df nx' df' b p) (n : nx b ≡ p) (same : (y : ℕ) → (y ≡ p → ⊥) → d' y ≡ d y) where
  -- behind p itself, which ends at `since` plus its difference
  rest_stands : (since : ℕ) (q : List ℕ) → since + df p ≡ d p → LinkedByTime nx df d (nx p) (d p) q → Out b q → Out p q → Distinct q → Some q
      → LinkedByTime nx' df' d' (nx p) since q
  unfolding LinkedByTime
  rest_stands since [] e s o o' c z = s
  rest_stands since (y ∷ q) e s o o' c z =
      let k : nx p ≡ y = s.0 in
      let y≠p : y ≡ p → ⊥ = λ h. o' (inl (sym h)) in
      let m : df' y ≡ df y + df p = subst (λ (w : ℕ). df' w ≡ df w + df p) k (took.its (λ h. omega (arith, h, k, z y (inl refl)))) in
      let l : nx' y ≡ nx y = took.links y (λ h. o (inl (sym h))) in
      let frame = stands_same nx df d nx' df' d' (nx y) (d y) q
      (λ w i. (
        took.links w (λ h. o (inr (subst (λ (v : ℕ). In v q) h i))),
        took.differences w (λ h. c.0 (subst (λ (v : ℕ). In v q) (h ∙ k) i)),
        same w (λ h. o' (inr (subst (λ (v : ℕ). In v q) h i))),
      )) s.2 in
      (k, omega (arith, m, e, s.1, same y y≠p), rw (l, same y y≠p) frame)

  -- from a on, with p among q
  pub taken : (a since : ℕ) (q : List ℕ) → LinkedByTime nx df d (nx a) since q → Distinct (a ∷ q) → Some q → In b (a ∷ q) → In p q → 1 ≤ p
      → LinkedByTime nx' df' d' (nx' a) since (without p q)
  unfolding LinkedByTime without
  taken a since [] s c z i j u = absurd j
  taken a since (x ∷ q) s c z i j u =
      cases x p
      (λ e.
      -- p is the first: b is a
      let h : b ≡ a = ⊎_elim (λ k. k) (λ k. absurd (c.1.0 (subst
      (λ (w : ℕ). In w q) (n ∙ sym e) (stands_behind nx df d x (d x) q b s.2 k (λ m. omega (arith, m, n)))))) i in
      let o : Out p q = λ k. c.1.0 (subst (λ (w : ℕ). In w q) (sym e) k) in
      rw (eq-eqb p x (sym e), without_out p q o)
      (subst (λ (w : ℕ). LinkedByTime nx' df' d' w since q) (sym (ap nx' (sym h) ∙ took.here))
      (rest_stands since q (subst (λ (w : ℕ). since + df w ≡ d w) e s.1) (subst (λ (w : ℕ). LinkedByTime nx df d (nx w) (d w) q) e s.2)
      (λ k. c.0 (inr (subst (λ (w : ℕ). In w q) h k))) o c.1.1 (λ w k. z w (inr k)))))
      (λ e.
      let j' : In p q = ⊎_elim (λ k. absurd (e (sym k))) (λ k. k) j in
      let h : b ≡ a → ⊥ = λ k. e (sym s.0 ∙ ap nx (sym k) ∙ n) in
      let i' : In b (x ∷ q) = ⊎_elim (λ k. absurd (h k)) (λ k. k) i in
      let r = taken x (d x) q s.2 c.1 (λ w k. z w (inr k)) i' j' u in
      let l : nx' a ≡ x = took.links a (λ k. h (sym k)) ∙ s.0 in
      let g : x ≡ nx p → ⊥ = λ k. c.1.0 (subst (λ (w : ℕ). In w q) (sym k)
      (stands_behind nx df d x (d x) q p s.2 (inr j') (λ m. omega (arith, m, k, z x (inl refl))))) in
      rw (ne_eqb p x (λ k. e (sym k)))
      (l, omega (arith, took.differences x g, same x e, s.1), rw (same x e) r))

-- ---- found in the words t
module _ (t : List ℕ) (p : ℕ) (d : ℕ → ℕ) where
  pub seek_in : (k : ℕ) (s : Spot) (since : ℕ) (q : List ℕ) → LinkedByTime (next t) (difference t) d (next t s.before) since q
      → In (walk (met t p) (further t) k s).before (s.before ∷ q)
  seek_in = walk_in (next t) (difference t) d (met t p) (further t) (λ s e. rw (eq-eqb (next t s.before) 0 e)) (λ s. refl)

  pub seek_there : (k b since : ℕ) (q : List ℕ) → length q ≤ k → LinkedByTime (next t) (difference t) d (next t b) since q → Some q
      → ((y : ℕ) → In y q → d y < 65536) → In p q
      → (next t (walk (met t p) (further t) k (spot b since)).before ≡ p) × ((walk (met t p) (further t) k (spot b since)).time + difference t p ≡ d p)
  unfolding LinkedByTime
  seek_there k b since [] h s z l i = absurd i
  seek_there k b since (x ∷ q) h s z l i =
      cases x p
      (λ e. (let stop : met t p (spot b since) ≡ true = rw (s.0, e, ne_eqb p 0 (λ m. omega (arith, m, e, z x (inl refl))), eq-eqb p p refl) in
      rw (walk_stops (met t p) (further t) k (spot b since) stop) (s.0 ∙ e, subst (λ (w : ℕ). since + difference t w ≡ d w) e s.1)))
      (λ e. (let go : met t p (spot b since) ≡ false = rw (s.0, ne_eqb x 0 (λ m. omega (arith, m, z x (inl refl))), ne_eqb x p e) in
      let f : further t (spot b since) ≡ spot x (d x) = rw s.0
      (ap (spot x) (sym (sum_under since (difference t x) (omega (arith, s.1, l x (inl refl)))) ∙ s.1)) in
      rw (walk_goes (met t p) (further t) k (spot b since) go (omega arith), f)
      (seek_there (k - 1) x (d x) q (omega arith) s.2 (λ w j. z w (inr j)) (λ w j. l w (inr j)) (⊎_elim (λ j. absurd (e (sym j))) (λ j. j) i))))

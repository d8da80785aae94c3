-- A process put into the list: its place found, and the list with it. Assumes nothing.
use mathlib.Core.Path.{◌≡◌, refl, sym, ap, subst, ◌∙◌}
use mathlib.Core.Bool.{true, false, not}
use mathlib.Core.List.{List, [], ◌∷◌}
use mathlib.Core.Logic.{inl, inr, ⊎_elim}
use Prim.Native.Nat.{ℕ, ◌+◌, ◌-◌, ◌≤◌, ◌<◌}
use native.Mathlib.Omega.{arith}
use native.Mathlib.Nat.{eq-or-lt_of_le}
use lib.ListN.{length}
use lib.Dec.{eqb, ltb}
use borrow.Author.Tests.{eqb-true, eq-eqb, ne_eqb, ltb-true, ltb-false, lt-ltb, le-ltb}
use Rattle.machine.specs.Queue.{if, In, Out, Distinct}
use Rattle.lists.proofs.Tests.{either, tested, and_true, or_false}
use Rattle.lists.proofs.Links.{cases}
use Rattle.lists.proofs.Lists.{Put, now, later, put_in}
use Rattle.delays.specs.declared.list.Spot.{Spot}
use Rattle.delays.specs.Words.{next, difference, sooner, walk, due_here, nearer}
use Rattle.delays.specs.Delays.{Sooner, Rising, LinkedByTime}
use Rattle.delays.proofs.Walks.{spot, walk_stops, walk_goes}
use Rattle.delays.proofs.Standing.{Some, stands_same, stands_behind, walk_in}

-- links and differences after p was put in behind b, to end c later than b
pub record PutsDelay (nx df nx' df' : ℕ → ℕ) (b c p : ℕ) : Type 0 where
  pub here : nx' b ≡ p
  pub mine : nx' p ≡ nx b
  pub links : (y : ℕ) → (y ≡ b → ⊥) → (y ≡ p → ⊥) → nx' y ≡ nx y
  pub my : df' p ≡ c
  pub its : (nx b ≡ 0 → ⊥) → df' (nx b) ≡ df (nx b) - c
  pub differences : (y : ℕ) → (y ≡ p → ⊥) → (y ≡ nx b → ⊥) → df' y ≡ df y

-- q with p put in, to end at v: behind those that come before it
unfoldable pub insert : (ℕ → ℕ) → ℕ → ℕ → List ℕ → List ℕ
insert d v p [] = p ∷ []
insert d v p (x ∷ q) = if (sooner (d x) x v p) (x ∷ insert d v p q) (p ∷ x ∷ q)

pub put_insert : (d : ℕ → ℕ) (v p : ℕ) (q : List ℕ) → Put p q (insert d v p q)
unfolding insert
put_insert d v p [] = now
put_insert d v p (x ∷ q) = either (Put p (x ∷ q)) (sooner (d x) x v p) (λ e. later (put_insert d v p q)) (λ e. now)

-- ---- the test
pub sooner_true : (c x v p : ℕ) → sooner c x v p ≡ true → (c ≤ v) × (c ≡ v → x < p)
sooner_true c x v p =
    tested {C = sooner c x v p ≡ true → (c ≤ v) × (c ≡ v → x < p)} (ltb c v)
    (λ l e. (omega (arith, ltb-true c v l), λ k. absurd (omega (arith, ltb-true c v l, k))))
    (λ l e. (let h = and_true {a = eqb c v} (rw l at e) in (omega (arith, eqb-true c v h.0), λ k. ltb-true x p h.1)))

pub sooner_false : (c x v p : ℕ) → sooner c x v p ≡ false → (v ≤ c) × (v ≡ c → p ≤ x)
sooner_false c x v p e =
    let h = or_false {a = ltb c v} e in
    (ltb-false c v h.0, λ k. ltb-false x p (rw (eq-eqb c v (sym k)) at h.1))

below : (a b : ℕ) → a ≤ b → (a ≡ b → ⊥) → a < b
below a b h n = ⊎_elim (λ e. absurd (n e)) (λ l. l) (eq-or-lt_of_le h)

-- times since any moment are compared alike
sooner_since : (since c m : ℕ) {d v : ℕ} (x p : ℕ) → since + c ≡ d → since + m ≡ v → sooner c x m p ≡ sooner d x v p
sooner_since since c m {d} {v} x p e f =
    tested (sooner c x m p)
    (λ t. (let h = sooner_true c x m p t in
    t ∙ cases c m
    (λ k. rw (le-ltb d v (omega arith), eq-eqb d v (omega arith), lt-ltb x p (h.1 k)))
    (λ k. (let l : d < v = omega (arith, h.0, below c m h.0 k) in rw (lt-ltb d v l)))))
    (λ t. (let h = sooner_false c x m p t in
    t ∙ cases m c
    (λ k. rw (le-ltb d v (omega arith), eq-eqb d v (omega arith), le-ltb x p (h.1 k)))
    (λ k. (let l : v < d = omega (arith, h.0, below m c h.0 k) in rw (le-ltb d v (omega arith), ne_eqb d v (λ j. omega (arith, j)))))))

-- ---- the order
pub rising_same : (d d' : ℕ → ℕ) (q : List ℕ) → ((y : ℕ) → In y q → d' y ≡ d y) → Rising d q → Rising d' q
rising_same d d' [] s r = tt
rising_same d d' (x ∷ q) s r = (
  λ y i. (omega (arith, s x (inl refl), s y (inr i), (r.0 y i).0), λ k. (r.0 y i).1 (omega (arith, s x (inl refl), s y (inr i), k))),
  rising_same d d' q (λ y i. s y (inr i)) r.1,
)

sooner_trans : (d : ℕ → ℕ) (p x y : ℕ) → Sooner d p x → Sooner d x y → Sooner d p y
sooner_trans d p x y a b = (omega arith, λ k. omega (arith, a.1 (omega arith), b.1 (omega arith)))

pub rising_insert : (d d' : ℕ → ℕ) (p : ℕ) (q : List ℕ) → ((y : ℕ) → In y q → d' y ≡ d y) → Out p q → Rising d q → Rising d' (insert d (d' p) p q)
unfolding insert
rising_insert d d' p [] same o r = (λ y i. absurd i, tt)
rising_insert d d' p (x ∷ q) same o r =
    let e = same x (inl refl) in
    let rest : Rising d' q = rising_same d d' q (λ y i. same y (inr i)) r.1 in
    let first : (y : ℕ) → In y q → Sooner d' x y = λ y i. (
      omega (arith, e, same y (inr i), (r.0 y i).0),
      λ k. (r.0 y i).1 (omega (arith, e, same y (inr i), k)),
    ) in
    either (Rising d') (sooner (d x) x (d' p) p)
    (λ t. (let h = sooner_true (d x) x (d' p) p t in (
      λ y i. ⊎_elim (λ k. rw k (omega (arith, e, h.0), λ j. h.1 (omega (arith, e, j)))) (first y) (put_in (put_insert d (d' p) p q) i),
      rising_insert d d' p q (λ y i. same y (inr i)) (λ i. o (inr i)) r.1,
    )))
    (λ t. (let h = sooner_false (d x) x (d' p) p t in
    let u : Sooner d' p x = (omega (arith, e, h.0), λ j. below p x (h.1 (omega (arith, e, j))) (λ k. o (inl k))) in (
      λ y i. ⊎_elim (λ k. rw k u) (λ j. sooner_trans d' p x y u (first y j)) i,
      (first, rest),
    )))

-- ---- put in
module _ (t : List ℕ) (p : ℕ) (d : ℕ → ℕ) where
  pub place_in : (k : ℕ) (s : Spot) (since : ℕ) (q : List ℕ) → LinkedByTime (next t) (difference t) d (next t s.before) since q
      → In (walk (due_here t p) (nearer t) k s).before (s.before ∷ q)
  place_in = walk_in (next t) (difference t) d (due_here t p) (nearer t) (λ s e. rw (eq-eqb (next t s.before) 0 e)) (λ s. refl)

-- p put in from a on, m later than a, which ends at `since`; found by a walk over the words t
module _ (t : List ℕ) (p : ℕ) (d d' nx' df' : ℕ → ℕ) (same : (y : ℕ) → (y ≡ p → ⊥) → d' y ≡ d y) where
  abbrev Found : Spot → Type 0
  Found s = PutsDelay (next t) (difference t) nx' df' s.before s.time p

  pub put : (k a m since : ℕ) (q : List ℕ) → length q ≤ k → LinkedByTime (next t) (difference t) d (next t a) since q → since + m ≡ d' p → Distinct (a ∷ q)
      → Out p (a ∷ q) → Some q
      → Found (walk (due_here t p) (nearer t) k (spot a m)) → LinkedByTime nx' df' d' (nx' a) since (insert d (d' p) p q)
  unfolding LinkedByTime insert
  put k a m since [] h s e c o z f =
      let stop : due_here t p (spot a m) ≡ true = rw (eq-eqb (next t a) 0 s) in
      let g : Found (spot a m) = subst Found (walk_stops (due_here t p) (nearer t) k (spot a m) stop) f in
      (g.here, omega (arith, g.my, e), g.mine ∙ s)
  put k a m since (x ∷ q) h s e c o z f =
      let x≠0 : x ≡ 0 → ⊥ = λ j. omega (arith, j, z x (inl refl)) in
      let x≠p : x ≡ p → ⊥ = λ j. o (inr (inl (sym j))) in
      let due : due_here t p (spot a m) ≡ not (sooner (d x) x (d' p) p) =
      rw (s.0, ne_eqb x 0 x≠0) (ap not (sooner_since since (difference t x) m x p s.1 e)) in
      either (LinkedByTime nx' df' d' (nx' a) since) (sooner (d x) x (d' p) p)
      (λ b. (let r = sooner_true (d x) x (d' p) p b in
      let go : due_here t p (spot a m) ≡ false = due ∙ ap not b in
      let n : nearer t (spot a m) ≡ spot x (m - difference t x) = rw s.0 in
      let w : walk (due_here t p) (nearer t) k (spot a m) ≡ walk (due_here t p) (nearer t) (k - 1) (spot x (m - difference t x)) =
      walk_goes (due_here t p) (nearer t) k (spot a m) go (omega arith) ∙ ap (walk (due_here t p) (nearer t) (k - 1)) n in
      let g : Found (walk (due_here t p) (nearer t) (k - 1) (spot x (m - difference t x))) = subst Found w f in
      let i = place_in t p d (k - 1) (spot x (m - difference t x)) (d x) q s.2 in
      let u = put (k - 1) x (m - difference t x) (d x) q (omega arith) s.2 (omega (arith, r.0, s.1, e)) c.1 (λ j. o (inr j)) (λ y j. z y (inr j)) g in
      let l : nx' a ≡ x = g.links a (λ j. c.0 (subst (λ (y : ℕ). In y (x ∷ q)) (sym j) i)) (λ j. o (inl (sym j))) ∙ s.0 in
      let y = g.differences x x≠p (λ j. c.1.0 (subst (λ (y : ℕ). In y q) (sym j)
      (stands_behind (next t) (difference t) d x (d x) q _ s.2 i (λ v. x≠0 (j ∙ v))))) in
      (l, omega (arith, y, same x x≠p, s.1), rw (same x x≠p) u)))
      (λ b. (let r = sooner_false (d x) x (d' p) p b in
      let stop : due_here t p (spot a m) ≡ true = due ∙ ap not b in
      let g : Found (spot a m) = subst Found (walk_stops (due_here t p) (nearer t) k (spot a m) stop) f in
      let i : df' x ≡ difference t x - m = subst (λ (y : ℕ). df' y ≡ difference t y - m) s.0 (g.its (λ v. x≠0 (sym s.0 ∙ v))) in
      let l : nx' x ≡ next t x = g.links x (λ j. c.0 (inl (sym j))) x≠p in
      let frame = stands_same (next t) (difference t) d nx' df' d' (next t x) (d x) q
      (λ y j. (let y≠p : y ≡ p → ⊥ = λ v. o (inr (inr (subst (λ (w : ℕ). In w q) v j))) in (
        g.links y (λ v. c.0 (inr (subst (λ (w : ℕ). In w q) v j))) y≠p,
        g.differences y y≠p (λ v. c.1.0 (subst (λ (w : ℕ). In w q) (v ∙ s.0) j)),
        same y y≠p,
      ))) s.2 in
      (g.here, omega (arith, g.my, e), (g.mine ∙ s.0, omega (arith, i, same x x≠p, s.1, r.0, e), rw (l, same x x≠p) frame))))

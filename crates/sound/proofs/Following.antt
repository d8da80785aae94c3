-- Following by its rules, and what it finds: a queue, linked both ways, of records that belong there. Assumes nothing.
use mathlib.Core.Path.{◌≡◌, refl, sym, ◌∙◌}
use mathlib.Core.Logic.{inl, inr, ⊎_elim}
use mathlib.Core.Bool.{Bool, true, false, not, true≢false, false≢true}
use mathlib.Core.List.{List, [], ◌∷◌}
use Prim.Native.Nat.{ℕ, zero, suc, ◌+◌, ◌-◌, ◌≤◌, ◌<◌}
use native.Mathlib.Omega.{arith}
use lib.ListN.{length}
use lib.Dec.{eqb}
use borrow.Author.Tests.{eqb-true, eq-eqb, eqb-false, ne_eqb, not-true, not-false}
use Rattle.machine.specs.Queue.{if, Range, In, Distinct, Linked, IsQueue}
use Rattle.lists.proofs.Links.{linked_once}
use Rattle.lists.proofs.Tells.{Tells}
use Rattle.lists.specs.Counts.{count}
use Rattle.lists.proofs.Counting.{all_there, as_many, at_most}
use Rattle.sound.specs.Queues.{failed, at_end, follow_queue, GoesOn}

-- ---- the rules, as the code goes: the end, no link left, a record that fails, one that passes
module _ (step : ℕ → ℕ → Bool) (next : ℕ → ℕ) (last k at b : ℕ) where
  pub follow_ends : (l r : ℕ) → at ≡ 0 → l ≡ last → r ≡ at_end k b l → r ≡ follow_queue step next last k at b
  unfolding follow_queue
  follow_ends l r e m h = (rw m at h) ∙ go k
    where
      go : (k : ℕ) → at_end k b last ≡ follow_queue step next last k at b
      go zero = rw (eq-eqb at 0 e) refl
      go (suc k) = rw (eq-eqb at 0 e) refl

  pub follow_spent : (at ≡ 0 → ⊥) → k ≡ 0 → failed ≡ follow_queue step next last k at b
  unfolding follow_queue
  follow_spent n z = rw (z, ne_eqb at 0 n) refl

  pub follow_stops : (at ≡ 0 → ⊥) → step b at ≡ false → failed ≡ follow_queue step next last k at b
  unfolding follow_queue
  follow_stops n s = go k
    where
      go : (k : ℕ) → failed ≡ follow_queue step next last k at b
      go zero = rw (ne_eqb at 0 n) refl
      go (suc k) = rw (ne_eqb at 0 n, s) refl

  pub follow_goes : (j x r : ℕ) → suc j ≡ k → (at ≡ 0 → ⊥) → step b at ≡ true → x ≡ next at → r ≡ follow_queue step next last j x at
      → r ≡ follow_queue step next last k at b
  unfolding follow_queue
  follow_goes j x r e n s f h = rw (← e) (rw (ne_eqb at 0 n, s) (rw f at h))

-- ---- link after link
-- the walk from `at`, behind `before`, came to `next`, behind `here`: it ends as it does from there on, with fewer links left
pub record Onward (walk : ℕ → ℕ → ℕ → ℕ) (left at before rest next here : ℕ) : Type 0 where
  pub goes : (r : ℕ) → r ≡ walk rest next here → r ≡ walk left at before
  pub fewer : rest < left

-- what a wrong link tells
pub wrong_link : {walk : ℕ → ℕ → ℕ → ℕ} {left at before n r : ℕ} → failed ≡ walk left at before → GoesOn walk left at before false n r
wrong_link h = record { fails = λ e. h; goes = λ e. absurd (false≢true e); fewer = λ e. absurd (false≢true e) }

module _ {walk : ℕ → ℕ → ℕ → ℕ} {left at before : ℕ} {right : Bool} {n r : ℕ} where
  pub one_link : GoesOn walk left at before right n r → not right ≡ false → Onward walk left at before r n at
  one_link g t = record { goes = g.goes (not-false _ t); fewer = g.fewer (not-false _ t) }

  module _ {rest next here : ℕ} (o : Onward walk left at before rest next here) (g : GoesOn walk rest next here right n r) where
    pub link_more : not right ≡ false → Onward walk left at before r n next
    link_more t = record { goes = λ r h. o.goes r (g.goes (not-false _ t) r h); fewer = omega (arith, o.fewer, g.fewer (not-false _ t)) }

    pub link_wrong : not right ≡ true → failed ≡ walk left at before
    link_wrong t = o.goes failed (g.fails (not-true _ t))

module _ (step : ℕ → ℕ → Bool) (next : ℕ → ℕ) (last : ℕ) {left at before : ℕ} where
  pub link_last : {rest x here l r : ℕ} → Onward (follow_queue step next last) left at before rest x here → x ≡ 0 → l ≡ last → r ≡ at_end rest here l
      → r ≡ follow_queue step next last left at before
  link_last o e m h = o.goes _ (follow_ends step next last _ _ _ _ _ e m h)

  -- what a right link tells
  pub right_link : {n r : ℕ} → suc r ≡ left → (at ≡ 0 → ⊥) → step before at ≡ true → n ≡ next at → GoesOn (follow_queue step next last) left at before true n r
  right_link k m s f =
      record { fails = λ e. absurd (true≢false e); goes = λ e r h. follow_goes step next last left at before _ _ r k m s f h; fewer = λ e. omega arith }

-- ---- chains: what is passed
-- Ord holds of each neighbours along q, the first with b before it
unfoldable pub Ordered : (ℕ → ℕ → Type 0) → ℕ → List ℕ → Type 0
Ordered Ord b [] = Unit {0}
Ordered Ord b (x ∷ q) = Ord b x × Ordered Ord x q

-- q is linked from `at`, behind b, to `last`, and holds records of 1 to n that belong there
pub record Chain (n : ℕ) (next previous : ℕ → ℕ) (last : ℕ) (C : ℕ → Type 0) (Ord : ℕ → ℕ → Type 0) (at b : ℕ) (q : List ℕ) : Type 0 where
  pub linked : Linked next previous at b q last
  pub only : (x : ℕ) → In x q → Range n x × C x
  pub ordered : Ordered Ord b q

module _ (n : ℕ) (next previous : ℕ → ℕ) (last : ℕ) (C : ℕ → Type 0) (Ord : ℕ → ℕ → Type 0) where
  abbrev K : ℕ → ℕ → List ℕ → Type 0
  K at b q = Chain n next previous last C Ord at b q

  chain_none : (at b : ℕ) → at ≡ 0 → b ≡ last → K at b []
  unfolding Linked Ordered
  chain_none at b e l = record { linked = (e, l); only = λ x i. absurd i; ordered = tt }

  chain_more : (at b : ℕ) (q : List ℕ) → Range n at → previous at ≡ b → C at → Ord b at → K (next at) at q → K at b (at ∷ q)
  unfolding Linked Ordered
  chain_more at b q r p c o h =
      record {
        linked = (refl, p, h.linked);
        only = λ x i. ⊎_elim (λ e. rw e (r, c)) (h.only x) i;
        ordered = (o, h.ordered);
      }

  -- its first record, and the chain behind that
  chain_first : (at b x : ℕ) (q : List ℕ) → K at b (x ∷ q) → (at ≡ x) × (previous x ≡ b) × (Range n x × C x) × Ord b x × K (next x) x q
  unfolding Linked Ordered
  chain_first at b x q h =
      let l = h.linked in
      let o = h.ordered in
      (l.0, l.1, h.only x (inl refl), o.0, record { linked = l.2; only = λ y i. h.only y (inr i); ordered = o.1 })

  chain_end : (at b : ℕ) → K at b [] → (at ≡ 0) × (b ≡ last)
  unfolding Linked
  chain_end at b h = h.linked

  -- ---- by a test of each record
  module _ (step : ℕ → ℕ → Bool) (tells : (b at : ℕ) → (at ≡ 0 → ⊥) → Tells (step b at) ((at ≤ n) × ((previous at ≡ b) × (C at × Ord b at)))) where
    pub follow_found : (k at b r : ℕ) → follow_queue step next last k at b ≡ r → (r ≡ failed → ⊥) → (q : List ℕ) × (length q + r ≡ k) × K at b q
    unfolding follow_queue
    follow_found zero at b r t n = go (eqb at 0) (eqb b last) refl refl t
      where
        go : (x y : Bool) → eqb at 0 ≡ x → eqb b last ≡ y → if x (if y 0 failed) failed ≡ r → (q : List ℕ) × (length q + r ≡ 0) × K at b q
        go true true e f h = ([], omega arith, chain_none at b (eqb-true at 0 e) (eqb-true b last f))
        go true false e f h = absurd (n (sym h))
        go false y e f h = absurd (n (sym h))
    follow_found (suc k) at b r t n = go (λ h. follow_found k (next at) at r h n) (eqb at 0) (eqb b last) (step b at) refl refl refl t
      where
        go : (follow_queue step next last k (next at) at ≡ r → (q : List ℕ) × (length q + r ≡ k) × K (next at) at q) → (x y z : Bool)
            → eqb at 0 ≡ x → eqb b last ≡ y → step b at ≡ z
            → if x (if y (suc k) failed) (if z (follow_queue step next last k (next at) at) failed) ≡ r → (q : List ℕ) × (length q + r ≡ suc k) × K at b q
        go ih true true z e f g h = ([], omega arith, chain_none at b (eqb-true at 0 e) (eqb-true b last f))
        go ih true false z e f g h = absurd (n (sym h))
        go ih false y true e f g h =
            let m = eqb-false at 0 e in
            let s = (tells b at m).holds g in
            let w = ih h in
            (at ∷ w.0, omega (arith, w.1), chain_more at b w.0 (omega arith, s.0) s.1.0 s.1.1.0 s.1.1.1 w.2)
        go ih false y false e f g h = absurd (n (sym h))

    pub chain_follows : (q : List ℕ) (k at b : ℕ) → K at b q → length q ≤ k → follow_queue step next last k at b ≡ k - length q
    chain_follows [] k at b h l =
        let e = chain_end at b h in
        sym (follow_ends step next last k at b last (k - 0) e.0 refl (rw (eq-eqb b last e.1) (omega arith)))
    chain_follows (x ∷ q) k at b h l =
        let f = chain_first at b x q h in
        let r = f.2.0 in
        let m : x ≡ 0 → ⊥ = λ z. omega (arith, r.0) in
        let s = (tells b x m).back (r.1, (f.1, (f.2.1, f.3))) in
        let i : k - length (x ∷ q) ≡ follow_queue step next last (k - 1) (next x) x = omega arith
        ∙ sym (chain_follows q (k - 1) (next x) x f.4 (omega arith)) in
        rw f.0 (sym (follow_goes step next last k x b (k - 1) (next x) (k - length (x ∷ q)) (omega arith) m s refl i))

  chain_once : (q : List ℕ) (at b : ℕ) → K at b q → Distinct q
  chain_once q at b h = linked_once next previous at b q last h.linked (λ i. omega (arith, (h.only 0 i).0))

  -- ---- as many records as belong there: the chain is the queue
  module _ (f : ℕ → Bool) (told : (x : ℕ) → Tells (f x) (C x)) (first : ℕ) where
    good : (q : List ℕ) → K first 0 q → (x : ℕ) → In x q → (1 ≤ x) × ((x ≤ n) × (f x ≡ true))
    good q h x i = let g = h.only x i in (g.0.0, (g.0.1, (told x).back g.1))

    pub chain_most : (q : List ℕ) → K first 0 q → length q ≤ count f n
    chain_most q h = at_most q f n (chain_once q first 0 h) (good q h)

    pub chain_queue : (q : List ℕ) → K first 0 q → length q ≡ count f n → IsQueue next previous (λ x. Range n x × C x) first last q
    chain_queue q h e =
        record {
          linked = h.linked;
          exact = record {
            once = chain_once q first 0 h;
            only = h.only;
            every = λ x c. all_there q f n (chain_once q first 0 h) (good q h) e x c.0.0 c.0.1 ((told x).back c.1);
          };
        }

    pub queue_chain : (q : List ℕ) → IsQueue next previous (λ x. Range n x × C x) first last q → Ordered Ord 0 q → K first 0 q × (length q ≡ count f n)
    queue_chain q i o =
        let h : K first 0 q = record { linked = i.linked; only = i.exact.only; ordered = o } in
        (h, as_many q f n i.exact.once (good q h) (λ y l u t. i.exact.every y ((l, u), (told y).holds t)))

-- Whether words show a queue: the test is true exactly where they keep delays, which are then those left. Assumes nothing.
use mathlib.Core.Path.{◌≡◌, refl, sym, subst}
use mathlib.Core.Bool.{true, ◌&&◌, ◌||◌}
use mathlib.Core.List.{List, [], ◌∷◌}
use mathlib.Core.Logic.{inl, inr, ⊎_elim}
use Prim.Native.Nat.{ℕ, zero, suc, ◌+◌, ◌-◌, ◌≤◌, ◌<◌}
use native.Mathlib.Omega.{arith}
use lib.ListN.{length}
use lib.Dec.{eqb}
use borrow.Author.Tests.{eqb-true, eqb-false, eq-eqb, ne_eqb}
use Rattle.machine.specs.Queue.{at, In, Out, Distinct, Range, head}
use Rattle.lists.proofs.Tests.{tested, and_true}
use Rattle.lists.proofs.Links.{cases, LinkedBy, by_new}
use Rattle.lists.proofs.Tells.{Tells}
use Rattle.lists.proofs.Lists.{at_all}
use Rattle.delays.specs.Words.{P_of, sized, next, difference, may_follow, ordered, shown, left}
use Rattle.delays.specs.Delays.{Rising, LinkedByTime, Keeps}
use Rattle.delays.proofs.Reading.{sized_tells, sized_back, next_small}
use Rattle.delays.proofs.Walks.{may_tells}
use Rattle.delays.proofs.Standing.{Some, stands_same}
use Rattle.delays.proofs.Putting.{rising_same}
use Rattle.delays.proofs.Keeping.{at_here, at_else, few_here, left_is}
use Rattle.delays.proofs.Beside.{keeps_same}

-- ---- a list that ends has nobody twice
module _ (nx df d : ℕ → ℕ) where
  linked_by : (z s : ℕ) (q : List ℕ) → LinkedByTime nx df d z s q → (z ≡ head q) × LinkedBy nx q
  unfolding LinkedByTime
  linked_by z s [] h = (h, tt)
  linked_by z s (y ∷ q) h = (h.0, linked_by (nx y) (d y) q h.2)

  no_circle : (x s : ℕ) (q : List ℕ) → LinkedByTime nx df d (nx x) s q → Some q → 1 ≤ x → Out x q
  no_circle x s q h so l = by_new nx x q (linked_by (nx x) s q h) (λ i. ⊎_elim (λ e. omega arith) (λ j. omega (arith, so 0 j)) i)

-- ---- from a test that is true to delays
-- y ends no earlier than b, which ends at s, and then with a higher number; after now, and in a word
abbrev Behind : ℕ → ℕ → (ℕ → ℕ) → ℕ → Type 0
Behind b s d y = (s ≤ d y) × (s ≡ d y → b < y) × (1 ≤ d y) × (d y ≤ 65535)

-- the list behind b, which ends at s, and its delays
record Listed (t : List ℕ) (b s : ℕ) : Type 0 where
  q : List ℕ
  d : ℕ → ℕ
  stands : LinkedByTime (next t) (difference t) d (next t b) s q
  among : (y : ℕ) → In y q → Range (P_of t) y
  behind : (y : ℕ) → In y q → Behind b s d y
  rising : Rising d q
  once : Distinct q
  every : (y : ℕ) → 1 ≤ d y → In y q
  small : (y : ℕ) → d y ≤ 65535

module _ (t : List ℕ) where
  nobody : (b s : ℕ) → next t b ≡ 0 → Listed t b s
  unfolding LinkedByTime
  nobody b s e =
      record {
        q = [];
        d = λ y. 0;
        stands = e;
        among = λ y i. absurd i;
        behind = λ y i. absurd i;
        rising = tt;
        once = tt;
        every = λ y h. absurd (omega arith);
        small = λ y. omega arith;
      }

  -- one more in front
  module _ (b s : ℕ) (small : s ≤ 65535) (n : next t b ≡ 0 → ⊥)
      (may : (difference t (next t b) ≤ 65535 - s) × ((1 ≤ difference t (next t b) → ⊥) → (1 ≤ s) × (b < next t b)))
      (l : Listed t (next t b) (s + difference t (next t b))) where
    abbrev x : ℕ
    x = next t b

    abbrev ends : ℕ
    ends = s + difference t x

    abbrev d' : ℕ → ℕ
    d' = at l.d x ends

    out : Out x l.q
    out = no_circle (next t) (difference t) l.d x ends l.q l.stands (λ y i. (l.among y i).0) (omega (arith, n))

    same : (y : ℕ) → In y l.q → d' y ≡ l.d y
    same y i = at_else l.d x ends y (λ e. out (subst (λ (w : ℕ). In w l.q) e i))

    here : d' x ≡ ends
    here = at_here l.d x ends

    first : Behind b s d' x
    first = (
      omega (arith, here),
      λ e. cases (difference t x) 0 (λ z. (may.1 (omega (arith, z))).1) (λ z. absurd (omega (arith, z, e, here))),
      cases (difference t x) 0 (λ z. omega (arith, here, (may.1 (omega (arith, z))).0)) (λ z. omega (arith, z, here)),
      omega (arith, here, may.0),
    )

    rest : (y : ℕ) → In y l.q → Behind b s d' y
    rest y i =
        let h = l.behind y i in
        let e = same y i in (
          omega (arith, e, h.0),
          λ k. cases (difference t x) 0
              (λ z. omega (arith, (may.1 (omega (arith, z))).1, h.1 (omega (arith, z, e, k)))) (λ z. absurd (omega (arith, z, e, k, h.0))),
          omega (arith, e, h.2),
          omega (arith, e, h.3),
        )

    one_more : Listed t b s
    unfolding LinkedByTime
    one_more =
        record {
          q = x ∷ l.q;
          d = d';
          stands = (
            refl,
            sym here,
            rw here (stands_same (next t) (difference t) l.d (next t) (difference t) d' (next t x) ends l.q
                (λ y i. (refl, refl, same y i)) l.stands),
          );
          among = λ y. ⊎_elim (λ e. rw e (omega (arith, n), next_small t b)) (l.among y);
          behind = λ y. ⊎_elim (λ e. rw e first) (rest y);
          rising = (
            λ y i. (omega (arith, here, same y i, (l.behind y i).0), λ k. (l.behind y i).1 (omega (arith, here, same y i, k))),
            rising_same l.d d' l.q same l.rising,
          );
          once = (out, l.once);
          every = λ y h. cases y x inl (λ e. inr (l.every y (omega (arith, h, at_else l.d x ends y e))));
          small = λ y. at_all (λ (v : ℕ). v ≤ 65535) l.d x ends y (λ e. omega (arith, may.0)) (λ e. l.small y);
        }

  listed : (k b s : ℕ) → s ≤ 65535 → ordered t k b s ≡ true → Listed t b s
  unfolding ordered
  listed zero b s h = λ e. nobody b s (eqb-true (next t b) 0 e)
  listed (suc k) b s h =
      tested {C = (eqb (next t b) 0 || (may_follow b s (next t b) (difference t (next t b)) && ordered t k (next t b)
      (s + difference t (next t b)))) ≡ true → Listed t b s}
      (eqb (next t b) 0)
      (λ z e. nobody b s (eqb-true (next t b) 0 z))
      (λ z e. (let g = and_true {a = may_follow b s (next t b) (difference t (next t b))} (rw z at e) in
      let m = (may_tells b s (next t b) (difference t (next t b))).holds g.0 in
      one_more b s h (eqb-false (next t b) 0 z) m (listed k (next t b) (s + difference t (next t b)) (omega (arith, m.0, h)) g.1)))

  shown_keeps : shown t ≡ true → Keeps t (left t)
  unfolding shown
  shown_keeps e =
      let g = and_true {a = sized t} e in
      let l = listed (P_of t) 0 0 (omega arith) g.1 in
      let k : Keeps t l.d = record {
        size = sized_tells t g.0;
        q = l.q;
        stands = l.stands;
        rising = l.rising;
        exact = record { once = l.once; only = λ y i. (l.among y i, (l.behind y i).2); every = λ y c. l.every y c.1 };
        small = λ y r. omega (arith, l.small y);
      } in
      keeps_same (left t) (λ p r. left_is k p r) k

-- ---- from delays to a test that is true
module _ (t : List ℕ) (d : ℕ → ℕ) where
  none_more : (k b s : ℕ) → next t b ≡ 0 → ordered t k b s ≡ true
  unfolding ordered
  none_more zero b s e = eq-eqb (next t b) 0 e
  none_more (suc k) b s e = rw (eq-eqb (next t b) 0 e)

  in_order : (k b s : ℕ) (q : List ℕ) → length q ≤ k → LinkedByTime (next t) (difference t) d (next t b) s q → Rising d q → Some q
      → ((y : ℕ) → In y q → Behind b s d y)
      → ordered t k b s ≡ true
  unfolding ordered LinkedByTime
  in_order k b s [] h st r so m = none_more k b s st
  in_order zero b s (x ∷ q) h st r so m = absurd (omega arith)
  in_order (suc k) b s (x ∷ q) h st r so m =
      let w = m x (inl refl) in
      let f : may_follow b s x (difference t x) ≡ true =
      (may_tells b s x (difference t x)).back (omega (arith, st.1, w.3), λ z. (omega (arith, z, st.1, w.2), w.1 (omega (arith, z, st.1)))) in
      let g : ordered t k x (d x) ≡ true = in_order k x (d x) q (omega arith) st.2 r.1 (λ y i. so y (inr i))
      (λ y i. ((r.0 y i).0, (r.0 y i).1, (m y (inr i)).2, (m y (inr i)).3)) in
      rw (st.0, ne_eqb x 0 (λ z. omega (arith, z, so x (inl refl))), f, st.1) g

pub keeps_shown : {t : List ℕ} {d : ℕ → ℕ} → Keeps t d → shown t ≡ true
unfolding shown
keeps_shown {t} {d} k =
    rw (sized_back t k.size)
    (in_order t d (P_of t) 0 0 k.q (few_here k) k.stands k.rising (λ y i. (k.exact.only y i).0.0)
    (λ y i. (let c = k.exact.only y i in (omega arith, λ e. c.0.0, c.1, omega (arith, k.small y c.0)))))

-- so the test tells whether the words keep delays, and these are then the delays left
pub shown_tells : (t : List ℕ) → Tells (shown t) (Keeps t (left t))
shown_tells t = record { holds = shown_keeps t; back = keeps_shown }

-- The marks of the processes met: a way is followed till one that is met comes up, and of those met on it at most one leads a ring. Assumes nothing.
use mathlib.Core.Path.{◌≡◌, refl, sym, ap, subst, ◌∙◌}
use mathlib.Core.Bool.{Bool, true, false}
use mathlib.Core.List.{List}
use Prim.Native.Nat.{ℕ, zero, suc, ◌+◌, ◌≤◌, ◌<◌}
use native.Mathlib.Omega.{arith}
use native.Mathlib.Decide.{dec_le}
use lib.ListN.{length, get_or, set, length-set}
use lib.Seq.{get_or-set_same, get_or-set_other}
use lib.Dec.{eqb}
use borrow.Author.Tests.{eq-eqb, ne_eqb}
use Rattle.machine.specs.Queue.{Range}
use Rattle.lists.specs.Counts.{count}
use Rattle.lists.proofs.Tests.{is_false}
use Rattle.lists.proofs.Links.{cases}
use Rattle.stuck.specs.Waiting.{Waiting, Links, Reached, WaitsThrough}
use Rattle.stuck.specs.Chain.{no_marks}
use Rattle.stuck.specs.Rings.{leads, members, Met, LowestFrom}
use Rattle.stuck.proofs.Fits.{Fits}
use Rattle.stuck.proofs.Links.{links_more, links_then, links_return, links_among}
use Rattle.stuck.proofs.Visits.{count_marked, no_mark}
use Rattle.stuck.proofs.Leading.{lowest_leads, leads_low, leads_waits, leads_back, reaches_waits}

-- y is not met
abbrev pub unmet : List ℕ → ℕ → Bool
unmet v y = eqb (get_or v y 0) 0

-- ---- a mark set
set_at : (C : ℕ → Type 0) (v : List ℕ) (p m y : ℕ) → p < length v → (y ≡ p → C m) → ((y ≡ p → ⊥) → C (get_or v y 0)) → C (get_or (set v p m) y 0)
set_at C v p m y h f g =
    cases y p
    (λ e. subst C (sym (ap (λ (x : ℕ). get_or (set v p m) x 0) e ∙ get_or-set_same v p m 0 h)) (f e))
    (λ n. subst C (sym (get_or-set_other v p y m 0 n)) (g n))

-- ---- on the chain from a, p comes up: what is known of y, met on it
record OnChain (w : Waiting) (P a : ℕ) (v : List ℕ) (p y : ℕ) : Type 0 where
  is : Range P y
  from : a ≤ y
  waits : w.state y ≡ 3
  to : WaitsThrough w y p
  next : get_or v (w.holder y) 0 ≡ 0 → w.holder y ≡ p

pub record Meeting (w : Waiting) (P a : ℕ) (v : List ℕ) (p : ℕ) : Type 0 where
  pub size : length v ≡ 33
  pub is : Range P p
  start : get_or v a 0 ≡ 0 → p ≡ a
  below : (y : ℕ) → 1 ≤ y → y < a → get_or v y 0 ≡ 0 → ⊥
  begun : (y : ℕ) → a + 1 ≤ get_or v y 0 → get_or v y 0 ≡ 33
  lowest : (y : ℕ) → Range P y → get_or v y 0 ≡ 33 → leads w P y ≡ true
  -- met before, and whom those wait for was so too
  others : (y : ℕ) → Range P y → (get_or v y 0 ≡ 0 → ⊥) → (get_or v y 0 ≡ 33 → ⊥) → (get_or v y 0 ≡ a → ⊥) → leads w P y ≡ false
  before : (y : ℕ) → Range P y → (get_or v y 0 ≡ 0 → ⊥) → (get_or v y 0 ≡ a → ⊥) → w.state y ≡ 3
      → (get_or v (w.holder y) 0 ≡ 0 → ⊥) × (get_or v (w.holder y) 0 ≡ a → ⊥)
  here : (y : ℕ) → get_or v y 0 ≡ a → OnChain w P a v p y

-- where y is reached
awaits_reaches : (w : Waiting) (y p : ℕ) → WaitsThrough w y p → Reached w y p
awaits_reaches w y p s = record { links = suc s.more; by = s.by }

module _ {w : Waiting} {P a : ℕ} (F : Fits w P) (r : Range P a) where
  pub meeting_none : {v : List ℕ} → Met w P a v → Meeting w P a v a
  meeting_none {v} g =
      let new : (y : ℕ) → get_or v y 0 ≡ a → ⊥ = λ y e. omega (arith, e, g.begun y (omega (arith, e)), r, F.P32) in
      record {
        size = g.size;
        is = r;
        start = λ _. refl;
        below = g.below;
        begun = λ y l. g.begun y (omega arith);
        lowest = g.lowest;
        others = λ y i m k _. g.others y i m k;
        before = λ y i m k e. (g.onward y i m e, new (w.holder y));
        here = λ y e. absurd (new y e);
      }

  module _ {v : List ℕ} {p : ℕ} (g : Meeting w P a v p) where
    pub meeting_place : p < 33
    meeting_place = omega (arith, g.is, F.P32)

    inside : p < length v
    inside = omega (arith, g.size, g.is, F.P32)

    -- ---- p is new: it is marked
    module _ (z : get_or v p 0 ≡ 0) where
      pub meeting_less : count (unmet (set v p a)) P < count (unmet v) P
      meeting_less = omega (arith, count_marked (λ x. eqb x 0) a (ne_eqb a 0 (λ e. omega (arith, e, r))) v P p g.is inside (eq-eqb (get_or v p 0) 0 z))

      above : a ≤ p
      above = go (dec_le a p)
        where
          go : Dec (a ≤ p) → a ≤ p
          go (yes h) = h
          go (no h) = absurd (g.below p g.is.0 (omega arith) z)

      size_new : length (set v p a) ≡ 33
      size_new = length-set v p a ∙ g.size

      begun_new : (y : ℕ) → a + 1 ≤ get_or (set v p a) y 0 → get_or (set v p a) y 0 ≡ 33
      begun_new y = set_at (λ x. a + 1 ≤ x → x ≡ 33) v p a y inside (λ _ l. absurd (omega arith)) (λ _. g.begun y)

      lowest_new : (y : ℕ) → Range P y → get_or (set v p a) y 0 ≡ 33 → leads w P y ≡ true
      lowest_new y i = set_at (λ x. x ≡ 33 → leads w P y ≡ true) v p a y inside (λ _ k. absurd (omega (arith, r, F.P32, k))) (λ _. g.lowest y i)

      -- from p on to q
      pub meeting_goes : {q : ℕ} → w.state p ≡ 3 → q ≡ w.holder p → Range P q → Meeting w P a (set v p a) q
      unfolding Links
      meeting_goes {q} e f i =
          record {
            size = size_new;
            is = i;
            start = set_at (λ x. x ≡ 0 → q ≡ a) v p a a inside (λ _ k. absurd (omega (arith, r, k))) (λ n k. absurd (n (sym (g.start k))));
            below = λ y l u. set_at (λ x. x ≡ 0 → ⊥) v p a y inside (λ _ k. omega (arith, r, k)) (λ _. g.below y l u);
            begun = begun_new;
            lowest = lowest_new;
            others = λ y j. set_at (λ x. (x ≡ 0 → ⊥) → (x ≡ 33 → ⊥) → (x ≡ a → ⊥) → leads w P y ≡ false) v p a y inside
                (λ _ _ _ k. absurd (k refl))
                (λ _. g.others y j);
            before = λ y j. set_at
                (λ x. (x ≡ 0 → ⊥) → (x ≡ a → ⊥) → w.state y ≡ 3 → (get_or (set v p a) (w.holder y) 0 ≡ 0 → ⊥) × (get_or (set v p a) (w.holder y) 0 ≡ a → ⊥))
                v p a y inside
                (λ _ _ k. absurd (k refl))
                (λ _ m k t. still (w.holder y) (g.before y j m k t));
            here = λ y. set_at (λ x. x ≡ a → OnChain w P a (set v p a) q y) v p a y inside
                (λ k _. subst (λ (x : ℕ). OnChain w P a (set v p a) q x) (sym k) own)
                (λ _ k. more y (g.here y k));
          }
        where
          still : (x : ℕ) → (get_or v x 0 ≡ 0 → ⊥) × (get_or v x 0 ≡ a → ⊥) → (get_or (set v p a) x 0 ≡ 0 → ⊥) × (get_or (set v p a) x 0 ≡ a → ⊥)
          still x b = set_at (λ u. (u ≡ 0 → ⊥) × (u ≡ a → ⊥)) v p a x inside (λ k. absurd (b.0 (ap (λ (u : ℕ). get_or v u 0) k ∙ z))) (λ _. b)

          own : OnChain w P a (set v p a) q p
          own = record { is = g.is; from = above; waits = e; to = record { more = 0; by = (e, sym f) }; next = λ _. sym f }

          more : (y : ℕ) → OnChain w P a v p y → OnChain w P a (set v p a) q y
          more y o =
              record {
                is = o.is;
                from = o.from;
                waits = o.waits;
                to = record {
                  more = suc o.to.more;
                  by = subst (λ (x : ℕ). Links w (suc (suc o.to.more)) y x) (sym f) (links_more w (suc o.to.more) y p o.to.by e);
                };
                next = set_at (λ x. x ≡ 0 → w.holder y ≡ q) v p a (w.holder y) inside (λ _ k. absurd (omega (arith, r, k))) (λ n k. absurd (n (o.next k)));
              }

      -- p doesn't wait: nobody on the way is in a ring
      pub meeting_ends : (w.state p ≡ 3 → ⊥) → Met w P (a + 1) (set v p a)
      meeting_ends e =
          record {
            size = size_new;
            below = λ y l u. set_at (λ x. x ≡ 0 → ⊥) v p a y inside (λ _ k. omega (arith, r, k))
                (λ n k. cases y a (λ j. n (j ∙ sym (g.start (rw j at k)))) (λ j. g.below y l (omega arith) k));
            begun = begun_new;
            lowest = lowest_new;
            onward = λ y i. set_at (λ x. (x ≡ 0 → ⊥) → w.state y ≡ 3 → get_or (set v p a) (w.holder y) 0 ≡ 0 → ⊥) v p a y inside
                (λ j _ t. absurd (e (ap w.state (sym j) ∙ t)))
                (λ _ m t. set_at (λ x. x ≡ 0 → ⊥) v p a (w.holder y) inside (λ _ k. omega (arith, r, k))
                (λ n k. cases (get_or v y 0) a (λ j. n ((g.here y j).next k)) (λ j. (g.before y i m j t).0 k)));
            others = λ y i. set_at (λ x. (x ≡ 0 → ⊥) → (x ≡ 33 → ⊥) → leads w P y ≡ false) v p a y inside
                (λ j _ _. is_false (leads w P y) (λ h. e (ap w.state (sym j) ∙ leads_waits F y i h)))
                (λ _ m k. cases (get_or v y 0) a
                (λ j. is_false (leads w P y)
                (λ h.
                (let b = leads_back F y i h p (awaits_reaches w y p (g.here y j).to) in
                e (reaches_waits w b.links p y b.by (leads_waits F y i h)))))
                (g.others y i m k));
          }

    -- ---- p is met
    module _ (m : get_or v p 0 ≡ 0 → ⊥) where
      below_met : (y : ℕ) → 1 ≤ y → y < a + 1 → get_or v y 0 ≡ 0 → ⊥
      below_met y l u k =
          cases y a (λ j. (let z : get_or v a 0 ≡ 0 = rw j at k in m (ap (λ (x : ℕ). get_or v x 0) (g.start z) ∙ z))) (λ j. g.below y l (omega arith) k)

      onward_met : (y : ℕ) → Range P y → (get_or v y 0 ≡ 0 → ⊥) → w.state y ≡ 3 → get_or v (w.holder y) 0 ≡ 0 → ⊥
      onward_met y i n t k =
          cases (get_or v y 0) a (λ j. m (ap (λ (x : ℕ). get_or v x 0) (sym ((g.here y j).next k)) ∙ k)) (λ j. (g.before y i n j t).0 k)

      -- and on another way: whom it reaches was met there too
      met_before : (n x y : ℕ) → Range P x → (get_or v x 0 ≡ 0 → ⊥) → (get_or v x 0 ≡ a → ⊥) → Links w n x y → get_or v y 0 ≡ a → ⊥
      unfolding Links
      met_before zero x y i s t l e = t (ap (λ (u : ℕ). get_or v u 0) l ∙ e)
      met_before (suc n) x y i s t l e = let b = g.before x i s t l.0 in met_before n (w.holder x) y (F.among x i l.0) b.0 b.1 l.1 e

      pub meeting_over : (get_or v p 0 ≡ a → ⊥) → Met w P (a + 1) v
      meeting_over n =
          record {
            size = g.size;
            below = below_met;
            begun = g.begun;
            lowest = g.lowest;
            onward = onward_met;
            others = λ y i s k. cases (get_or v y 0) a
                (λ j. is_false (leads w P y)
                (λ h. (let b = leads_back F y i h p (awaits_reaches w y p (g.here y j).to) in met_before b.links p y g.is m n b.by j)))
                (g.others y i s k);
          }

      -- on this way: low, which is met, leads a ring, and nobody else on it does
      marks_low : (low : ℕ) → Range P low → (get_or v low 0 ≡ 0 → ⊥) → leads w P low ≡ true
          → ((y : ℕ) → Range P y → get_or v y 0 ≡ a → leads w P y ≡ true → y ≡ low)
          → Met w P (a + 1) (set v low 33)
      marks_low low q n lead only =
          let h : low < length v = omega (arith, g.size, q, F.P32) in
          let stays : (y : ℕ) → (get_or v y 0 ≡ 0 → ⊥) → get_or (set v low 33) y 0 ≡ 0
          → ⊥ = λ y s. set_at (λ x. x ≡ 0 → ⊥) v low 33 y h (λ _ k. omega (arith, k)) (λ _. s) in
          record {
            size = length-set v low 33 ∙ g.size;
            below = λ y l u. stays y (below_met y l u);
            begun = λ y. set_at (λ x. a + 1 ≤ x → x ≡ 33) v low 33 y h (λ _ _. refl) (λ _. g.begun y);
            lowest = λ y i. set_at (λ x. x ≡ 33 → leads w P y ≡ true) v low 33 y h (λ j _. ap (leads w P) j ∙ lead) (λ _. g.lowest y i);
            onward = λ y i. set_at (λ x. (x ≡ 0 → ⊥) → w.state y ≡ 3 → get_or (set v low 33) (w.holder y) 0 ≡ 0 → ⊥) v low 33 y h
                (λ j _ t. stays (w.holder y) (onward_met y i (λ k. n (rw j at k)) t))
                (λ _ s t. stays (w.holder y) (onward_met y i s t));
            others = λ y i. set_at (λ x. (x ≡ 0 → ⊥) → (x ≡ 33 → ⊥) → leads w P y ≡ false) v low 33 y h
                (λ _ _ k. absurd (k refl))
                (λ d s k. cases (get_or v y 0) a (λ j. is_false (leads w P y) (λ f. d (only y i j f))) (g.others y i s k));
          }

    module _ (e : get_or v p 0 ≡ a) where
      met_here : get_or v p 0 ≡ 0 → ⊥
      met_here k = omega (arith, r, e, k)

      -- whom p reaches is met
      met_from : (n x y : ℕ) → Range P x → (get_or v x 0 ≡ 0 → ⊥) → Links w n x y → get_or v y 0 ≡ 0 → ⊥
      unfolding Links
      met_from zero x y i s l k = s (ap (λ (u : ℕ). get_or v u 0) l ∙ k)
      met_from (suc n) x y i s l k = met_from n (w.holder x) y (F.among x i l.0) (onward_met met_here x i s l.0) l.1 k

      pub meeting_awaits : WaitsThrough w p p
      meeting_awaits = (g.here p e).to

      pub meeting_ring : {low : ℕ} → LowestFrom w P p low → Met w P (a + 1) (set v low 33)
      meeting_ring {low} b =
          marks_low met_here low b.is (met_from b.reached.links p low g.is met_here b.reached.by)
          (lowest_leads F p low meeting_awaits b.is b.reached b.under)
          (λ y i j h. (let o = g.here y j in
          let c = awaits_reaches w y p o.to in
          omega (arith, b.under y (leads_back F y i h p c), leads_low F y i h low (links_then w (suc o.to.more) y p low o.to.by b.reached))))

      -- a itself comes up again: whom it reaches is met on this way, and isn't lower
      pub meeting_first : p ≡ a → Met w P (a + 1) (set v a 33)
      unfolding Links
      meeting_first f = meeting_ring (record { is = r; reached = record { links = 0; by = f }; under = under })
        where
          under : (y : ℕ) → Reached w p y → a ≤ y
          under y c =
              cases (get_or v y 0) a (λ j. (g.here y j).from)
              (λ j. (let b = links_return w p meeting_awaits.more meeting_awaits.by c.links 0 p y refl c.by in
              absurd
              (met_before met_here b.links y p (links_among F c.links p y g.is c.by) (met_from c.links p y g.is met_here c.by) j
              b.by e)))

-- ---- nobody is met at first
pub met_none : {w : Waiting} {P : ℕ} → Met w P 1 no_marks
met_none =
    record {
      size = refl;
      below = λ y l u. absurd (omega arith);
      begun = λ y l. absurd (omega (arith, l, no_mark y));
      lowest = λ y i e. absurd (omega (arith, e, no_mark y));
      onward = λ y i m. absurd (m (no_mark y));
      others = λ y i m. absurd (m (no_mark y));
    }

-- and who is below is met: with 33 it may lead a ring, else it doesn't
pub met_not_lowest : {w : Waiting} {P a : ℕ} {v : List ℕ} → Met w P (a + 1) v → Range P a → (get_or v a 0 ≡ 33 → ⊥) → 0 ≡ members w P a
met_not_lowest {a = a} g r n = rw (g.others a r (g.below a r.0 (omega arith)) n)

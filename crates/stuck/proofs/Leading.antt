-- A process leads a ring, by the test of its chain, exactly if it waits for itself and reaches none that is lower. Assumes nothing.
use mathlib.Core.Path.{◌≡◌, refl, sym, ap, subst, ◌∙◌}
use mathlib.Core.Bool.{true}
use mathlib.Core.List.{List, [], ◌∷◌}
use mathlib.Core.Logic.{inl, inr, ⊎_elim}
use Prim.Native.Nat.{ℕ, zero, suc, ◌≤◌}
use native.Mathlib.Omega.{arith}
use native.Mathlib.Decide.{dec_le}
use Rattle.machine.specs.Queue.{Range, In, last_from}
use Rattle.lists.proofs.Tests.{tested}
use Rattle.lists.proofs.Tells.{Tells, eq, le, both, said}
use Rattle.stuck.specs.Waiting.{Waiting, Links, Reached, WaitsThrough, Again, Round}
use Rattle.stuck.specs.Chain.{chain_length, ring, onward, along}
use Rattle.stuck.specs.Rings.{none_below, goes_round, ring_of, leads}
use Rattle.stuck.proofs.Fits.{Fits}
use Rattle.stuck.proofs.Steps.{along_length}
use Rattle.stuck.proofs.Links.{links_then, links_round, links_return, along_links, along_last, along_late, ring_has, links_among}
use Rattle.stuck.proofs.Visits.{ring_told, ring_is, tells_who}

-- ---- what the test tells
none_below_tells : (a : ℕ) (l : List ℕ) → Tells (none_below a l) ((y : ℕ) → In y l → a ≤ y)
unfolding none_below
none_below_tells a [] = record { holds = λ _ y i. absurd i; back = λ _. refl }
none_below_tells a (x ∷ l) =
    said (both (le a x) (none_below_tells a l)) (λ h y i. ⊎_elim (λ e. omega (arith, h.0, e)) (h.1 y) i) (λ h. (h x (inl refl), λ y i. h y (inr i)))

goes_round_tells : (w : Waiting) (a : ℕ) (l : List ℕ)
    → Tells (goes_round w a l) (((w.state (last_from 0 l) ≡ 3) × (w.holder (last_from 0 l) ≡ a)) × ((y : ℕ) → In y l → a ≤ y))
goes_round_tells w a l = both (both (eq (w.state (last_from 0 l)) 3) (eq (w.holder (last_from 0 l)) a)) (none_below_tells a l)

module _ {w : Waiting} {P : ℕ} (F : Fits w P) where
  -- ---- the chain from a process that waits for itself leads back to it
  pub record Circle (a : ℕ) : Type 0 where
    pub more : ℕ
    pub all : chain_length w P a ≡ suc more
    pub by : Links w (suc more) a a

  module _ (a : ℕ) (i : Range P a) where
    pub awaits_circle : WaitsThrough w a a → Circle a
    unfolding Links
    awaits_circle s =
        let n = chain_length w P a in
        let g = (ring_is F a i (ring_told w P a (record { process = a; reached = record { links = 0; by = refl }; awaits_itself = s }))).1 in
        let b = along_links w n a g.process g.process g.next g.listed in
        let c = links_return w a s.more s.by n 0 a g.process refl g.next in
        let l = links_round w c.links (suc b.rest) g.process a c.by b.to in
        record { more = b.rest; all = omega (arith, b.all, along_late w n b.rest a (tells_who F a i).once l); by = l }

    -- so that it leads a ring if it reaches none that is lower
    awaits_leads : WaitsThrough w a a → ((y : ℕ) → Reached w a y → a ≤ y) → leads w P a ≡ true
    awaits_leads s low =
        let c = awaits_circle s in
        subst (λ (n : ℕ). goes_round w a (along w n a) ≡ true) (sym c.all)
        ((goes_round_tells w a (along w (suc c.more) a)).back (
          along_last w c.more a a 0 c.by,
          λ y j. (let b = along_links w (suc c.more) a a y c.by j in low y (record { links = b.before; by = b.from })),
        ))

    -- the same where the last of its chain waits for it
    last_circle : (n : ℕ) → chain_length w P a ≡ n → Again w a n (along w n a) → w.holder (last_from 0 (along w n a)) ≡ a → Circle a
    unfolding along
    last_circle zero e g f = absurd g.listed
    last_circle (suc n) e g f =
        record { more = n; all = e; by = subst (λ (x : ℕ). Links w (suc n) a x) (sym (along_last w n a g.process 0 g.next).1 ∙ f) g.next }

  -- ---- the ring of a process that leads one
  module _ (a : ℕ) (i : Range P a) (h : leads w P a ≡ true) where
    told : ((w.state (last_from 0 (ring_of w P a)) ≡ 3) × (w.holder (last_from 0 (ring_of w P a)) ≡ a)) × ((y : ℕ) → In y (ring_of w P a) → a ≤ y)
    told = (goes_round_tells w a (ring_of w P a)).holds h

    pub led : Circle a
    led =
        tested (ring w P a)
        (λ e. last_circle a i (chain_length w P a) refl (ring_is F a i e).1 told.0.1)
        (λ e. absurd ((tells_who F a i).ends e told.0.0))

    pub led_round : Round w a (ring_of w P a)
    unfolding Links
    led_round =
        let t = tells_who F a i in
        record {
          first = t.first;
          behind = t.behind;
          closes = told.0;
          lowest = told.1;
          several = omega (arith, along_length w (chain_length w P a) a, led.all, several led.more led.by);
        }
      where
        several : (n : ℕ) → Links w (suc n) a a → 1 ≤ n
        several zero l = absurd (F.apart a i l.0 l.1)
        several (suc n) l = omega arith

    -- the members are those that a reaches
    pub led_reached : (y : ℕ) → In y (ring_of w P a) → Reached w a y
    led_reached y j =
        let b = along_links w (suc led.more) a a y led.by (subst (λ (n : ℕ). In y (along w n a)) led.all j) in
        record { links = b.before; by = b.from }

    pub led_reaches : (y : ℕ) → Reached w a y → In y (ring_of w P a)
    led_reaches y c = subst (λ (n : ℕ). In y (along w n a)) (sym led.all) (ring_has w a led.more led.by c.links y c.by)

    -- each waits for itself
    pub led_members : (y : ℕ) → In y (ring_of w P a) → Range P y × WaitsThrough w y y
    led_members y j =
        let c = led_reached y j in
        (links_among F c.links a y i c.by, record { more = led.more; by = links_round w c.links (suc led.more) a y c.by led.by })

    -- none is lower, and a is reached again from each
    pub leads_low : (z : ℕ) → Reached w a z → a ≤ z
    leads_low z c = told.1 z (led_reaches z c)

    pub leads_waits : w.state a ≡ 3
    unfolding Links
    leads_waits = led.by.0

    pub leads_back : (z : ℕ) → Reached w a z → Reached w z a
    unfolding Links
    leads_back z c = links_return w a led.more led.by c.links 0 a z refl c.by

-- ---- the lowest process of a ring leads it
record Lowest (l : List ℕ) : Type 0 where
  least : ℕ
  is : In least l
  under : (y : ℕ) → In y l → least ≤ y

lowest_of : (x : ℕ) (l : List ℕ) → Lowest (x ∷ l)
lowest_of x [] = record { least = x; is = inl refl; under = λ y i. ⊎_elim (λ e. omega arith) (λ j. absurd j) i }
lowest_of x (z ∷ l) = go (lowest_of z l) (dec_le x (lowest_of z l).least)
  where
    go : (r : Lowest (z ∷ l)) → Dec (x ≤ r.least) → Lowest (x ∷ z ∷ l)
    go r (yes h) = record { least = x; is = inl refl; under = λ y i. ⊎_elim (λ e. omega arith) (λ j. omega (arith, r.under y j)) i }
    go r (no h) = record { least = r.least; is = inr r.is; under = λ y i. ⊎_elim (λ e. omega arith) (r.under y) i }

module _ {w : Waiting} {P : ℕ} (F : Fits w P) where
  -- p waits for itself, and a is the lowest that it reaches
  pub lowest_leads : (p a : ℕ) → WaitsThrough w p p → Range P a → Reached w p a → ((y : ℕ) → Reached w p y → a ≤ y) → leads w P a ≡ true
  lowest_leads p a s i r under =
      awaits_leads F a i (record { more = s.more; by = links_round w r.links (suc s.more) p a r.by s.by })
      (λ y c. under y (links_then w r.links p a y r.by c))

  -- who leads the ring that p is in
  pub record Leader (p : ℕ) : Type 0 where
    pub a : ℕ
    pub is : Range P a
    pub leads : leads w P a ≡ true
    pub has : In p (ring_of w P a)

  pub leader : (p : ℕ) → Range P p → WaitsThrough w p p → Leader p
  unfolding along
  leader p i s =
      let c = awaits_circle F p i s in
      let l = lowest_of p (along w c.more (onward w p)) in
      let b = along_links w (suc c.more) p p l.least c.by l.is in
      let i' = links_among F b.before p l.least i b.from in
      let h = lowest_leads p l.least s i' (record { links = b.before; by = b.from })
      (λ y d. l.under y (ring_has w p c.more c.by d.links y d.by)) in
      record { a = l.least; is = i'; leads = h; has = led_reaches F l.least i' h p (record { links = suc b.rest; by = b.to }) }

-- who reaches one that waits, waits
pub reaches_waits : (w : Waiting) (n p y : ℕ) → Links w n p y → w.state y ≡ 3 → w.state p ≡ 3
unfolding Links
reaches_waits w zero p y l e = ap w.state l ∙ e
reaches_waits w (suc n) p y l e = l.0

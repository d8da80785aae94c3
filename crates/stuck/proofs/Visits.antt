-- The chain as the code follows it is what docs/MONITOR.md, 17.1 asks: who is listed, and that a ring is told exactly where there is one. Assumes nothing.
use mathlib.Core.Path.{◌≡◌, refl, sym, subst, ◌∙◌}
use mathlib.Core.Bool.{Bool, true, false, ◌&&◌}
use mathlib.Core.List.{List, [], ◌∷◌}
use mathlib.Core.Logic.{inl, inr, ⊎_elim}
use Prim.Native.Nat.{ℕ, zero, suc, ◌+◌, ◌-◌, ◌≤◌, ◌<◌}
use native.Mathlib.Omega.{arith}
use lib.ListN.{length, get_or, set, length-set}
use lib.Seq.{get_or-set_same, get_or-set_other}
use lib.Dec.{eqb}
use borrow.Author.Tests.{eqb-true, eqb-false}
use Rattle.machine.specs.Queue.{Range, In, Distinct, head, last_from}
use Rattle.lists.specs.Counts.{count}
use Rattle.lists.proofs.Tests.{either, differ, and_true}
use Rattle.lists.proofs.Links.{cases}
use Rattle.lists.proofs.Numbers.{few}
use Rattle.stuck.specs.declared.chain.Chain.{Chain}
use Rattle.stuck.specs.Waiting.{Waiting, Links, WaitsThrough, Ring, Behind, Again, TellsWho}
use Rattle.stuck.specs.Chain.{follow, no_marks, chain_length, ring, onward, along}
use Rattle.stuck.proofs.Fits.{Fits}
use Rattle.stuck.proofs.Steps.{follow_left, onward_goes, along_length}
use Rattle.stuck.proofs.Links.{links_more, Goes, goes_ever, along_has, along_old}

-- ---- a chain that never ends is told as a ring
module _ (w : Waiting) where
  goes_ring : (v : List ℕ) (k p : ℕ) → Goes w k p → (follow w v k p).ring ≡ true
  unfolding follow
  goes_ring v zero p g = refl
  goes_ring v (suc k) p g =
      either (λ (r : Chain). r.ring ≡ true) (eqb (get_or v p 0) 1)
      (λ e. refl)
      (λ e. either (λ (r : Chain). r.ring ≡ true) (eqb (w.state p) 3) (λ f. goes_ring (set v p 1) k (w.holder p) g.1)
      (λ f. absurd (eqb-false (w.state p) 3 f g.0)))

  pub ring_told : (P a : ℕ) → Ring w a → ring w P a ≡ true
  ring_told P a r = goes_ring no_marks P a (goes_ever w r.process r.awaits_itself.more r.awaits_itself.by P r.reached.links a r.reached.by)

-- ---- marks
-- a mark set at p
marked_here : (v : List ℕ) (p : ℕ) → p < length v → get_or (set v p 1) p 0 ≡ 1
marked_here v p h = get_or-set_same v p 1 0 h

marked_old : (v : List ℕ) (p y : ℕ) → p < length v → get_or v y 0 ≡ 1 → get_or (set v p 1) y 0 ≡ 1
marked_old v p y h e = cases y p (λ k. rw k (marked_here v p h)) (λ k. get_or-set_other v p y 1 0 k ∙ e)

marked_new : (v : List ℕ) (p y : ℕ) → (y ≡ p → ⊥) → get_or (set v p 1) y 0 ≡ 1 → get_or v y 0 ≡ 1
marked_new v p y n e = sym (get_or-set_other v p y 1 0 n) ∙ e

-- how many of 1 to n have a mark that passes f: one fewer by each that gets the mark m instead
module _ (f : ℕ → Bool) (m : ℕ) (h : f m ≡ false) (v : List ℕ) where
  count_above : (n p : ℕ) → n < p → count (λ y. f (get_or (set v p m) y 0)) n ≡ count (λ y. f (get_or v y 0)) n
  unfolding count
  count_above zero p l = refl
  count_above (suc n) p l = rw (get_or-set_other v p (suc n) m 0 (λ e. omega (arith, e, l)), count_above n p (omega arith))

  pub count_marked : (n p : ℕ) → Range n p → p < length v → f (get_or v p 0) ≡ true
      → count (λ y. f (get_or v y 0)) n ≡ suc (count (λ y. f (get_or (set v p m) y 0)) n)
  unfolding count
  count_marked zero p r l e = absurd (omega (arith, r))
  count_marked (suc n) p r l e =
      cases p (suc n)
      (λ k. rw (← k, get_or-set_same v p m 0 l, h, e) (omega (arith, count_above n p (omega (arith, k)))))
      (λ k. rw (get_or-set_other v p (suc n) m 0 (λ j. k (sym j))) (omega (arith, count_marked n p (r.0, omega (arith, r, k)) l e)))

-- no mark is set at first
abbrev blank : List ℕ → Bool
blank [] = true
blank (x ∷ l) = eqb x 0 && blank l

blank_at : (l : List ℕ) (y : ℕ) → blank l ≡ true → get_or l y 0 ≡ 0
blank_at [] y z = refl
blank_at (x ∷ l) zero z = eqb-true x 0 (and_true {a = eqb x 0} z).0
blank_at (x ∷ l) (suc y) z = blank_at l y (and_true {a = eqb x 0} z).1

pub no_mark : (y : ℕ) → get_or no_marks y 0 ≡ 0
no_mark y = blank_at no_marks y refl

unmarked : (y : ℕ) → get_or no_marks y 0 ≡ 1 → ⊥
unmarked y m = omega (arith, m, no_mark y)

-- ---- on the way: l are visited, p comes up, k are not visited
record Visited (w : Waiting) (P a : ℕ) (v l : List ℕ) (p k : ℕ) : Type 0 where
  size : length v ≡ 33
  marked : (y : ℕ) → get_or v y 0 ≡ 1 → In y l
  marks : (y : ℕ) → In y l → get_or v y 0 ≡ 1
  once : Distinct l
  among : (y : ℕ) → In y l → Range P y
  awaits : (y : ℕ) → In y l → WaitsThrough w y p
  listed : (y : ℕ) → In y l → In y (along w (length l) a)
  here : Links w (length l) a p
  is : Range P p
  all : length l + k ≡ P

module _ {w : Waiting} {P : ℕ} (F : Fits w P) (a : ℕ) where
  -- one process more
  more : (v l : List ℕ) (p k : ℕ) → Visited w P a v l p (suc k) → (get_or v p 0 ≡ 1 → ⊥) → w.state p ≡ 3 → Visited w P a (set v p 1) (p ∷ l) (w.holder p) k
  unfolding Links
  more v l p k g n e =
      let h : p < length v = omega (arith, g.size, g.is, F.P32) in
      record {
        size = length-set v p 1 ∙ g.size;
        marked = λ y m. cases y p inl (λ j. inr (g.marked y (marked_new v p y j m)));
        marks = λ y i. ⊎_elim (λ j. rw j (marked_here v p h)) (λ j. marked_old v p y h (g.marks y j)) i;
        once = (λ i. n (g.marks p i), g.once);
        among = λ y i. ⊎_elim (λ j. rw j g.is) (g.among y) i;
        awaits = λ y i. ⊎_elim (λ j. rw j (record { more = 0; by = (e, refl) }))
            (λ j. (let b = g.awaits y j in record { more = suc b.more; by = links_more w (suc b.more) y p b.by e })) i;
        listed = λ y i. ⊎_elim (λ j. rw j (along_has w (length l) a p g.here)) (λ j. along_old w (length l) a y (g.listed y j)) i;
        here = links_more w (length l) a p g.here e;
        is = F.among p g.is e;
        all = omega (arith, g.all);
      }

  -- where p is visited there is a ring
  found : (v l : List ℕ) (p k : ℕ) → Visited w P a v l p k → In p l → Ring w a × Again w a (length l) (along w (length l) a)
  found v l p k g i = (
    record { process = p; reached = record { links = length l; by = g.here }; awaits_itself = g.awaits p i },
    record { process = p; next = g.here; listed = g.listed p i },
  )

  -- where all are visited p is
  full : (v l : List ℕ) (p : ℕ) → Visited w P a v l p 0 → In p l
  full v l p g =
      cases (get_or v p 0) 1 (g.marked p)
      (λ n. absurd
      (omega (
        arith,
        g.all,
        few 0 P (p ∷ l) (λ i. n (g.marks p i), g.once)
            (λ y i. ⊎_elim (λ j. omega (arith, g.is)) (λ j. omega (arith, g.among y j)) i),
      )))

  ring_found : (v l : List ℕ) (p k : ℕ) → Visited w P a v l p k → (follow w v k p).ring ≡ true
      → Ring w a × Again w a (P - (follow w v k p).left) (along w (P - (follow w v k p).left) a)
  unfolding follow
  ring_found v l p zero g =
      λ e. let n : length l ≡ P - 0 = omega (arith, g.all) in
      subst (λ (j : ℕ). Ring w a × Again w a j (along w j a)) n (found v l p 0 g (full v l p g))
  ring_found v l p (suc k) g =
      either (λ (r : Chain). r.ring ≡ true → Ring w a × Again w a (P - r.left) (along w (P - r.left) a)) (eqb (get_or v p 0) 1)
      (λ m e. (let n : length l ≡ P - suc k = omega (arith, g.all) in
      subst (λ (j : ℕ). Ring w a × Again w a j (along w j a)) n (found v l p (suc k) g (g.marked p (eqb-true (get_or v p 0) 1 m)))))
      (λ m. either (λ (r : Chain). r.ring ≡ true → Ring w a × Again w a (P - r.left) (along w (P - r.left) a)) (eqb (w.state p) 3)
      (λ s e. ring_found (set v p 1) (p ∷ l) (w.holder p) k (more v l p k g (eqb-false (get_or v p 0) 1 m) (eqb-true (w.state p) 3 s)) e)
      (λ s e. absurd (differ (sym e))))

  -- nobody is visited at first
  none : Range P a → Visited w P a no_marks [] a P
  unfolding Links
  none r =
      record {
        size = refl;
        marked = λ y m. absurd (unmarked y m);
        marks = λ y i. absurd i;
        once = tt;
        among = λ y i. absurd i;
        awaits = λ y i. absurd i;
        listed = λ y i. absurd i;
        here = refl;
        is = r;
        all = omega arith;
      }

  pub ring_is : Range P a → ring w P a ≡ true → Ring w a × Again w a (chain_length w P a) (along w (chain_length w P a) a)
  ring_is r e = ring_found no_marks [] a P (none r) e

-- ---- who is listed
module _ {w : Waiting} {P : ℕ} (F : Fits w P) where
  -- from p on, with k not visited: n listed, each new and once
  record Listed (v : List ℕ) (p n : ℕ) : Type 0 where
    new : (y : ℕ) → In y (along w n p) → get_or v y 0 ≡ 1 → ⊥
    once : Distinct (along w n p)

  listed_none : (v : List ℕ) (p n : ℕ) → n ≡ 0 → Listed v p n
  unfolding along
  listed_none v p n e = rw e (record { new = λ y i. absurd i; once = tt })

  listed_one : (v : List ℕ) (p n : ℕ) → n ≡ 1 → (get_or v p 0 ≡ 1 → ⊥) → Listed v p n
  unfolding along
  listed_one v p n e h = rw e (record { new = λ y i m. ⊎_elim (λ j. h (rw j at m)) (λ j. j) i; once = (λ i. i, tt) })

  listed_more : (v : List ℕ) (p m n : ℕ) → n ≡ suc m → p < length v → (get_or v p 0 ≡ 1 → ⊥) → w.state p ≡ 3 → Listed (set v p 1) (w.holder p) m → Listed v p n
  unfolding along
  listed_more v p m n e l h s r =
      let q = onward_goes w p s in
      let r' : Listed (set v p 1) (onward w p) m = subst (λ (x : ℕ). Listed (set v p 1) x m) q r in
      rw e
      record {
        new = λ y i k. ⊎_elim (λ j. h (rw j at k)) (λ j. r'.new y j (marked_old v p y l k)) i;
        once = (λ i. r'.new p i (marked_here v p l), r'.once);
      }

  listed_all : (v : List ℕ) (k p : ℕ) → length v ≡ 33 → Range P p → Listed v p (k - (follow w v k p).left)
  unfolding follow
  listed_all v zero p z r = listed_none v p _ (omega arith)
  listed_all v (suc k) p z r =
      either (λ (c : Chain). Listed v p (suc k - c.left)) (eqb (get_or v p 0) 1)
      (λ m. listed_none v p _ (omega arith))
      (λ m. (let n = eqb-false (get_or v p 0) 1 m in
      either (λ (c : Chain). Listed v p (suc k - c.left)) (eqb (w.state p) 3)
      (λ s. (let e = eqb-true (w.state p) 3 s in
      listed_more v p (k - (follow w (set v p 1) k (w.holder p)).left) _ (omega (arith, follow_left w (set v p 1) k (w.holder p)))
      (omega (arith, z, r, F.P32)) n e
      (listed_all (set v p 1) k (w.holder p) (length-set v p 1 ∙ z) (F.among p r e))))
      (λ s. listed_one v p _ (omega arith) n)))

-- from p on, n listed, each waiting for the next
module _ (w : Waiting) where
  record Order (p n : ℕ) (told : Bool) : Type 0 where
    behind : Behind w (along w n p)
    ends : told ≡ false → (1 ≤ n) × (w.state (last_from 0 (along w n p)) ≡ 3 → ⊥)

  order_none : (p n : ℕ) (told : Bool) → n ≡ 0 → told ≡ true → Order p n told
  unfolding along Behind
  order_none p n told e h = rw (e, h) (record { behind = tt; ends = λ j. absurd (differ j) })

  order_one : (p n : ℕ) (told : Bool) → n ≡ 1 → (w.state p ≡ 3 → ⊥) → Order p n told
  unfolding along Behind
  order_one p n told e h = rw e (record { behind = tt; ends = λ j. (omega arith, h) })

  order_more : (p m n : ℕ) (told : Bool) → n ≡ suc m → w.state p ≡ 3 → Order (w.holder p) m told → Order p n told
  unfolding along Behind
  order_more p zero n told e s r = rw e (record { behind = tt; ends = λ j. absurd (omega (arith, (r.ends j).0)) })
  order_more p (suc m) n told e s r =
      let q = onward_goes w p s in
      let r' : Order (onward w p) (suc m) told = subst (λ (x : ℕ). Order x (suc m) told) q r in
      rw e (record { behind = (s, q, r'.behind); ends = λ j. (omega arith, (r'.ends j).1) })

  order_all : (v : List ℕ) (k p : ℕ) → Order p (k - (follow w v k p).left) (follow w v k p).ring
  unfolding follow
  order_all v zero p = order_none p _ _ (omega arith) refl
  order_all v (suc k) p =
      either (λ (c : Chain). Order p (suc k - c.left) c.ring) (eqb (get_or v p 0) 1)
      (λ m. order_none p _ _ (omega arith) refl)
      (λ m. either (λ (c : Chain). Order p (suc k - c.left) c.ring) (eqb (w.state p) 3)
      (λ s. order_more p (k - (follow w (set v p 1) k (w.holder p)).left) _ _ (omega (arith, follow_left w (set v p 1) k (w.holder p)))
      (eqb-true (w.state p) 3 s) (order_all (set v p 1) k (w.holder p)))
      (λ s. order_one p _ _ (omega arith) (eqb-false (w.state p) 3 s)))

-- ---- all of it
head_along : (w : Waiting) (n a : ℕ) → 1 ≤ n → head (along w n a) ≡ a
unfolding along
head_along w zero a h = absurd (omega arith)
head_along w (suc n) a h = refl

-- somebody is listed
pub chain_some : (w : Waiting) (P a : ℕ) → 1 ≤ P → 1 ≤ chain_length w P a
unfolding follow
chain_some w zero a h = absurd (omega arith)
chain_some w (suc k) a h =
    rw (no_mark a)
    (either (λ (c : Chain). 1 ≤ suc k - c.left) (eqb (w.state a) 3) (λ s. omega (arith, follow_left w (set no_marks a 1) k (w.holder a))) (λ s. omega arith))

pub tells_who : {w : Waiting} {P : ℕ} → Fits w P → (a : ℕ) → Range P a → TellsWho w P a (along w (chain_length w P a) a) (ring w P a)
tells_who {w} {P} F a r =
    let o = order_all w no_marks P a in
    let l = along_length w (chain_length w P a) a in
    record {
      first = head_along w (chain_length w P a) a (chain_some w P a F.some);
      behind = o.behind;
      once = (listed_all F no_marks P a refl r).once;
      few = omega (arith, l);
      ends = λ e. (o.ends e).1;
      again = λ e. subst (λ (n : ℕ). Again w a n (along w (chain_length w P a) a)) (sym l) (ring_is F a r e).1;
      exactly = (λ e. (ring_is F a r e).0, ring_told w P a);
    }

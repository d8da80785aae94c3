-- docs/MONITOR.md, 12: with n processes sharing the highest priority among those running, and only ticks following that end no
-- delay, the one standing k-th is current after k - 1 ticks, and each is current at exactly one moment out of any n in a row.
-- Assumes nothing.
use Prim.Native.Nat.{ℕ, zero, suc, ◌+◌, ◌-◌, ◌≤◌, ◌<◌}
use native.Mathlib.Omega.{arith}
use native.Mathlib.Nat.{zero-add, suc-add}
use mathlib.Core.Bool.{Bool, true, false}
use mathlib.Core.List.{List, [], ◌∷◌}
use mathlib.Core.Logic.{inl, inr, ⊎_elim}
use mathlib.Core.Path.{◌≡◌, refl, sym, ap, ◌∙◌}
use lib.ListN.{length, get_or}
use lib.Dec.{eqb, leb}
use borrow.Author.Tests.{ne_eqb, eq-eqb, le-leb, lt-leb, leb-true}
use Rattle.machine.specs.Queue.{if, In, Out, Distinct, Falls, head, without, enter, passed, keep, fold}
use Rattle.machine.specs.Machine.{Machine, priority, current, buffers}
use Rattle.machine.specs.Moves.{requeue}
use Rattle.machine.specs.Request.{Request, Tick}
use Rattle.machine.specs.Refusal.{refusal}
use Rattle.machine.specs.Step.{step, effect, after, expiring, fallen, woken, grow}
use Rattle.machine.specs.Legal.{Legal, Runs}
use Rattle.lists.proofs.Links.{cases}
use Rattle.lists.proofs.Numbers.{fold_keeps, keep_alike}
use Rattle.lists.proofs.Lists.{put_enter, put_in, put_self, put_old, without_out}
use Rattle.laws.proofs.Ticks.{delays_fell}
use Rattle.laws.proofs.Step.{legal_step}
use Rattle.laws.proofs.Passing.{passed_length, passed_count}

-- ---- the front of a queue goes behind its equals
rotated : (ℕ → ℕ) → List ℕ → List ℕ
rotated rank [] = []
rotated rank (a ∷ q) = enter rank (rank a) a q

-- how many have rank h or more stays
passed_enter : (rank : ℕ → ℕ) (h a : ℕ) → h ≤ rank a → (q : List ℕ) → passed rank h (enter rank h a q) ≡ suc (passed rank h q)
unfolding passed enter
passed_enter rank h a l [] = rw (le-leb h (rank a) l)
passed_enter rank h a l (x ∷ q) = go (leb h (rank x)) refl (passed_enter rank h a l q)
  where
    go : (t : Bool) → leb h (rank x) ≡ t → passed rank h (enter rank h a q) ≡ suc (passed rank h q)
        → passed rank h (if t (x ∷ enter rank h a q) (a ∷ x ∷ q)) ≡ suc (if t (suc (passed rank h q)) 0)
    go true e k = rw (e, k)
    go false e k = rw (le-leb h (rank a) l, e)

-- and those behind the front come one place nearer
enter_nth : (rank : ℕ → ℕ) (h a : ℕ) (q : List ℕ) (k : ℕ) → k < passed rank h q → get_or (enter rank h a q) k 0 ≡ get_or q k 0
unfolding passed enter
enter_nth rank h a [] k l = absurd (omega arith)
enter_nth rank h a (x ∷ q) k l = go k (leb h (rank x)) refl (λ j. enter_nth rank h a q j) l
  where
    go : (k : ℕ) (t : Bool) → leb h (rank x) ≡ t → ((j : ℕ) → j < passed rank h q → get_or (enter rank h a q) j 0 ≡ get_or q j 0)
        → k < if t (suc (passed rank h q)) 0 → get_or (if t (x ∷ enter rank h a q) (a ∷ x ∷ q)) k 0 ≡ get_or (x ∷ q) k 0
    go zero true e f l = refl
    go (suc k) true e f l = f k (omega arith)
    go k false e f l = absurd (omega arith)

in_rotated : (rank : ℕ → ℕ) (q : List ℕ) (x : ℕ) → In x q → In x (rotated rank q)
unfolding rotated
in_rotated rank [] x i = i
in_rotated rank (a ∷ q) x (inl e) = rw e (put_self (put_enter rank (rank a) a q))
in_rotated rank (a ∷ q) x (inr i) = put_old (put_enter rank (rank a) a q) x i

-- n share the highest rank h
pub record Share (rank : ℕ → ℕ) (q : List ℕ) (h n : ℕ) : Type 0 where
  pub highest : (x : ℕ) → In x q → rank x ≤ h
  pub count : length (keep (λ x. eqb (rank x) h) q) ≡ n

-- with them in front, as ranks fall
record Front (rank : ℕ → ℕ) (q : List ℕ) (h n : ℕ) : Type 0 where
  highest : (x : ℕ) → In x q → rank x ≤ h
  front : passed rank h q ≡ suc n

-- the first of them
front_rank : {rank : ℕ → ℕ} {a : ℕ} {q : List ℕ} {h n : ℕ} → Front rank (a ∷ q) h n → (rank a ≡ h) × (passed rank h q ≡ n)
unfolding passed
front_rank {rank} {a} {q} {h} {n} f = go (leb h (rank a)) refl f.front
  where
    go : (t : Bool) → leb h (rank a) ≡ t → if t (suc (passed rank h q)) 0 ≡ suc n → (rank a ≡ h) × (passed rank h q ≡ n)
    go true e k = (omega (arith, leb-true h (rank a) e, f.highest a (inl refl)), omega arith)
    go false e k = absurd (omega arith)

front_rotated : {rank : ℕ → ℕ} (q : List ℕ) {h n : ℕ} → Front rank q h n → Front rank (rotated rank q) h n
unfolding rotated passed
front_rotated [] f = f
front_rotated {rank} (a ∷ q) {h} {n} f =
    let e = front_rank f in
    rw e.0 (record {
      highest = λ x i. ⊎_elim (λ k. f.highest x (inl k)) (λ k. f.highest x (inr k)) (put_in (put_enter rank h a q) i);
      front = passed_enter rank h a (omega arith) q ∙ ap suc e.1;
    })

nth_rotated : {rank : ℕ → ℕ} (q : List ℕ) {h n : ℕ} → Front rank q h n → (k : ℕ) → k < n → get_or (rotated rank q) k 0 ≡ get_or q (suc k) 0
unfolding rotated passed
nth_rotated [] f k l = absurd (omega (arith, f.front))
nth_rotated {rank} (a ∷ q) {h} f k l = let e = front_rank f in rw e.0 (enter_nth rank h a q k (omega (arith, e.1)))

-- ---- a tick that ends no delay
record Rotates (m n : Machine) : Type 0 where
  running : n.running ≡ rotated (priority m) m.running
  ranks : priority n ≡ priority m

requeued : {f g : ℕ → ℕ} {r : List ℕ} (a : ℕ) (q : List ℕ) → f ≡ g → r ≡ a ∷ q → Out a q → enter f (f a) a (without a r) ≡ rotated g (a ∷ q)
unfolding rotated without
requeued a q e k o = rw (e, k, eq-eqb a a refl, without_out a q o)

rotates : {m : Machine} → Legal m → expiring m ≡ [] → Rotates m (step m Tick).machine
unfolding step refusal effect fold rotated
rotates {m} L e =
    let n = requeue (current m) (woken m) in
    fold_keeps (Rotates m) grow (buffers n) (λ b i k c. record { running = c.running; ranks = c.ranks }) n (rw e (go m.running refl))
  where
    go : (q : List ℕ) → m.running ≡ q → Rotates m (requeue (head q) (fallen m))
    go [] k = record { running = (delays_fell L).running ∙ rw k; ranks = (delays_fell L).ranks }
    go (a ∷ q) k =
        let r : Runs m a = L.running.only a (rw k (inl refl)) in
        let d : Distinct (a ∷ q) = rw k at L.running.once in
        rw (ne_eqb a 0 (omega (arith, r.0)))
        (record {
          running = requeued a q (delays_fell L).ranks ((delays_fell L).running ∙ k) d.0 ∙ ap (rotated (priority m)) (sym k);
          ranks = (delays_fell L).ranks;
        })

-- ---- ticks
abbrev pub ticks : ℕ → List Request
ticks zero = []
ticks (suc k) = Tick ∷ ticks k

-- none of k ticks ends a delay
abbrev pub Quiet : Machine → ℕ → Type 0
Quiet m k = (i : ℕ) → i < k → expiring (after m (ticks i)) ≡ []

-- what ticks from m₀ on leave as it is
record Stays (m₀ m : Machine) (h n : ℕ) : Type 0 where
  legal : Legal m
  front : Front (priority m) m.running h n
  among : (x : ℕ) → In x m₀.running → In x m.running
  ranks : priority m ≡ priority m₀

stays_tick : {m₀ m : Machine} {h n : ℕ} → Stays m₀ m h n → expiring m ≡ [] → Stays m₀ (step m Tick).machine h n
stays_tick {m₀} {m} s e =
    let r = rotates s.legal e in
    record {
      legal = legal_step s.legal Tick;
      front = rw (r.running, r.ranks) (front_rotated m.running s.front);
      among = λ x i. rw r.running (in_rotated (priority m) m.running x (s.among x i));
      ranks = r.ranks ∙ s.ranks;
    }

stays : {m₀ m : Machine} {h n : ℕ} (j : ℕ) → Stays m₀ m h n → Quiet m j → Stays m₀ (after m (ticks j)) h n
unfolding after
stays zero s q = s
stays {m = m} (suc j) s q = stays {m = (step m Tick).machine} j (stays_tick s (q 0 (omega arith))) (λ i l. q (suc i) (omega arith))

pub head_nth : (q : List ℕ) → head q ≡ get_or q 0 0
head_nth [] = refl
head_nth (a ∷ q) = refl

-- the one standing k-th, counting from 0, is current after k ticks
turn : {m₀ m : Machine} {h n : ℕ} (k : ℕ) → Stays m₀ m h n → k ≤ n → Quiet m k → current (after m (ticks k)) ≡ get_or m.running k 0
unfolding after
turn {m = m} zero s l q = head_nth m.running
turn {m = m} (suc k) s l q =
    turn {m = (step m Tick).machine} k (stays_tick s (q 0 (omega arith))) (omega arith) (λ i u. q (suc i) (omega arith))
    ∙ ap (λ (r : List ℕ). get_or r k 0) (rotates s.legal (q 0 (omega arith))).running ∙ nth_rotated m.running s.front k (omega arith)

-- C holds at exactly one moment out of n
pub record Once (C : ℕ → Type 0) (n : ℕ) : Type 0 where
  pub moment : ℕ
  pub within : moment < n
  pub is : C moment
  pub only : (i : ℕ) → i < n → C i → i ≡ moment

-- ---- a place in a queue
place : (rank : ℕ → ℕ) (h : ℕ) {x : ℕ} (q : List ℕ) → Falls rank q → In x q → h ≤ rank x → (i : ℕ) × (i < passed rank h q) × (get_or q i 0 ≡ x)
unfolding passed
place rank h [] f i l = absurd i
place rank h (a ∷ q) f (inl e) l = (0, rw (le-leb h (rank a) (rw e at l)) (omega arith), sym e)
place rank h (a ∷ q) f (inr i) l =
    let k = place rank h q f.1 i l in
    (suc k.0, rw (le-leb h (rank a) (omega (arith, f.0 _ i))) (omega (arith, k.1)), k.2)

nth_in : (q : List ℕ) (i : ℕ) → i < length q → In (get_or q i 0) q
nth_in [] i l = absurd (omega arith)
nth_in (a ∷ q) zero l = inl refl
nth_in (a ∷ q) (suc i) l = inr (nth_in q i (omega arith))

one_place : (q : List ℕ) → Distinct q → (i j : ℕ) → i < length q → j < length q → get_or q i 0 ≡ get_or q j 0 → i ≡ j
one_place [] d i j l u e = absurd (omega arith)
one_place (a ∷ q) d zero zero l u e = refl
one_place (a ∷ q) d zero (suc j) l u e = absurd (d.0 (rw e (nth_in q j (omega arith))))
one_place (a ∷ q) d (suc i) zero l u e = absurd (d.0 (rw (← e) (nth_in q i (omega arith))))
one_place (a ∷ q) d (suc i) (suc j) l u e = ap suc (one_place q d.1 i j (omega arith) (omega arith) e)

-- x, of rank h or more, stands at exactly one of the places of those
once_placed : {x : ℕ} (rank : ℕ → ℕ) (h n : ℕ) (q : List ℕ) → Falls rank q → Distinct q → passed rank h q ≡ n → In x q → h ≤ rank x
    → Once (λ i. get_or q i 0 ≡ x) n
once_placed rank h n q f d e i l =
    let p = place rank h q f i l in
    let u = passed_length rank h q in
    record {
      moment = p.0;
      within = omega (arith, p.1);
      is = p.2;
      only = λ k v c. one_place q d k p.0 (omega arith) (omega (arith, p.1)) (c ∙ sym p.2);
    }

once_same : {f g : ℕ → ℕ} {x n : ℕ} → ((i : ℕ) → i < n → g i ≡ f i) → Once (λ i. f i ≡ x) n → Once (λ i. g i ≡ x) n
once_same h o = record { moment = o.moment; within = o.within; is = h _ o.within ∙ o.is; only = λ i l c. o.only i l (sym (h i l) ∙ c) }

after_more : (m : Machine) (j i : ℕ) → after m (ticks (j + i)) ≡ after (after m (ticks j)) (ticks i)
unfolding after
after_more m zero i = rw (zero-add i)
after_more m (suc j) i = rw (suc-add j i) (after_more (step m Tick).machine j i)

-- ---- everyone gets the slice
module _ {m : Machine} (L : Legal m) {h n : ℕ} (s : Share (priority m) m.running h n) where
  counted : passed (priority m) h m.running ≡ n
  counted =
      passed_count (priority m) h m.running L.falls
      ∙ ap length (keep_alike _ _ m.running (λ x i. (let u = s.highest x i in
      cases (priority m x) h (λ e. rw (e, eq-eqb h h refl) (le-leb h h (omega arith)))
      (λ k. lt-leb h (priority m x) (omega arith) ∙ sym (ne_eqb (priority m x) h k)))))
      ∙ s.count

  -- with x among them there is one at least
  pub some_share : (x : ℕ) → Runs m x → priority m x ≡ h → 0 < n
  some_share x r e = omega (arith, (place (priority m) h m.running L.falls (L.running.every x r) (omega arith)).1, counted)

  start : 0 < n → Stays m m h (n - 1)
  start l =
      record { legal = L; front = record { highest = s.highest; front = counted ∙ omega arith }; among = λ x i. i; ranks = refl }

  -- the one standing k-th (here from 0 on) is current after so many ticks
  pub turn_comes : (k : ℕ) → k < n → Quiet m k → current (after m (ticks k)) ≡ get_or m.running k 0
  turn_comes k l q = turn k (start (omega arith)) (omega arith) q

  -- each of the n at exactly one moment out of any n in a row
  pub turn_once : (x : ℕ) → Runs m x → priority m x ≡ h → (j : ℕ) → Quiet m (j + (n - 1)) → Once (λ i. current (after m (ticks (j + i))) ≡ x) n
  turn_once x r e j q =
      let i = L.running.every x r in
      let o = some_share x r e in
      let S = stays j (start o) (λ k l. q k (omega arith)) in
      once_same
      (λ k l. ap current (after_more m j k) ∙ turn k S (omega arith) (λ t u. rw (← (after_more m j t)) (q (j + t) (omega arith))))
      (once_placed _ h n _ S.legal.falls S.legal.running.once (S.front.front ∙ omega arith) (S.among x i) (rw S.ranks (omega arith)))

-- Going along the list, link by link, as the code does. Assumes nothing.
use mathlib.Core.Path.{◌≡◌, refl, sym, ap, ◌∙◌}
use mathlib.Core.Bool.{Bool, true, false, not, ◌||◌}
use mathlib.Core.List.{List, [], ◌∷◌}
use Prim.Native.Nat.{ℕ, zero, suc, ◌+◌, ◌-◌, ◌≤◌, ◌<◌}
use native.Mathlib.Omega.{arith}
use native.Mathlib.Numerals.{sub-one, add-one}
use lib.ListN.{length, set, length-set}
use lib.Seq.{sets}
use lib.Dec.{eqb}
use borrow.Author.Tests.{eq-eqb, ne_eqb, ltb-true, lt-ltb}
use Rattle.lists.proofs.Tells.{Tells, le, both, unless}
use Rattle.delays.specs.declared.list.Spot.{Spot}
use Rattle.delays.specs.Words.{
  P_of,
  next,
  difference,
  sum,
  sooner,
  walk,
  met,
  further,
  due_here,
  nearer,
  sought,
  place,
  over,
  due,
  rest,
  may_follow,
  ordered,
  Gathers,
}

module _ {A : Type 0} (stop : A → Bool) (go : A → A) where
  pub walk_stops : (k : ℕ) (a : A) → stop a ≡ true → walk stop go k a ≡ a
  unfolding walk
  walk_stops zero a e = refl
  walk_stops (suc k) a e = rw e

  pub walk_goes : (k : ℕ) (a : A) → stop a ≡ false → 0 < k → walk stop go k a ≡ walk stop go (k - 1) (go a)
  unfolding walk
  walk_goes zero a e h = absurd (omega arith)
  walk_goes (suc k) a e h = rw (sub-one, e)

  pub walk_next : (k j : ℕ) (a : A) → stop a ≡ false → k ≡ suc j → walk stop go k a ≡ walk stop go j (go a)
  walk_next k j a e h = let f : k - 1 ≡ j = omega arith in walk_goes k a e (omega arith) ∙ ap (λ (i : ℕ). walk stop go i (go a)) f

  pub walk_spent : (k : ℕ) (a : A) → k ≡ 0 → walk stop go k a ≡ a
  unfolding walk
  walk_spent k a e = rw e

or_right : (a : Bool) {b : Bool} → b ≡ true → (a || b) ≡ true
or_right true e = refl
or_right false e = e

abbrev pub spot : ℕ → ℕ → Spot
spot b m = record { before = b; time = m }

-- ---- seeking p, behind s, with k links left; x is behind s
module _ (t : List ℕ) (p : ℕ) where
  abbrev pub seeks : ℕ → Spot → Spot
  seeks = walk (met t p) (further t)

  module _ (k : ℕ) (s : Spot) (w : seeks k s ≡ sought t p) {x : ℕ} (e : x ≡ next t s.before) where
    stands : met t p s ≡ true → s ≡ sought t p
    stands h = sym (walk_stops (met t p) (further t) k s h) ∙ w

    pub seek_there : x ≡ p → (s ≡ sought t p) × (next t s.before ≡ p)
    seek_there f = (stands (or_right _ (eq-eqb (next t s.before) p (sym e ∙ f))), sym e ∙ f)

    pub seek_ends : (x ≡ p → ⊥) → x ≡ 0 → next t (sought t p).before ≡ p → ⊥
    seek_ends n z i = n (e ∙ ap (λ (y : Spot). next t y.before) (stands (rw (eq-eqb (next t s.before) 0 (sym e ∙ z)))) ∙ i)

    pub seek_goes : (x ≡ p → ⊥) → (x ≡ 0 → ⊥) → {c m : ℕ} → c ≡ difference t x → m ≡ sum s.time c → {j : ℕ} → k ≡ suc j → seeks j (spot x m) ≡ sought t p
    seek_goes n z {c} {m} f g {j} h =
        let same : spot x m ≡ further t s = ap (spot x) (g ∙ ap (sum s.time) f) ∙ ap (λ (y : ℕ). spot y (sum s.time (difference t y))) e in
        ap (seeks j) same
        ∙ sym (walk_next (met t p) (further t) k j s (rw (ne_eqb (next t s.before) 0 (λ i. z (e ∙ i)), ne_eqb (next t s.before) p (λ i. n (e ∙ i)))) h) ∙ w

    pub seek_spent : k ≡ 0 → (x ≡ p → ⊥) → next t (sought t p).before ≡ p → ⊥
    seek_spent z n i = n (e ∙ ap (λ (y : Spot). next t y.before) (sym (walk_spent (met t p) (further t) k s z) ∙ w) ∙ i)

    pub seek_last : k ≡ 0 → x ≡ p → (s ≡ sought t p) × (next t s.before ≡ p)
    seek_last z f = (sym (walk_spent (met t p) (further t) k s z) ∙ w, sym e ∙ f)

-- ---- finding a place for p, to end d from now, behind s, with k links left; x is behind s
module _ (t : List ℕ) (p d : ℕ) where
  abbrev pub finds : ℕ → Spot → Spot
  finds = walk (due_here t p) (nearer t)

  module _ (k : ℕ) (s : Spot) (w : finds k s ≡ place t p d) {x : ℕ} (e : x ≡ next t s.before) where
    pub find_none : x ≡ 0 → s ≡ place t p d
    find_none z = sym (walk_stops (due_here t p) (nearer t) k s (rw (eq-eqb (next t s.before) 0 (sym e ∙ z)))) ∙ w

    module _ (n : x ≡ 0 → ⊥) {c : ℕ} {r : Bool} (f : c ≡ difference t x) (g : r ≡ sooner c x s.time p) where
      stopped : due_here t p s ≡ not r
      stopped =
          rw (ne_eqb (next t s.before) 0 (λ z. n (e ∙ z)))
          (ap not (sym (g ∙ ap (λ (y : ℕ). sooner y x s.time p) f ∙ ap (λ (y : ℕ). sooner (difference t y) y s.time p) e)))

      pub find_stops : r ≡ false → s ≡ place t p d
      find_stops h = sym (walk_stops (due_here t p) (nearer t) k s (stopped ∙ ap not h)) ∙ w

      pub find_goes : r ≡ true → {m : ℕ} → m ≡ s.time - c → {j : ℕ} → k ≡ suc j → finds j (spot x m) ≡ place t p d
      find_goes h {m} i {j} l =
          let same : spot x m ≡ nearer t s = ap (spot x) (i ∙ ap (λ (y : ℕ). s.time - y) f) ∙ ap (λ (y : ℕ). spot y (s.time - difference t y)) e in
          ap (finds j) same ∙ sym (walk_next (due_here t p) (nearer t) k j s (stopped ∙ ap not h) l) ∙ w

  pub find_spent : (k : ℕ) (s : Spot) → finds k s ≡ place t p d → k ≡ 0 → s ≡ place t p d
  find_spent k s w e = sym (walk_spent (due_here t p) (nearer t) k s e) ∙ w

-- ---- testing the order
pub may_tells : (b s x c : ℕ) → Tells (may_follow b s x c) ((c ≤ 65535 - s) × ((1 ≤ c → ⊥) → (1 ≤ s) × (b < x)))
may_tells b s x c = both (le c (65535 - s)) (unless (le 1 c) (both (le 1 s) (record { holds = ltb-true b x; back = lt-ltb b x })))

-- what may follow ends in a word
pub may_stays : (b s x c : ℕ) {r : Bool} → r ≡ may_follow b s x c → r ≡ true → s < 65536 → s + c < 65536
may_stays b s x c {r} e n h = let room : c ≤ 65535 - s = ((may_tells b s x c).holds (sym e ∙ n)).0 in omega arith

-- behind b, which ends at s
module _ (t : List ℕ) (b s : ℕ) where
  pub order_ends : (k : ℕ) {x : ℕ} → x ≡ next t b → x ≡ 0 → true ≡ ordered t k b s
  unfolding ordered
  order_ends zero e z = rw (eq-eqb (next t b) 0 (sym e ∙ z))
  order_ends (suc k) e z = rw (eq-eqb (next t b) 0 (sym e ∙ z))

  pub order_spent : (k : ℕ) {x : ℕ} → k ≡ 0 → x ≡ next t b → eqb x 0 ≡ ordered t k b s
  unfolding ordered
  order_spent k z e = rw (z, e)

  module _ {x c : ℕ} {r : Bool} (e : x ≡ next t b) (n : x ≡ 0 → ⊥) (f : c ≡ difference t x) (g : r ≡ may_follow b s x c) where
    may : may_follow b s (next t b) (difference t (next t b)) ≡ r
    may = sym (g ∙ ap (may_follow b s x) f ∙ ap (λ (y : ℕ). may_follow b s y (difference t y)) e)

    pub order_fails : (k : ℕ) → 0 < k → r ≡ false → false ≡ ordered t k b s
    unfolding ordered
    order_fails zero h z = absurd (omega arith)
    order_fails (suc k) h z = rw (ne_eqb (next t b) 0 (λ i. n (e ∙ i)), may ∙ z)

    pub order_goes : (k j : ℕ) → k ≡ suc j → r ≡ true → ordered t j x (s + c) ≡ ordered t k b s
    unfolding ordered
    order_goes k j h z =
        ap (λ (y : ℕ). ordered t j x (s + y)) f ∙ ap (λ (y : ℕ). ordered t j y (s + difference t y)) e
        ∙ rw (h, ne_eqb (next t b) 0 (λ i. n (e ∙ i)), may ∙ z)

-- ---- gathering those that end now, from x on
module _ (t : List ℕ) where
  pub due_stops : (k x : ℕ) → over t x ≡ true → due t k x ≡ []
  unfolding due
  due_stops zero x e = refl
  due_stops (suc k) x e = rw e

  pub due_goes : (k x : ℕ) → over t x ≡ false → 0 < k → due t k x ≡ x ∷ due t (k - 1) (next t x)
  unfolding due
  due_goes zero x e h = absurd (omega arith)
  due_goes (suc k) x e h = rw (sub-one, e)

  pub due_spent : (k x : ℕ) → k ≡ 0 → due t k x ≡ []
  unfolding due
  due_spent k x e = rw e

  pub over_none : (x : ℕ) → x ≡ 0 → over t x ≡ true
  over_none x e = rw (eq-eqb x 0 e)

  pub over_later : (x : ℕ) → (difference t x ≡ 0 → ⊥) → (x ≡ 0 → ⊥) → over t x ≡ true
  over_later x e n = rw (ne_eqb x 0 n, ne_eqb (difference t x) 0 e)

  pub over_not : (x : ℕ) → (x ≡ 0 → ⊥) → difference t x ≡ 0 → over t x ≡ false
  over_not x n e = rw (ne_eqb x 0 n, eq-eqb (difference t x) 0 e)

-- on the way: with n gone into the room, which was s and is v, x is next
pub record Gathering (t s v : List ℕ) (first all x n : ℕ) : Type 0 where
  pub few : n ≤ all
  pub among : x ≤ P_of t
  pub same : length v ≡ length s
  pub room : sets v n (due t (all - n) x) ≡ sets s 0 (due t all first)
  pub count : n + length (due t (all - n) x) ≡ length (due t all first)
  pub behind : rest t (all - n) x ≡ rest t all first

pub gathering_none : (t s : List ℕ) (first all : ℕ) → first ≤ P_of t → Gathering t s s first all first 0
gathering_none t s first all h =
    let e : all - 0 ≡ all = omega arith in
    record {
      few = omega arith;
      among = h;
      same = refl;
      room = ap (λ (k : ℕ). sets s 0 (due t k first)) e;
      count = omega (arith, ap (λ (k : ℕ). length (due t k first)) e);
      behind = ap (λ (k : ℕ). rest t k first) e;
    }

module _ {t s v : List ℕ} {first all x n : ℕ} (g : Gathering t s v first all x n) where
  pub gathering_goes : {y c : ℕ} → n < all → (x ≡ 0 → ⊥) → c ≡ difference t x → c ≡ 0 → y ≡ next t x → y ≤ P_of t
      → Gathering t s (set v n x) first all y (n + 1)
  gathering_goes {y} {c} h z i d e l =
      let o : over t x ≡ false = over_not t x z (sym i ∙ d) in
      let k : all - n - 1 ≡ all - (n + 1) = omega arith in
      let q : due t (all - n) x ≡ x ∷ due t (all - (n + 1)) y =
      due_goes t (all - n) x o (omega arith) ∙ ap (λ (j : ℕ). x ∷ due t j (next t x)) k ∙ ap (λ (w : ℕ). x ∷ due t (all - (n + 1)) w) (sym e) in
      record {
        few = omega arith;
        among = l;
        same = length-set v n x ∙ g.same;
        room = rw (add-one n) (sym (ap (sets v n) (q ∙ ap (λ (j : ℕ). x ∷ due t (all - j) y) (add-one n))) ∙ g.room);
        count = omega (arith, ap length q, g.count);
        behind = sym (walk_goes (over t) (next t) (all - n) x o (omega arith) ∙ ap (λ (j : ℕ). rest t j (next t x)) k
            ∙ ap (rest t (all - (n + 1))) (sym e)) ∙ g.behind;
      }

  ends : all ≡ P_of t → due t (all - n) x ≡ [] → rest t (all - n) x ≡ x → Gathers t s v first (record { count = n; rest = x })
  ends a d r =
      record {
        room = sym (ap (sets v n) d) ∙ g.room ∙ ap (λ (k : ℕ). sets s 0 (due t k first)) a;
        count = omega (arith, ap length d, g.count, ap (λ (k : ℕ). length (due t k first)) a);
        rest = sym r ∙ g.behind ∙ ap (λ (k : ℕ). rest t k first) a;
        among = g.among;
      }

  pub gathering_over : all ≡ P_of t → over t x ≡ true → Gathers t s v first (record { count = n; rest = x })
  gathering_over a o = ends a (due_stops t (all - n) x o) (walk_stops (over t) (next t) (all - n) x o)

  pub gathering_spent : all ≡ P_of t → all ≤ n → Gathers t s v first (record { count = n; rest = x })
  gathering_spent a h = ends a (due_spent t (all - n) x (omega arith)) (walk_spent (over t) (next t) (all - n) x (omega arith))

-- The rings counted and written one process more at a time. Assumes nothing.
use mathlib.Core.Path.{◌≡◌, refl, sym, ap, ◌∙◌}
use mathlib.Core.Bool.{Bool, true, false}
use mathlib.Core.List.{List, [], ◌∷◌, ◌++◌, append-nil, append_assoc}
use Prim.Native.Nat.{ℕ, zero, suc, ◌+◌, ◌-◌, ◌*◌, ◌≤◌, ◌<◌}
use native.Mathlib.Omega.{arith}
use lib.ListN.{length, get_or, set, length-set, length-append}
use lib.Seq.{sets, get_or-set_same, get_or-set_other}
use Rattle.machine.specs.Queue.{if, Range, from, keep}
use Rattle.lists.proofs.Tests.{either, tested}
use Rattle.lists.proofs.Links.{cases}
use Rattle.lists.proofs.Numbers.{keep_yes, keep_no, count_zero, count_yes, sets_append}
use Rattle.stuck.specs.Waiting.{Waiting}
use Rattle.stuck.specs.Chain.{chain_length, along}
use Rattle.stuck.specs.Rings.{members, leads, leaders, ring_of, closed, words_to, words_of, Measured, MayPut, RingPut, MayFill}
use Rattle.stuck.proofs.Steps.{along_length}
use Rattle.stuck.proofs.Visits.{chain_some}

-- ---- whether a leads a ring, by how many are in it
module _ (w : Waiting) (P a : ℕ) where
  members_some : (members w P a ≡ 0 → ⊥) → leads w P a ≡ true
  members_some h = tested (leads w P a) (λ e. e) (λ e. absurd (h (rw e)))

  members_none : Range P a → members w P a ≡ 0 → leads w P a ≡ false
  members_none r z = tested (leads w P a) (λ e. absurd (omega (arith, chain_some w P a (omega arith), rw e at z))) (λ e. e)

  members_all : leads w P a ≡ true → members w P a ≡ chain_length w P a
  members_all e = rw e

-- ---- the rings of the first n processes, one process more at a time
closed_append : (ring : ℕ → List ℕ) (l r : List ℕ) → closed ring (l ++ r) ≡ closed ring l ++ closed ring r
unfolding closed
closed_append ring [] r = refl
closed_append ring (a ∷ l) r = ap (λ (k : List ℕ). ring a ++ (0 ∷ k)) (closed_append ring l r) ∙ sym (append_assoc (ring a) (0 ∷ closed ring l) (closed ring r))

module _ (w : Waiting) (P : ℕ) where
  pub words_none : words_to w P 0 ≡ []
  unfolding keep from closed
  words_none = refl

  words_of_length : (a : ℕ) → leads w P a ≡ true → length (words_of w P a) ≡ chain_length w P a + 1
  words_of_length a h = rw h (length-append (ring_of w P a) (0 ∷ []) ∙ ap (λ (k : ℕ). k + 1) (along_length w (chain_length w P a) a))

  pub words_more : (n : ℕ) → words_to w P (n + 1) ≡ words_to w P n ++ words_of w P (n + 1)
  unfolding closed
  words_more n = go (leads w P (n + 1)) refl
    where
      go : (t : Bool) → leads w P (n + 1) ≡ t → words_to w P (n + 1) ≡ words_to w P n ++ (if t (ring_of w P (n + 1) ++ (0 ∷ [])) [])
      go true e = ap (closed (ring_of w P)) (keep_yes (leads w P) n e) ∙ closed_append (ring_of w P) (leaders w P n) ((n + 1) ∷ [])
      go false e = ap (closed (ring_of w P)) (keep_no (leads w P) n e) ∙ sym (append-nil (words_to w P n))

-- ---- the ring of a put into the room
module _ {w : Waiting} {P at a n room : ℕ} (m : MayPut w P at a n room) where
  pub put_none : {s : List ℕ} → n ≡ 0 → RingPut w P s s at a at
  put_none z = let k = members_none w P a m.is (sym m.members ∙ z) in record { put = rw k; next = rw k (omega arith) }

  module _ (h : n ≡ 0 → ⊥) where
    led : leads w P a ≡ true
    led = members_some w P a (λ z. h (m.members ∙ z))

    counted : n ≡ chain_length w P a
    counted = m.members ∙ members_all w P a led

    pub put_fits : at + n + 1 ≤ room
    put_fits = omega (arith, m.fits, words_of_length w P a led, counted)

    pub put_some : (s : List ℕ) {u : List ℕ} → u ≡ sets s at (along w n a) → RingPut w P s (set u (at + n) 0) at a (at + n + 1)
    put_some s {u} f =
        record {
          put =
              ap (λ (v : List ℕ). set v (at + n) 0) f ∙ ap (λ (j : ℕ). set (sets s at (along w n a)) (at + j) 0) (sym (along_length w n a))
              ∙ sets_append s at (along w n a) (0 ∷ []) ∙ rw led (ap (λ (j : ℕ). sets s at (along w j a ++ (0 ∷ []))) counted);
          next = omega (arith, words_of_length w P a led, counted);
        }

-- ---- the rings of the first a processes counted, and put into the room
pub record Measuring (w : Waiting) (P : ℕ) (v : List ℕ) (rings words a : ℕ) : Type 0 where
  pub few : a ≤ P
  pub count : rings ≡ length (leaders w P a)
  pub long : words ≡ length (words_to w P a)
  pub rings_most : rings ≤ a
  pub words_most : words ≤ a * 33
  pub places : length v ≡ 33
  pub sizes : (y : ℕ) → Range a y → get_or v y 0 ≡ members w P y

pub measuring_none : {w : Waiting} {P : ℕ} {v : List ℕ} → length v ≡ 33 → Measuring w P v 0 0 0
measuring_none {w} {P} h =
    record {
      few = omega arith;
      count = count_zero (leads w P);
      long = sym (ap length (words_none w P));
      rings_most = omega arith;
      words_most = omega arith;
      places = h;
      sizes = λ y r. absurd (omega (arith, r));
    }

module _ {w : Waiting} {P : ℕ} {v : List ℕ} {rings words a n : ℕ} (g : Measuring w P v rings words a) (m : P ≤ 32) (e : n ≡ members w P (a + 1)) where
  pub members_most : n ≤ 32
  members_most = omega (arith, e, either (λ (k : ℕ). k ≤ P) (leads w P (a + 1)) {a = chain_length w P (a + 1)} {b = 0} (λ _. omega arith) (λ _. omega arith))

  -- the size goes to its place
  sizes_more : a < P → (y : ℕ) → Range (a + 1) y → get_or (set v (a + 1) n) y 0 ≡ members w P y
  sizes_more h y r =
      cases y (a + 1)
      (λ k. rw k (get_or-set_same v (a + 1) n 0 (omega (arith, g.places, h, m)) ∙ e))
      (λ k. get_or-set_other v (a + 1) y n 0 k ∙ g.sizes y (r.0, omega (arith, r, k)))

  words_long : length (words_to w P (a + 1)) ≡ words + length (words_of w P (a + 1))
  words_long = ap length (words_more w P a) ∙ length-append (words_to w P a) (words_of w P (a + 1))
      ∙ ap (λ (k : ℕ). k + length (words_of w P (a + 1))) (sym g.long)

  pub measuring_yes : a < P → (n ≡ 0 → ⊥) → Measuring w P (set v (a + 1) n) (rings + 1) (words + (n + 1)) (a + 1)
  measuring_yes h z =
      let l = members_some w P (a + 1) (λ k. z (e ∙ k)) in
      record {
        few = omega arith;
        count = ap (λ (k : ℕ). k + 1) g.count ∙ sym (count_yes (leads w P) a l);
        long = omega (arith, words_long, words_of_length w P (a + 1) l, members_all w P (a + 1) l);
        rings_most = omega (arith, g.rings_most);
        words_most = omega (arith, g.words_most, members_most);
        places = length-set v (a + 1) n ∙ g.places;
        sizes = sizes_more h;
      }

  pub measuring_no : a < P → n ≡ 0 → Measuring w P (set v (a + 1) n) rings words (a + 1)
  measuring_no h z =
      let l = members_none w P (a + 1) (omega arith, omega arith) (sym e ∙ z) in
      record {
        few = omega arith;
        count = g.count ∙ sym (ap length (keep_no (leads w P) a l));
        long = omega (arith, rw l at words_long);
        rings_most = omega (arith, g.rings_most);
        words_most = omega (arith, g.words_most);
        places = length-set v (a + 1) n ∙ g.places;
        sizes = sizes_more h;
      }

pub measuring_done : {w : Waiting} {P : ℕ} {v : List ℕ} {rings words a : ℕ} → Measuring w P v rings words a → P ≤ a
    → Measured w P v (record { rings = rings; words = words })
measuring_done {w} {P} {a = a} g h = let e : a ≡ P = omega (arith, g.few) in
    record { rings = rw e at g.count; words = rw e at g.long; sizes = rw e at g.sizes }

-- the words of the first processes are the first of all
record Further (w : Waiting) (P a n : ℕ) : Type 0 where
  rest : List ℕ
  is : words_to w P (a + n) ≡ words_to w P a ++ rest

further : (w : Waiting) (P a n : ℕ) → Further w P a n
further w P a zero = let e : a + 0 ≡ a = omega arith in record { rest = []; is = rw e (sym (append-nil (words_to w P a))) }
further w P a (suc n) =
    let e : a + suc n ≡ (a + n) + 1 = omega arith in
    let f = further w P a n in
    record {
      rest = f.rest ++ words_of w P ((a + n) + 1);
      is = rw e
          (words_more w P (a + n) ∙ ap (λ (l : List ℕ). l ++ words_of w P ((a + n) + 1)) f.is
          ∙ append_assoc (words_to w P a) f.rest (words_of w P ((a + n) + 1)));
    }

pub record Filling (w : Waiting) (P : ℕ) (s v : List ℕ) (at a : ℕ) : Type 0 where
  pub few : a ≤ P
  pub same : length v ≡ length s
  pub next : at ≡ length (words_to w P a)
  pub room : v ≡ sets s 0 (words_to w P a)

pub filling_none : {w : Waiting} {P : ℕ} {s : List ℕ} → Filling w P s s 0 0
filling_none {w} {P} {s} =
    let e = words_none w P in
    record { few = omega arith; same = refl; next = sym (ap length e); room = rw e }

module _ {w : Waiting} {P : ℕ} {z s v : List ℕ} {words at a : ℕ} (f : MayFill w P z words (length s)) (g : Filling w P s v at a) where
  -- where words are left to write, so are processes to look at
  pub filling_left : at < words → a < P
  filling_left h = cases a P (λ e. absurd (omega (arith, f.all, g.next, ap (λ (k : ℕ). length (words_to w P k)) e))) (λ n. omega (arith, g.few))

  rest_of : Further w P a (P - a)
  rest_of = further w P a (P - a)

  whole : words_to w P P ≡ words_to w P a ++ rest_of.rest
  whole = let e : a + (P - a) ≡ P = omega (arith, g.few) in rw e at rest_of.is

  pub filling_done : words ≤ at → v ≡ sets s 0 (words_to w P P)
  filling_done h = g.room ∙ ap (sets s 0)
      (sym (whole ∙ go rest_of.rest (omega (arith, f.all, g.next, ap length whole ∙ length-append (words_to w P a) rest_of.rest))))
    where
      go : (r : List ℕ) → length r ≡ 0 → words_to w P a ++ r ≡ words_to w P a
      go [] e = append-nil (words_to w P a)
      go (x ∷ r) e = absurd (omega arith)

module _ {w : Waiting} {P : ℕ} {s v : List ℕ} {at a : ℕ} (g : Filling w P s v at a) (h : a < P) where
  pub filling_more : {u : List ℕ} {r : ℕ} → length u ≡ length v → RingPut w P v u at (a + 1) r → Filling w P s u r (a + 1)
  filling_more {u} {r} l p =
      let k = words_more w P a in
      record {
        few = omega arith;
        same = l ∙ g.same;
        next = p.next ∙ ap (λ (j : ℕ). j + length (words_of w P (a + 1))) g.next ∙ sym (length-append (words_to w P a) (words_of w P (a + 1)))
            ∙ sym (ap length k);
        room =
            p.put ∙ ap (λ (j : ℕ). sets v j (words_of w P (a + 1))) g.next
            ∙ ap (λ (x : List ℕ). sets x (length (words_to w P a)) (words_of w P (a + 1))) g.room
            ∙ behind ∙ ap (sets s 0) (sym k);
      }
    where
      behind : sets (sets s 0 (words_to w P a)) (length (words_to w P a)) (words_of w P (a + 1)) ≡ sets s 0 (words_to w P a ++ words_of w P (a + 1))
      behind = let z : 0 + length (words_to w P a) ≡ length (words_to w P a) = omega arith in rw z at (sets_append s 0 (words_to w P a) (words_of w P (a + 1)))

  pub filling_fits : {z : List ℕ} {words : ℕ} → MayFill w P z words (length s) → at + length (words_of w P (a + 1)) ≤ length v
  filling_fits f =
      let e : (a + 1) + (P - (a + 1)) ≡ P = omega arith in
      let k = ap length (words_more w P a) ∙ length-append (words_to w P a) (words_of w P (a + 1)) in
      let r = further w P (a + 1) (P - (a + 1)) in
      let q = ap length (rw e at r.is) ∙ length-append (words_to w P (a + 1)) r.rest in
      omega (arith, q, k, g.next, g.same, f.all, f.fits)

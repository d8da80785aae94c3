-- Words that keep delays keep what the plain clock makes of them, call by call. Assumes nothing.
use mathlib.Core.Path.{◌≡◌, refl, sym, ap, subst, ◌∙◌}
use mathlib.Core.Bool.{not}
use mathlib.Core.List.{List, [], ◌∷◌}
use mathlib.Core.Logic.{inl, inr, ⊎_elim}
use Prim.Native.Nat.{ℕ, ◌+◌, ◌-◌, ◌*◌, ◌≤◌, ◌<◌}
use native.Mathlib.Omega.{arith}
use lib.ListN.{length, get_or, set, length-set}
use lib.Seq.{get_or-set_same, get_or-set_other}
use lib.Dec.{eqb}
use borrow.Author.Tests.{eqb-true, eqb-false, eq-eqb, ne_eqb, not-true}
use Rattle.machine.specs.Queue.{at, same, In, Out, Distinct, Range, without, from, keep}
use Rattle.lists.proofs.Tests.{either}
use Rattle.lists.proofs.Links.{cases, yes_same, no_same}
use Rattle.lists.proofs.Numbers.{few, in_from, in_keep, keep_in, from_in, keep_once}
use Rattle.lists.proofs.Lists.{at_all, Beside, exact_put, exact_take, in_without}
use Rattle.delays.specs.Words.{P_of, next, difference, put_next, sum, sought, place, unlinked, linked, gone, entered, waited, left, fallen, rest}
use Rattle.delays.specs.Words.{woken, ticked, made}
use Rattle.delays.specs.Delays.{fall, ending, Rising, LinkedByTime, Keeps}
use Rattle.delays.proofs.Reading.{next_link, next_small, sum_under, after_next, same_earlier, same_unlinked, same_linked, same_gone, gone_not}
use Rattle.delays.proofs.Reading.{gone_there, left_not, left_there, entered_at, waited_none, waited_some}
use Rattle.delays.proofs.Walks.{spot}
use Rattle.delays.proofs.Standing.{Some, stands_same, stands_first, stands_behind, stands_pair}
use Rattle.delays.proofs.Taking.{taken, seek_in, seek_there}
use Rattle.delays.proofs.Putting.{PutsDelay, insert, put_insert, rising_insert, rising_same, put, place_in}
use Rattle.delays.proofs.Falling.{stands_fall, rising_fall, ends, goes_on, Parted, parted, ascending_same, ascending_among, ascending_ends, rising_keep}
use Rattle.delays.proofs.Writing.{took, puts, next_here, next_else, next_earlier, difference_next, earlier_here, earlier_else}

-- ---- what is the same of delays changed at p
pub at_here : (d : ℕ → ℕ) (p v : ℕ) → at d p v p ≡ v
at_here d p v = yes_same p p _ _ refl

pub at_else : (d : ℕ → ℕ) (p v y : ℕ) → (y ≡ p → ⊥) → at d p v y ≡ d y
at_else d p v y n = no_same y p _ _ n

at_same : (d : ℕ → ℕ) (p : ℕ) (v : ℕ) → d p ≡ v → at d p v ≡ d
at_same d p v e = λ i y. each y i
  where
    each : (y : ℕ) → at d p v y ≡ d y
    each y = cases y p (λ k. yes_same y p _ _ k ∙ sym e ∙ ap d (sym k)) (λ k. no_same y p _ _ k)

at_twice : (d : ℕ → ℕ) (p u v : ℕ) → at (at d p u) p v ≡ at d p v
at_twice d p u v = λ i y. each y i
  where
    each : (y : ℕ) → at (at d p u) p v y ≡ at d p v y
    each y = cases y p (λ k. yes_same y p _ _ k ∙ sym (yes_same y p _ _ k)) (λ k. no_same y p _ _ k ∙ no_same y p _ _ k ∙ sym (no_same y p _ _ k))

rising_without : (d : ℕ → ℕ) (x : ℕ) (q : List ℕ) → Rising d q → Rising d (without x q)
unfolding without
rising_without d x [] r = tt
rising_without d x (a ∷ q) r =
    either (Rising d) (eqb x a)
    (λ t. rising_without d x q r.1)
    (λ t. (λ y i. r.0 y (in_without x y q i).1, rising_without d x q r.1))

-- who waits is the same but for p
beside : {P P' : ℕ} → P' ≡ P → (d d' : ℕ → ℕ) (p : ℕ) → ((y : ℕ) → (y ≡ p → ⊥) → d' y ≡ d y)
    → Beside p (λ y. Range P y × (1 ≤ d y)) (λ y. Range P' y × (1 ≤ d' y))
beside e d d' p same =
    record { to = λ y n c. (omega (arith, e, c.0), omega (arith, same y n, c.1)); from = λ y n c. (omega (arith, e, c.0), omega (arith, same y n, c.1)) }

-- ---- of words that keep delays
module _ {t : List ℕ} {d : ℕ → ℕ} (k : Keeps t d) where
  some : Some k.q
  some y i = (k.exact.only y i).0.0

  pub few_here : length k.q ≤ P_of t
  few_here = few 0 (P_of t) k.q k.exact.once (λ x i. (let r = (k.exact.only x i).0 in (omega (arith, r.0), omega (arith, r.1))))

  once : Distinct (0 ∷ k.q)
  once = (λ i. omega (arith, some 0 i), k.exact.once)

  small_here : (y : ℕ) → In y k.q → d y < 65536
  small_here y i = k.small y (k.exact.only y i).0

  module _ (p : ℕ) (r : Range (P_of t) p) where
    abbrev b : ℕ
    b = (sought t p).before

    found_in : In b (0 ∷ k.q)
    found_in = seek_in t p d (P_of t) (spot 0 0) 0 k.q k.stands

    found_small : b ≤ P_of t
    found_small = ⊎_elim (λ e. omega (arith, e)) (λ i. (k.exact.only b i).0.1) found_in

    there : In p k.q → (next t b ≡ p) × ((sought t p).time + difference t p ≡ d p)
    there = seek_there t p d (P_of t) 0 0 k.q few_here k.stands some small_here

    not_there : Out p k.q → next t b ≡ p → ⊥
    not_there o e = o (subst (λ (y : ℕ). In y k.q) e (stands_behind (next t) (difference t) d 0 0 k.q b k.stands found_in
        (λ z. omega (arith, z, e, r.0))))

    out : d p ≡ 0 → Out p k.q
    out e i = omega (arith, e, (k.exact.only p i).1)

    inside : (d p ≡ 0 → ⊥) → In p k.q
    inside n = k.exact.every p (r, omega (arith, n))

    -- the delay left
    pub left_is : left t p ≡ d p
    left_is =
        cases (d p) 0
        (λ e. sym (left_not t p refl refl (not_there (out e))) ∙ sym e)
        (λ n. (let w = there (inside n) in
        sym (left_there t p refl refl w.0) ∙ sym (sum_under _ _ (omega (arith, w.1, k.small p r))) ∙ w.1))

    -- p is taken out
    its : In p k.q → (next t p ≡ 0 → ⊥) → difference t (next t p) + difference t p ≡ sum (difference t (next t p)) (difference t p)
    its i n =
        let y : In (next t p) k.q = stands_behind (next t) (difference t) d 0 0 k.q p k.stands (inr i) n in
        sum_under _ _ (omega (arith, stands_pair (next t) (difference t) d (next t 0) 0 k.q p k.stands i n, small_here (next t p) y))

    keeps_unlinked : In p k.q → next t b ≡ p → Keeps (unlinked b p t) (at d p 0)
    keeps_unlinked i e =
        let s = same_unlinked t b p k.size in
        record {
          size = s.size;
          q = without p k.q;
          stands = taken (next t) (difference t) _ _ p b d (at d p 0) (took t b p k.size found_small (its i)) e (at_else d p 0) 0 0 k.q
              k.stands once some found_in i r.0;
          rising = rising_same d (at d p 0) (without p k.q) (λ y j. at_else d p 0 y (in_without p y k.q j).0) (rising_without d p k.q k.rising);
          exact = exact_take (beside s.processes d (at d p 0) p (at_else d p 0)) k.exact (λ c. omega (arith, c.1, at_here d p 0));
          small = λ y j. (let j' : Range (P_of t) y = omega (arith, s.processes) in at_all (λ (x : ℕ). x < 65536) d p 0 y (λ _. omega arith)
              (λ _. k.small y j'));
        }

    pub keeps_gone : Keeps (gone p t) (at d p 0)
    keeps_gone =
        cases (d p) 0
        (λ e. subst (λ (u : List ℕ). Keeps u (at d p 0)) (gone_not t p refl refl (not_there (out e))) (subst (Keeps t) (sym (at_same d p 0 e)) k))
        (λ n. (let w = there (inside n) in subst (λ (u : List ℕ). Keeps u (at d p 0)) (gone_there t p refl refl w.0) (keeps_unlinked (inside n) w.0)))

    -- p is put in
    module _ (none : d p ≡ 0) (v : ℕ) (limit : Range 65535 v) where
      abbrev a : ℕ
      a = (place t p v).before

      place_here : In a (0 ∷ k.q)
      place_here = place_in t p d (P_of t) (spot 0 v) 0 k.q k.stands

      not_p : a ≡ p → ⊥
      not_p e = ⊎_elim (λ z. omega (arith, z, e, r.0)) (λ i. out none (subst (λ (y : ℕ). In y k.q) e i)) place_here

      not_next : next t a ≡ p → ⊥
      not_next e = out none (subst (λ (y : ℕ). In y k.q) e
          (stands_behind (next t) (difference t) d 0 0 k.q a k.stands place_here (λ z. omega (arith, z, e, r.0))))

      put_here : PutsDelay (next t) (difference t) (next (linked a (place t p v).time p t)) (difference (linked a (place t p v).time p t)) a
          (place t p v).time p
      put_here = puts t a (place t p v).time p k.size (⊎_elim (λ e. omega (arith, e)) (λ i. (k.exact.only a i).0.1) place_here) r not_p not_next

      pub keeps_entered : Keeps (entered p v t) (at d p v)
      keeps_entered =
          let s = same_linked t a (place t p v).time p r.0 k.size in
          let d' : ℕ → ℕ = at d p v in
          subst (λ (u : List ℕ). Keeps u (at d p v)) (entered_at t p v refl)
          record {
            size = s.size;
            q = insert d (d' p) p k.q;
            stands = put t p d d' _ _ (at_else d p v) (P_of t) 0 v 0 k.q few_here k.stands (omega (arith, at_here d p v)) once
                (λ i. ⊎_elim (λ z. omega (arith, z, r.0)) (out none) i) some put_here;
            rising = rising_insert d d' p k.q (λ y i. at_else d p v y (λ e. out none (subst (λ (w : ℕ). In w k.q) e i))) (out none) k.rising;
            exact = exact_put (beside s.processes d d' p (at_else d p v)) k.exact (put_insert d (d' p) p k.q)
                (λ c. omega (arith, c.1, none)) (omega (arith, s.processes), omega (arith, at_here d p v));
            small = λ y j. (let j' : Range (P_of t) y = omega (arith, s.processes) in at_all (λ (x : ℕ). x < 65536) d p v y (λ _. omega arith)
                (λ _. k.small y j'));
          }

  -- ---- a tick
  abbrev x : ℕ
  x = next t 0

  fallen_stands : (q : List ℕ) → LinkedByTime (next t) (difference t) d x 0 q → Distinct q → ((y : ℕ) → In y q → Range (P_of t) y × (1 ≤ d y))
      → LinkedByTime (next (fallen t)) (difference (fallen t)) (fall d) x 0 q
  unfolding LinkedByTime
  fallen_stands [] s c h = s
  fallen_stands (y ∷ q) s c h =
      let i = h y (inl refl) in
      let x≠0 : x ≡ 0 → ⊥ = λ e. omega (arith, e, s.0, i.0.0) in
      let e : difference (fallen t) y ≡ difference t y - 1 =
      subst (λ (w : ℕ). difference (fallen t) w ≡ difference t w - 1) s.0 (earlier_here t x 1 k.size (next_small t 0) x≠0) in
      let frame = stands_same (next t) (difference t) (fall d) (next (fallen t)) (difference (fallen t)) (fall d) (next t y) (d y - 1) q
      (λ w j. (next_earlier t x 1 w, earlier_else t x 1 w (λ m. c.0 (subst (λ (z : ℕ). In z q) (m ∙ s.0) j)), refl))
      (stands_fall (next t) (difference t) d (next t y) (d y) q i.1 s.2) in
      (s.0, omega (arith, e, s.1), rw (next_earlier t x 1 y) frame)

  parts : Parted (fallen t) (fall d) (P_of t) x k.q
  parts =
      parted (fallen t) (fall d) (P_of t) x k.q few_here some (rising_fall d k.q (λ y i. (k.exact.only y i).1) k.rising)
      (fallen_stands k.q k.stands k.exact.once k.exact.only)

  abbrev on : List ℕ
  on = keep (goes_on (fall d)) k.q

  among_on : (y : ℕ) → In y on → Range (P_of t) y × (1 ≤ fall d y)
  among_on y i = let j = in_keep y (goes_on (fall d)) k.q i in ((k.exact.only y j.0).0, omega (arith, eqb-false (fall d y) 0 (not-true _ j.1)))

  pub keeps_ticked : Keeps (ticked t) (fall d)
  unfolding ticked
  keeps_ticked =
      let f : List ℕ = fallen t in
      let z : ℕ = rest f (P_of t) x in
      let s = same_earlier t x 1 k.size in
      let w = after_next f 0 z refl s.size in
      let e : P_of (put_next 0 z f) ≡ P_of t = w.processes ∙ s.processes in
      let l : z ≤ P_of t = cases z 0 (λ m. omega (arith, m)) (λ m. (among_on z (stands_first (next f) (difference f) (fall d) z 0 on parts.left m)).0.1) in
      record {
        size = w.size;
        q = on;
        stands =
            subst (λ (y : ℕ). LinkedByTime (next (put_next 0 z f)) (difference (put_next 0 z f)) (fall d) y 0 on)
            (sym (next_here f 0 z s.size (omega arith) (omega (arith, s.processes))))
            (stands_same (next f) (difference f) (fall d) _ _ (fall d) z 0 on
            (λ y i. (next_else f 0 z y (λ m. omega (arith, m, (among_on y i).0.0)), difference_next f 0 z y, refl)) parts.left);
        rising = rising_keep (fall d) (goes_on (fall d)) k.q (rising_fall d k.q (λ y i. (k.exact.only y i).1) k.rising);
        exact = record {
          once = keep_once (goes_on (fall d)) k.q k.exact.once;
          only = λ y i. (omega (arith, e, (among_on y i).0), (among_on y i).1);
          every = λ y c. (let r : Range (P_of t) y = omega (arith, e, c.0) in keep_in y (goes_on (fall d)) k.q
              (k.exact.every y (r, omega (arith, c.1))) (ap not (ne_eqb (fall d y) 0 (λ m. omega (arith, m, c.1)))));
        };
        small = λ y r. (let r' : Range (P_of t) y = omega (arith, e, r) in omega (arith, k.small y r'));
      }

  -- the processes woken are those whose delay has just fallen to 0, by rising number
  pub woken_is : woken t ≡ ending (P_of t) d
  unfolding woken
  woken_is =
      parts.woken ∙
      ascending_same (keep (ends (fall d)) k.q) (ending (P_of t) d)
      (ascending_ends (fall d) k.q (rising_fall d k.q (λ y i. (k.exact.only y i).1) k.rising))
      (ascending_among (λ p. eqb (d p) 1) (P_of t))
      (λ y i. (let j = in_keep y (ends (fall d)) k.q i in
      let c = k.exact.only y j.0 in
      keep_in y (λ p. eqb (d p) 1) (from 1 (P_of t)) (from_in y 1 (P_of t) c.0.0 (omega (arith, c.0.1)))
      (eq-eqb (d y) 1 (omega (arith, eqb-true (fall d y) 0 j.1, c.1)))))
      (λ y i. (let j = in_keep y (λ p. eqb (d p) 1) (from 1 (P_of t)) i in
      let u = in_from y 1 (P_of t) j.0 in
      let e : d y ≡ 1 = eqb-true (d y) 1 j.1 in
      keep_in y (ends (fall d)) k.q (k.exact.every y ((u.0, omega (arith, u.1)), omega (arith, e))) (eq-eqb (fall d y) 0 (omega (arith, e)))))

-- ---- p waits: taken out, and put in
pub keeps_waited : {t : List ℕ} {d : ℕ → ℕ} → Keeps t d → (p : ℕ) → Range (P_of t) p → (v : ℕ) → v < 65536 → Keeps (waited p v t) (at d p v)
keeps_waited {t} {d} k p r v h =
    cases v 0
    (λ e. subst (λ (u : List ℕ). Keeps u (at d p v)) (waited_none t p e) (subst (λ (w : ℕ). Keeps (gone p t) (at d p w)) (sym e) (keeps_gone k p r)))
    (λ n. (let s = same_gone t p k.size in
    let g = keeps_entered (keeps_gone k p r) p (omega (arith, s.processes)) (at_here d p 0) v (omega (arith, n)) in
    subst (λ (u : List ℕ). Keeps u (at d p v)) (waited_some t p n) (subst (Keeps (entered p v (gone p t))) (at_twice d p 0 v) g)))

-- ---- an empty queue keeps no delay
pub keeps_made : (t : List ℕ) (P : ℕ) → Range 32 P → 2 + 2 * P ≤ length t → Keeps (made P t) (λ p. 0)
unfolding LinkedByTime
keeps_made t P r h =
    let u : List ℕ = made P t in
    let e : P_of u ≡ P = get_or-set_same (set t 0 0) 1 P 0 (omega (arith, length-set t 0 0)) in
    let l : length u ≡ length t = length-set (set t 0 0) 1 P ∙ length-set t 0 0 in
    let f : get_or u (2 * 0) 0 ≡ 0 = get_or-set_other (set t 0 0) 1 0 P 0 (λ m. omega (arith, m)) ∙ get_or-set_same t 0 0 0 (omega arith) in
    record {
      size = record { some = omega (arith, e); few = omega (arith, e); long = omega (arith, e, l) };
      q = [];
      stands = sym (next_link u 0 (omega (arith, f))) ∙ f;
      rising = tt;
      exact = record { once = tt; only = λ y i. absurd i; every = λ y c. absurd (omega (arith, c.1)) };
      small = λ y i. omega arith;
    }

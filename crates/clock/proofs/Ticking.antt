-- A tick for one process after the other comes to the tick of all: the delays all fallen first, and the wakes after. Assumes nothing.
use mathlib.Core.Bool.{Bool, true, false, not, ◌&&◌}
use mathlib.Core.List.{List, [], ◌∷◌}
use mathlib.Core.Logic.{inl, inr}
use mathlib.Core.Path.{◌≡◌, refl, sym, ap, subst, ◌∙◌}
use Prim.Native.Nat.{ℕ, zero, suc, ◌+◌, ◌-◌, ◌≤◌, ◌<◌}
use native.Mathlib.Numerals.{add-one}
use native.Mathlib.Omega.{arith}
use lib.Dec.{eqb}
use borrow.Author.Tests.{eqb-true, eqb-false, eq-eqb, ne_eqb}
use Rattle.machine.specs.Queue.{if, Range, Out, enter, from, keep, fold}
use Rattle.machine.specs.Machine.{Machine, with_process, state, delay, priority, current, put_process}
use Rattle.machine.specs.Moves.{wake, requeue}
use Rattle.machine.specs.Step.{fall, woken, grown, ticked}
use Rattle.machine.specs.Walk.{Walk, nowhere}
use Rattle.machine.specs.Words.{Shows}
use Rattle.machine.specs.Legal.{Legal}
use Rattle.lists.proofs.Links.{decide, cases}
use Rattle.lists.proofs.Tests.{either, tested}
use Rattle.lists.proofs.Numbers.{fold_none, fold_keeps, fold_last, fold_more, in_from, in_keep, keep_yes, keep_no}
use Rattle.laws.proofs.States.{Sleeps, legal_wake, legal_fall}
use Rattle.lists.proofs.Lists.{field_here, field_else}
use Rattle.laws.proofs.Ticks.{legal_woken, still_runs}
use Rattle.table.specs.Fits.{MayRequeue}
use Rattle.table.specs.Links.{position}
use Rattle.table.proofs.LegalFits.{legal_running_fits}
use Rattle.laws.proofs.Sweeps.{swept, walk_through, walk_through_none, walk_through_more}
use Rattle.answers.specs.Promise.{walk_to, arrival}
use Rattle.answers.proofs.Walks.{walk_to_walked, wake_arrives}
use Rattle.answers.proofs.Little.{arrival_32}
use Rattle.clock.specs.Clock.{tick_one, MayTick, TicksOne}

-- the word of the delay, read and set
pub delay_word : {P p : ℕ} → Range P p → Range P p × (4 ≤ 6) × (6 < 16)
delay_word i = (i, omega arith, omega arith)

pub delay_set : {P p : ℕ} → Range P p → Range P p × (4 ≤ 6) × (6 < 15)
delay_set i = (i, omega arith, omega arith)

-- ---- one process, whose delay is d: none, above 1, or 1
module _ (p : ℕ) (m : Machine) {d : ℕ} (e : d ≡ delay m p) where
  stays : d ≡ 0 → (k j : ℕ) → m.process k j ≡ (fall p m).process k j
  stays z k j = sym (cases k p
      (λ h. cases j 6
      (λ l. rw (h, l) (field_here m.process p 6 _ ∙ omega arith))
      (λ l. field_else m.process p 6 _ k j (λ _ y. l y)))
      (λ h. field_else m.process p 6 _ k j (λ x _. h x)))

  pub tick_none : {t : List ℕ} → d ≡ 0 → Shows t m → Shows t (tick_one p m)
  tick_none {t} z s =
      either (Shows t) (eqb (delay m p) 1)
      (λ y. absurd (omega (arith, eqb-true (delay m p) 1 y)))
      (λ y. subst (λ (g : ℕ → ℕ → ℕ). Shows t (with_process m.running g m.device m)) (λ i k j. stays z k j i) s)

  pub tick_falls : {t : List ℕ} → 1 < d → Shows t (put_process p 6 (d - 1) m) → Shows t (tick_one p m)
  tick_falls {t} l s =
      either (Shows t) (eqb (delay m p) 1)
      (λ y. absurd (omega (arith, eqb-true (delay m p) 1 y)))
      (λ y. subst (λ (x : ℕ). Shows t (put_process p 6 (x - 1) m)) e s)

  pub tick_wakes : {t : List ℕ} → d ≡ 1 → Shows t (wake 2 p (put_process p 6 (d - 1) m)) → Shows t (tick_one p m)
  tick_wakes {t} o s =
      either (Shows t) (eqb (delay m p) 1)
      (λ y. subst (λ (x : ℕ). Shows t (wake 2 p (put_process p 6 (x - 1) m))) e s)
      (λ y. absurd (eqb-false (delay m p) 1 y (sym e ∙ o)))

-- a process whose delay is to end does not run
pub asleep : {m : Machine} {p : ℕ} → Legal m → Range m.P p → delay m p ≡ 1 → Sleeps m p
asleep {m} {p} L i d =
    (λ e. omega (arith, (L.process p i).no_delay (omega arith) (omega arith)), λ e. omega (arith, (L.process p i).no_delay (omega arith) (omega arith)))

-- who wakes by a tick arrives, and nobody else
pub sleeps_on : (p : ℕ) (m : Machine) → (delay m p ≡ 1 → ⊥) → 0 ≡ arrival 2 p m (tick_one p m)
sleeps_on p m n = rw (ne_eqb (delay m p) 1 n) (still_here (eqb (state m p) 1))
  where
    still_here : (t : Bool) → 0 ≡ if (not t && t) (position 2 p m) 0
    still_here true = refl
    still_here false = refl

pub wakes_up : (p : ℕ) (m : Machine) → delay m p ≡ 1 → (state m p ≡ 1 → ⊥) → position 2 p m ≡ arrival 2 p m (tick_one p m)
wakes_up p m e n = rw (eq-eqb (delay m p) 1 e) (sym (wake_arrives 2 p (fall p m) n))

tick_legal : {m : Machine} {p : ℕ} → Legal m → Range m.P p → Legal (tick_one p m)
tick_legal {m} {p} L i =
    either Legal (eqb (delay m p) 1)
    (λ t. legal_wake (legal_fall L i) 2 (omega arith) i (asleep L i (eqb-true (delay m p) 1 t)))
    (λ t. legal_fall L i)

tick_size : (p : ℕ) (m : Machine) → (tick_one p m).P ≡ m.P
tick_size p m = either (λ (n : Machine). n.P ≡ m.P) (eqb (delay m p) 1) (λ t. refl) (λ t. refl)

tick_other : (p q : ℕ) (m : Machine) → (q ≡ p → ⊥) → delay (tick_one p m) q ≡ delay m q
tick_other p q m n = either (λ (w : Machine). delay w q ≡ delay m q) (eqb (delay m p) 1) (λ t. simp decide) (λ t. simp decide)

-- ---- the first k of them, one after the other
abbrev pub ticked_to : ℕ → Machine → Machine
ticked_to k m = swept tick_one k m

ticking : {m : Machine} → Legal m → (k : ℕ) → k ≤ m.P → Legal (ticked_to k m) × ((ticked_to k m).P ≡ m.P)
ticking {m} L k h =
    fold_keeps (λ n. Legal n × (n.P ≡ m.P)) tick_one (from 1 k)
    (λ p i n c. (let j = in_from p 1 k i in (tick_legal c.0 (omega (arith, c.1)), tick_size p n ∙ c.1))) m (L, refl)

-- the delays of the others stay
pub delay_later : (k q : ℕ) (m : Machine) → k < q → delay (ticked_to k m) q ≡ delay m q
delay_later k q m h =
    fold_keeps (λ n. delay n q ≡ delay m q) tick_one (from 1 k)
    (λ p i n c. (let j = in_from p 1 k i in tick_other p q n (omega arith) ∙ c)) m refl

-- ---- the delays first, and the wakes after
-- a wake and the fall of another's delay
wake_fall : (x q : ℕ) (m : Machine) → (q ≡ x → ⊥) → wake 2 x (fall q m) ≡ fall q (wake 2 x m)
wake_fall x q m n = ap (λ (g : ℕ → ℕ → ℕ). with_process (enter (priority m) (priority m x) x m.running) g (wake 2 x m).device m) (λ i k j. each k j i)
  where
    each : (k j : ℕ) → (wake 2 x (fall q m)).process k j ≡ (fall q (wake 2 x m)).process k j
    each k j = cases j 6
        (λ e. rw e (cases k q (λ h. rw h (simp decide)) (λ h. simp decide)))
        (λ e. rw (ne_eqb j 6 e))

wakes_fall : (q : ℕ) (l : List ℕ) (m : Machine) → Out q l → fold (wake 2) l (fall q m) ≡ fall q (fold (wake 2) l m)
unfolding fold
wakes_fall q [] m o = refl
wakes_fall q (x ∷ l) m o = ap (fold (wake 2) l) (wake_fall x q m (λ e. o (inl e))) ∙ wakes_fall q l (wake 2 x m) (λ i. o (inr i))

-- so for the first k
abbrev pub expiring_to : ℕ → Machine → List ℕ
expiring_to k m = keep (λ p. eqb (delay m p) 1) (from 1 k)

abbrev all_to : ℕ → Machine → Machine
all_to k m = fold (wake 2) (expiring_to k m) (fold fall (from 1 k) m)

module _ (k : ℕ) (m : Machine) where
  abbrev next : ℕ
  next = k + 1

  -- the fall of one more delay
  all_falls : fold (wake 2) (expiring_to k m) (fall next (fold fall (from 1 k) m)) ≡ fall next (all_to k m)
  all_falls =
      wakes_fall next (expiring_to k m) (fold fall (from 1 k) m)
      (λ i. omega (arith, in_from next 1 k (in_keep next (λ p. eqb (delay m p) 1) (from 1 k) i).0))

  -- and one more wake, if it has just fallen to 0
  all_wakes : eqb (delay m next) 1 ≡ true → all_to next m ≡ wake 2 next (fall next (all_to k m))
  all_wakes t =
      ap (fold (wake 2) (expiring_to next m)) (fold_more fall k m)
      ∙ ap (λ (l : List ℕ). fold (wake 2) l (fall next (fold fall (from 1 k) m))) (keep_yes (λ p. eqb (delay m p) 1) k t)
      ∙ fold_last (wake 2) (expiring_to k m) next _
      ∙ ap (wake 2 next) all_falls

  all_waits : eqb (delay m next) 1 ≡ false → all_to next m ≡ fall next (all_to k m)
  all_waits t =
      ap (fold (wake 2) (expiring_to next m)) (fold_more fall k m)
      ∙ ap (λ (l : List ℕ). fold (wake 2) l (fall next (fold fall (from 1 k) m))) (keep_no (λ p. eqb (delay m p) 1) k t)
      ∙ all_falls

  all_more : delay (all_to k m) next ≡ delay m next → tick_one next (all_to k m) ≡ all_to next m
  all_more d =
      let choice : Bool → Machine = λ t. if t (wake 2 next (fall next (all_to k m))) (fall next (all_to k m)) in
      let e : eqb (delay (all_to k m) next) 1 ≡ eqb (delay m next) 1 = ap (λ (x : ℕ). eqb x 1) d in
      tested (eqb (delay m next) 1)
      (λ t. ap choice (e ∙ t) ∙ sym (all_wakes t))
      (λ t. ap choice (e ∙ t) ∙ sym (all_waits t))

pub ticked_all : (k : ℕ) (m : Machine) → ticked_to k m ≡ all_to k m
unfolding fold from keep
ticked_all zero m = refl
ticked_all (suc k) m =
    let h = ticked_all k m in
    subst (λ (j : ℕ). ticked_to j m ≡ all_to j m) (add-one k)
    (fold_more tick_one k m ∙ ap (tick_one (k + 1)) h
    ∙ all_more k m (ap (λ (n : Machine). delay n (k + 1)) (sym h) ∙ delay_later k (k + 1) m (omega arith)))

-- ---- on the way
-- t shows m after a tick for the first k processes, and w is the walk of those that woke
pub record TickedTo (m : Machine) (t : List ℕ) (k : ℕ) (w : Walk) : Type 0 where
  pub words : Shows t (ticked_to k m)
  pub walk : w ≡ walk_through 2 (λ p n. p) tick_one k m

pub ticked_none : {m : Machine} {t : List ℕ} {w : Walk} → Shows t m → w ≡ nowhere → TickedTo m t 0 w
ticked_none {m} s e = record { words = rw (fold_none tick_one m) s; walk = e ∙ sym (walk_through_none 2 (λ p n. p) tick_one m) }

pub may_tick : {m : Machine} → Legal m → (k : ℕ) → k + 1 ≤ m.P → MayTick (k + 1) (ticked_to k m)
may_tick L k h = let l = ticking L k (omega arith) in (l.0, omega (arith, l.1))

-- for one process more
module _ {m : Machine} (L : Legal m) {t u : List ℕ} (k : ℕ) {r : ℕ} {w : Walk} (h : k + 1 ≤ m.P) (a : TickedTo m t k w) (s : TicksOne t u (k + 1) r) where
  arrived : r ≡ arrival 2 (k + 1) (ticked_to k m) (tick_one (k + 1) (ticked_to k m))
  arrived = s.arrives _ a.words (may_tick L k h)

  pub ticked_few : r ≤ 32
  ticked_few = let may = may_tick L k h in rw arrived (arrival_32 may.0 2 may.1 (tick_one (k + 1) (ticked_to k m)))

  pub ticked_more : {v : Walk} → v ≡ walk_to r w → TickedTo m u (k + 1) v
  ticked_more e =
      let n = ticked_to k m in
      record {
        words = subst (Shows u) (sym (fold_more tick_one k m)) (s.words n a.words (may_tick L k h));
        walk =
            e ∙ ap (walk_to r) a.walk ∙ ap (λ (x : ℕ). walk_to x (walk_through 2 (λ p n. p) tick_one k m)) arrived
            ∙ walk_to_walked 2 (k + 1) n (tick_one (k + 1) n) _ ∙ sym (walk_through_more 2 (λ p n. p) tick_one k m);
      }

-- ---- who was current
-- it still runs, and may go behind its equals
pub may_requeue : {m : Machine} {p : ℕ} → Legal m → p ≡ current m → MayRequeue p (woken m)
may_requeue {m} L e some = record { fits = legal_running_fits (legal_woken L); stands = rw e (still_runs L (λ z. some (e ∙ z))) }

-- after which the ages grow, and the tick ends
pub requeue_ticks : {t : List ℕ} (m : Machine) {p : ℕ} → p ≡ current m → Shows t (grown (requeue p (woken m))) → Shows t (ticked m)
requeue_ticks {t} m e = subst (λ (x : ℕ). Shows t (grown (requeue x (woken m)))) e

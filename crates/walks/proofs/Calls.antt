-- The walks of a single entry, of a tick and of a clean, exactly, on legal machines. Assumes nothing.
use Prim.Native.Nat.{ℕ, zero, suc, ◌-◌, ◌≤◌, ◌<◌}
use native.Mathlib.Omega.{arith}
use mathlib.Core.Bool.{Bool, true, false, not, ◌&&◌}
use mathlib.Core.List.{List, [], ◌∷◌}
use mathlib.Core.Logic.{◌⊎◌, inl, inr, ⊎_elim}
use mathlib.Core.Path.{◌≡◌, refl, sym, ap, ◌∙◌}
use lib.ListN.{length}
use lib.Dec.{eqb, leb}
use borrow.Author.Tests.{eq-eqb, ne_eqb, eqb-true, eqb-false, leb-true, leb-false, not-true}
use Rattle.machine.specs.Queue.{if, Range, In, Distinct, Rising, without, keep, from, fold}
use Rattle.machine.specs.Machine.{Machine, state, priority, owns, owner, receiver, standing, current, buffers, put_buffer}
use Rattle.machine.specs.Moves.{wake, requeue, free, unlink, answered, waiting, answer_with, withdrawn, clean_buffer}
use Rattle.machine.specs.Step.{halted, cleaned, expiring, fallen, woken, grow, ticked}
use Rattle.machine.specs.Walk.{nowhere, entered, walked, waking, cleaning, moving}
use Rattle.machine.specs.Legal.{Legal}
use Rattle.lists.proofs.Tests.{either, tested, and_true}
use Rattle.lists.proofs.Links.{cases, no_same, refl_same}
use Rattle.laws.proofs.Own.{given_le}
use Rattle.lists.proofs.Numbers.{keep_none, keep_rising, keep_once, keep_in, in_keep, from_once, from_in, in_from, fold_keeps}
use Rattle.lists.proofs.Lists.{falls_without, without_once, without_in, in_without, no_longer}
use Rattle.laws.proofs.Passing.{passed_count}
use Rattle.laws.proofs.States.{Sleeps, legal_wake}
use Rattle.laws.proofs.Ticks.{delays_fell, expiring_once, expiring_sleep, legal_woken}
use Rattle.laws.proofs.Cleans.{Cleaning, clean_one, halted_cleaning, cleaned_cleaning}
use Rattle.walks.specs.Exactly.{entering, parts, together, greatest, moving_past, Exactly}
use Rattle.walks.proofs.Folded.{above, entered_is, Steps, enterers, entrants, walk_exactly}

-- ---- nobody enters
pub nobody : (m n : Machine) (interrupt : Bool) → ((k : ℕ) → state n k ≡ 1 → state m k ≡ 1) → Exactly m.P (priority m) (state m)
    (state n) interrupt 0 nowhere
unfolding parts together greatest
nobody m n interrupt h =
    let e : entering m.P (state m) (state n) ≡ [] = keep_none _ 1 m.P
    (λ k l r. tested (eqb (state m k) 1) (λ t. rw t refl) (λ t. rw (t, ne_eqb (state n k) 1 (λ z. eqb-false (state m k) 1 t (h k z))) refl)) in
    record { entries = rw e; passed = rw e; most = rw e; moves = refl }

-- ---- one may
step_wake : (r p : ℕ) (m : Machine) → Steps p m (wake r p m)
step_wake r p m =
    record {
      size = refl;
      ranks = refl;
      others = λ k n e. sym (no_same k p 1 _ n) ∙ e;
      on = λ k e. cases k p (λ z. rw z (refl_same p 1 _)) (λ n. no_same k p 1 _ n ∙ e);
    }

pub none_steps : (p : ℕ) (m : Machine) → Steps p m m
none_steps p m = record { size = refl; ranks = refl; others = λ k n e. e; on = λ k e. e }

module _ {m n : Machine} (L : Legal m) (N : Legal n) (reason p : ℕ) (s : Steps p m n) (i : Range m.P p) where
  pub single : Exactly m.P (priority m) (state m) (state n) (eqb reason 3) 0 (walked reason p m n nowhere)
  unfolding fold enterers
  single =
      walk_exactly (λ l k. (k ≡ m) ⊎ (k ≡ n)) (λ l k. ⊎_elim (λ e. rw e L) (λ e. rw e N)) reason (λ x k. p) (λ x k. n)
      (λ x l k. ⊎_elim (λ e. rw e (inr refl, s, i)) (λ e. rw e (inr refl, none_steps p n, rw s.size i)))
      (0 ∷ []) m m n (inl refl) refl refl (λ k. refl) (λ k e. e) (λ k e f. e)
      (either (Rising 0) (entered p m n) (λ t. (omega arith, tt)) (λ t. tt))

-- ---- a tick
module _ {m : Machine} (L : Legal m) where
  abbrev Asleep : List ℕ → Machine → Type 0
  Asleep l n = Legal n × Distinct l × ((x : ℕ) → In x l → Range n.P x × Sleeps n x)

  asleep_goes : (x : ℕ) (l : List ℕ) (n : Machine) → Asleep (x ∷ l) n → Asleep l (wake 2 x n) × Steps x n (wake 2 x n) × Range n.P x
  asleep_goes x l n (K, d, h) = (
    (
      legal_wake K 2 (omega arith) (h x (inl refl)).0 (h x (inl refl)).1,
      d.1,
      λ y j. (let k = sym (no_same y x 1 (state n y) (λ k. d.0 (rw k at j))) in let s = (h y (inr j)).1 in
          ((h y (inr j)).0, (λ e. s.0 (k ∙ e), λ e. s.1 (k ∙ e)))),
    ),
    step_wake 2 x n,
    (h x (inl refl)).0,
  )

  all_enter : (l : List ℕ) (n : Machine) → Asleep l n → enterers (λ p k. p) (wake 2) l n ≡ l
  unfolding enterers
  all_enter [] n c = refl
  all_enter (x ∷ l) n c =
      let e : entered x n (wake 2 x n) ≡ true = rw (ne_eqb (state n x) 1 (c.2 x (inl refl)).1.0, refl_same x 1 (state n x)) refl in
      rw e (ap (λ (q : List ℕ). x ∷ q) (all_enter l (wake 2 x n) (asleep_goes x l n c).0))

  -- the moves after the wakes change no state, and no wake a priority
  ticked_state : (k : ℕ) → state (ticked m) k ≡ state (woken m) k
  ticked_state k =
      fold_keeps (λ n. state n k ≡ state (woken m) k) grow (buffers (requeue (current m) (woken m))) (λ b i n e. e) (requeue (current m) (woken m))
      (either (λ (n : Machine). state n k ≡ state (woken m) k) (eqb (current m) 0) (λ t. refl) (λ t. refl))

  woken_ranks : (priority (woken m) ≡ priority m) × ((woken m).P ≡ m.P)
  woken_ranks =
      fold_keeps (λ n. (priority n ≡ priority m) × (n.P ≡ m.P)) (wake 2) (expiring m) (λ p i n e. e) (fallen m) ((delays_fell L).ranks, (delays_fell L).size)

  expiring_asleep : Asleep (expiring m) (fallen m)
  expiring_asleep = ((delays_fell L).legal, expiring_once L, expiring_sleep L)

  rises : Rising 0 (enterers (λ p n. p) (wake 2) (expiring m) (fallen m))
  rises = rw (all_enter (expiring m) (fallen m) expiring_asleep) (keep_rising _ m.P 1 0 (omega arith))

  pub waking_exactly : Exactly m.P (priority m) (state m) (state (ticked m)) false 0 (waking m).walk
  waking_exactly =
      let d = delays_fell L in
      walk_exactly Asleep (λ l n c. c.0) 2 (λ p n. p) (wake 2) asleep_goes (expiring m) m (fallen m) (ticked m) expiring_asleep d.size
      d.ranks ticked_state
      (λ k e. sym (d.states k) ∙ e) (λ k e f. d.states k ∙ e) rises

  -- those whose delay ends are those that don't run before and do after
  pub expiring_enter : expiring m ≡ entering m.P (state m) (state (ticked m))
  expiring_enter =
      let d = delays_fell L in
      sym (all_enter (expiring m) (fallen m) expiring_asleep)
      ∙ entrants Asleep (λ l n c. c.0) 2 (λ p n. p) (wake 2) asleep_goes (expiring m) m (fallen m) (ticked m) expiring_asleep d.size d.ranks ticked_state
      (λ k e. sym (d.states k) ∙ e) (λ k e f. d.states k ∙ e) rises

  -- of those that run after the wakes, the others of equal or higher priority
  moved_count : (r : ℕ → ℕ) (c b : ℕ) → length (keep (λ k. leb b (r k)) (without c (woken m).running))
      ≡ length (keep (λ k. eqb (state (ticked m) k) 1 && (not (eqb k c) && leb b (r k))) (from 1 m.P))
  moved_count r c b =
      let W = legal_woken L in
      let q = without c (woken m).running in
      let l = from 1 m.P in
      let f : ℕ → Bool = λ k. leb b (r k) in
      let g : ℕ → Bool = λ k. eqb (state (ticked m) k) 1 && (not (eqb k c) && leb b (r k)) in
      let to = no_longer (keep f q) (keep g l) (keep_once f q (without_once c (woken m).running W.running.once))
      (λ x i. (let h = in_keep x f q i in let w = in_without c x (woken m).running h.0 in let a = W.running.only x w.1 in
      keep_in x g l (from_in x 1 m.P a.0.0 (omega (arith, a.0, woken_ranks.1)))
      (rw (eq-eqb (state (ticked m) x) 1 (ticked_state x ∙ a.1), ne_eqb x c w.0) h.1))) in
      let back = no_longer (keep g l) (keep f q) (keep_once g l (from_once 1 m.P))
      (λ x i. (let h = in_keep x g l i in let a = and_true {a = eqb (state (ticked m) x) 1} h.1 in let n = and_true {a = not (eqb x c)} a.1 in
      let j = in_from x 1 m.P h.0 in
      keep_in x f q (without_in c x (woken m).running (eqb-false x c (not-true _ n.0))
      (W.running.every x (omega (arith, woken_ranks.1), sym (ticked_state x) ∙ eqb-true _ 1 a.0))) n.1)) in
      omega arith

  unless_none : (c x y : ℕ) → x ≡ y → if (eqb c 0) 0 x ≡ if (eqb c 0) 0 y
  unless_none c x y e = rw e

  pub moving_exactly : moving m ≡ moving_past m.P (current m) (priority m) (state (ticked m))
  moving_exactly =
      let W = woken m in
      let c = current m in
      unless_none c _ _ (passed_count (priority W) (priority W c) (without c W.running) (falls_without (priority W) c W.running (legal_woken L).falls)
      ∙ moved_count (priority W) c (priority W c)
      ∙ ap (λ (r : ℕ → ℕ). length (keep (λ k. eqb (state (ticked m) k) 1 && (not (eqb k c) && leb (r c) (r k))) (from 1 m.P))) woken_ranks.0)

-- ---- a clean
-- nothing but the owner's state changes, and no owner
abbrev OnlyOwner : ℕ → Machine → Machine → Type 0
OnlyOwner b m w = Steps (owner m b) m w × ((k : ℕ) → owner w k ≡ owner m k)

module _ (p b : ℕ) (m : Machine) where
  on : (w : Machine) → w.process ≡ m.process → w.P ≡ m.P → ((j : ℕ) → owner w j ≡ owner m j) → OnlyOwner b m w
  on w e n o =
      let states : (j : ℕ) → state w j ≡ state m j = λ j. ap (λ (f : ℕ → ℕ → ℕ). f j 4) e in
      (record { size = n; ranks = ap {B = ℕ → ℕ} (λ (f : ℕ → ℕ → ℕ) (j : ℕ). f j 9) e; others = λ j ne z. sym (states j) ∙ z; on = λ j z. states j ∙ z }, o)

  answers_on : (k : Machine) → k.process ≡ m.process → k.P ≡ m.P → ((j : ℕ) → owner k j ≡ owner m j) → OnlyOwner b m (answer_with b withdrawn k)
  answers_on k e n o =
      let states : (j : ℕ) → state k j ≡ state m j = λ j. ap (λ (f : ℕ → ℕ → ℕ). f j 4) e in
      either (OnlyOwner b m) (waiting b k)
      (λ t. (
        record {
          size = n;
          ranks = ap {B = ℕ → ℕ} (λ (f : ℕ → ℕ → ℕ) (j : ℕ). f j 9) e;
          others = λ j ne z. sym (states j) ∙ (sym (no_same j (owner k b) 1 _ (λ q. ne (q ∙ o b))) ∙ z);
          on = λ j z. cases j (owner k b) (λ q. rw q (refl_same (owner k b) 1 _)) (λ ne. no_same j (owner k b) 1 _ ne ∙ states j ∙ z);
        },
        o,
      ))
      (λ t. on (answered b withdrawn k) e n o)

  -- p owns b, or b was sent to it
  own_on : OnlyOwner b m
      (if (eqb (standing m b) 1) (free b (unlink (receiver m b) b m))
      (if (eqb (standing m b) 3) (free b (unlink p b m)) (if (eqb (standing m b) 2) (put_buffer b 4 4 m) m)))
  own_on =
      let A = OnlyOwner b m in
      either A (eqb (standing m b) 1) (λ _. on (free b (unlink (receiver m b) b m)) refl refl (λ j. refl))
      (λ _. either A (eqb (standing m b) 3) (λ _. on (free b (unlink p b m)) refl refl (λ j. refl))
      (λ _. either A (eqb (standing m b) 2) (λ _. on (put_buffer b 4 4 m) refl refl (λ j. refl)) (λ _. on m refl refl (λ j. refl))))

  sent_on : OnlyOwner b m
      (if (eqb (standing m b) 1) (answer_with b withdrawn (unlink p b m))
      (if (eqb (standing m b) 2) (answer_with b withdrawn m) (if (eqb (standing m b) 4) (free b m) m)))
  sent_on =
      let A = OnlyOwner b m in
      either A (eqb (standing m b) 1) (λ _. answers_on (unlink p b m) refl refl (λ j. refl))
      (λ _. either A (eqb (standing m b) 2) (λ _. answers_on m refl refl (λ j. refl))
      (λ _. either A (eqb (standing m b) 4) (λ _. on (free b m) refl refl (λ j. refl)) (λ _. on m refl refl (λ j. refl))))

  clean_on : OnlyOwner b m (clean_buffer p b m)
  unfolding clean_buffer
  clean_on = either (OnlyOwner b m) (eqb (owner m b) p) (λ _. own_on)
      (λ _. either (OnlyOwner b m) (eqb (receiver m b) p) (λ _. sent_on) (λ _. on m refl refl (λ j. refl)))

rising_from : (a n z : ℕ) → z < a → Rising z (from a n)
unfolding from
rising_from a zero z h = tt
rising_from a (suc n) z h = (h, rising_from (suc a) n a (omega arith))

-- own buffers stand together, so owners never fall along the buffers
owners_rise : {m : Machine} → Legal m → (b c : ℕ) → Range m.B b → Range m.B c → b < c → owner m b ≤ owner m c
owners_rise {m} L b c i j h =
    let f = L.fixed in
    tested {C = owner m b ≤ owner m c} (leb (owner m b) (owner m c)) (λ t. leb-true (owner m b) (owner m c) t)
    (λ t. absurd (omega (
      arith,
      leb-false (owner m b) (owner m c) t,
      given_le (owns m) (owner m c) (owner m b - 1) (omega (arith, leb-false (owner m b) (owner m c) t)),
      f.agree b i,
      f.agree c j,
    )))

module _ {m : Machine} (L : Legal m) {a : ℕ} (r : Range m.P a) where
  -- those still to be cleaned, and who owns them
  abbrev Left : List ℕ → Machine → Type 0
  Left l n = Cleaning a m.B n × ((x : ℕ) → In x l → Range m.B x) × ((k : ℕ) → owner n k ≡ owner m k)

  clean_goes : (b : ℕ) (l : List ℕ) (n : Machine) → Left (b ∷ l) n → Left l (clean_buffer a b n) × Steps (owner n b) n (clean_buffer a b n) × Range n.P
      (owner n b)
  clean_goes b l n (c, i, o) =
      let j : Range n.B b = rw c.size (i b (inl refl)) in
      let s = clean_on a b n in
      ((clean_one c j, (λ x k. i x (inr k)), λ k. s.1 k ∙ o k), s.0, c.legal.fixed.owned b j)

  -- z has entered, or nobody has yet; who enters later has a later buffer
  enter_rising : (y z : ℕ) (l : List ℕ) (n : Machine) → Left l n → Rising y l → (z ≡ 0) ⊎ (state n z ≡ 1) → ((x : ℕ) → In x l → z ≤ owner m x)
      → Rising z (enterers (λ b k. owner k b) (clean_buffer a) l n)
  unfolding enterers
  enter_rising y z [] n c up s h = tt
  enter_rising y z (b ∷ l) n c up s h =
      let g = clean_goes b l n c in
      let o = c.2 b in
      let later : (x : ℕ) → In x l → owner m b ≤ owner m x
      = λ x i. owners_rise L b x (c.1 b (inl refl)) (c.1 x (inr i)) (above b l up.1 x i) in
      either (Rising z) (entered (owner n b) n (clean_buffer a b n))
      (λ t. (let e = entered_is (owner n b) n (clean_buffer a b n) t in
      let new : z ≡ owner n b → ⊥ = λ q. ⊎_elim (λ k. absurd (omega (arith, g.2))) (λ k. e.0 (rw q at k)) s in (
        omega (arith, h b (inl refl), o, new),
        enter_rising b (owner n b) l (clean_buffer a b n) g.0 up.1 (inr e.1)
            (λ x i. omega (arith, later x i, o)),
      )))
      (λ t. enter_rising b z l (clean_buffer a b n) g.0 up.1 (⊎_elim inl (λ k. inr (g.1.on z k)) s) (λ x i. h x (inr i)))

  halted_owner : (k : ℕ) → owner (halted a m) k ≡ owner m k
  halted_owner k = either (λ (n : Machine). owner n k ≡ owner m k) (eqb (state m a) 0) (λ t. refl) (λ t. refl)

  halted_fixed : ((halted a m).P ≡ m.P) × (priority (halted a m) ≡ priority m)
  halted_fixed = either (λ (n : Machine). (n.P ≡ m.P) × (priority n ≡ priority m)) (eqb (state m a) 0) (λ t. (refl, refl)) (λ t. (refl, refl))

  -- of the others none stops
  halted_state : (k : ℕ) → (state (halted a m) k ≡ 1 → state m k ≡ 1) × (state m k ≡ 1 → (k ≡ a → ⊥) → state (halted a m) k ≡ 1)
  halted_state k =
      either (λ (n : Machine). (state n k ≡ 1 → state m k ≡ 1) × (state m k ≡ 1 → (k ≡ a → ⊥) → state n k ≡ 1)) (eqb (state m a) 0)
      (λ t. (λ e. e, λ e ne. e))
      (λ t. (
        λ e. cases k a (λ z. absurd (omega (arith, sym (refl_same a 0 (state m a)), rw z at e))) (λ ne. sym (no_same k a 0 (state m k) ne) ∙ e),
        λ e ne. no_same k a 0 (state m k) ne ∙ e,
      ))

  pub clean_exactly : Exactly m.P (priority m) (state m) (state (cleaned a m)) false 0 (cleaning a m).walk
  clean_exactly =
      let h = halted_cleaning L r in
      let c : Left (buffers m) (halted a m) = (h, (λ x i. (let k = in_from x 1 m.B i in omega arith)), halted_owner) in
      let end = cleaned_cleaning L r in
      walk_exactly Left (λ l n c. c.0.legal) 1 (λ b n. owner n b) (clean_buffer a) clean_goes (buffers m) m (halted a m) (cleaned a m) c halted_fixed.0
      halted_fixed.1 (λ k. refl)
      (λ k e. (halted_state k).0 e) (λ k e f. (halted_state k).1 e (λ z. absurd (omega (arith, end.stopped, rw z at f))))
      (enter_rising 0 0 (buffers m) (halted a m) c (rising_from 1 m.B 0 (omega arith)) (inl refl) (λ x i. omega arith))

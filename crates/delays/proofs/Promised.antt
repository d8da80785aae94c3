-- What the calls promise, read: where the words keep delays they keep the plain clock's; and two results of a call are one. Assumes nothing.
use mathlib.Core.Path.{◌≡◌, refl, sym, ap, ap₂, subst, ◌∙◌}
use mathlib.Core.Bool.{Bool, true}
use mathlib.Core.List.{List, [], ◌++◌}
use Prim.Native.Nat.{ℕ, zero, suc, ◌+◌, ◌-◌, ◌*◌, ◌≤◌, ◌<◌}
use native.Mathlib.Omega.{arith}
use lib.ListN.{length, get_or, drop}
use lib.Seq.{sets, sets-eq, set-get_or, get_or-set_other}
use lib.Dec.{eqb}
use Rattle.machine.specs.Queue.{at, Range, from, keep}
use Rattle.lists.proofs.Tests.{either}
use Rattle.delays.specs.declared.Ticked.{Ticked}
use Rattle.delays.specs.declared.Delay.{Delay}
use Rattle.delays.specs.Words.{unless, P_of, Sized, next, difference, put_next, put_difference, refusal, tick_refusal, over, fallen, woken, ticked}
use Rattle.delays.specs.Words.{Makes, Waits, Leaves, Ticks, Remains}
use Rattle.delays.specs.Delays.{fall, ending, Keeps, Wait, Wake, Stop, Clean, Tick, called, lists}
use Rattle.delays.proofs.Reading.{sized_back, refusal_none, unless_passed, make_passes, tick_passes, next_small, earlier_some}
use Rattle.delays.proofs.Walks.{walk_stops, due_stops, over_later}
use Rattle.delays.proofs.Writing.{earlier_here}
use Rattle.delays.proofs.Keeping.{left_is, keeps_gone, keeps_waited, keeps_ticked, woken_is, keeps_made}

at_most : (f : ℕ → Bool) (a n : ℕ) → length (keep f (from a n)) ≤ n
unfolding keep from
at_most f a zero = omega arith
at_most f a (suc n) = let h = at_most f (suc a) n in either (λ (q : List ℕ). length q ≤ suc n) (f a) (λ e. omega arith) (λ e. omega arith)

sets_first : (l s : List ℕ) → length l ≤ length s → sets s 0 l ≡ l ++ drop (length l) s
sets_first l s h = let e : 0 + length l ≡ length l = omega arith in sets-eq l s 0 (omega arith) ∙ ap (λ (n : ℕ). l ++ drop n s) e

-- ---- accepted
pub makes_keep : {t u : List ℕ} {P r : ℕ} → Makes t u P r → Range 32 P → 2 + 2 * P ≤ length t → (r ≡ 0) × Keeps u (λ p. 0)
makes_keep {t} {u} {P} m h l =
    let z = make_passes t P (λ e. omega (arith, e)) h.1 l in
    (m.number ∙ sym z, subst (λ (w : List ℕ). Keeps w (λ p. 0)) (unless_passed _ _ _ (sym z) ∙ sym m.words) (keeps_made t P h l))

module _ {t : List ℕ} {d : ℕ → ℕ} (k : Keeps t d) where
  module _ {p : ℕ} (r : Range (P_of t) p) where
    accepted : refusal t p ≡ 0
    accepted = sym (refusal_none t p (sized_back t k.size) (λ e. omega (arith, e, r.0)) r.1)

    pub waits_keep : {u : List ℕ} {v n : ℕ} → Waits t u p v n → v < 65536 → (n ≡ 0) × Keeps u (at d p v)
    waits_keep {v = v} w h = (
      w.number ∙ accepted,
      subst (λ (x : List ℕ). Keeps x (at d p v)) (unless_passed _ _ _ accepted ∙ sym w.words)
          (keeps_waited k p r _ h),
    )

    pub leaves_keep : {u : List ℕ} {n : ℕ} → Leaves t u p n → (n ≡ 0) × Keeps u (at d p 0)
    leaves_keep w = (w.number ∙ accepted, subst (λ (x : List ℕ). Keeps x (at d p 0)) (unless_passed _ _ _ accepted ∙ sym w.words) (keeps_gone k p r))

    pub remains_is : {n : Delay} → Remains t p n → (n.number ≡ 0) × (n.time ≡ d p)
    remains_is w = (w.number ∙ accepted, w.time ∙ sym (unless_passed _ _ _ accepted) ∙ left_is k p r)

  -- the room has those woken, and behind them what was there
  module _ {u s v : List ℕ} {n : Ticked} (w : Ticks t u s v n) (room : P_of t ≤ length s) where
    passes : tick_refusal t (length s) ≡ 0
    passes = sym (tick_passes t (length s) (sized_back t k.size) room)

    pub ticks_keep : (n.number ≡ 0) × Keeps u (fall d)
    ticks_keep = (w.number ∙ passes, subst (λ (x : List ℕ). Keeps x (fall d)) (unless_passed _ _ _ passes ∙ sym w.words) (keeps_ticked k))

    few_ending : length (ending (P_of t) d) ≤ P_of t
    few_ending = at_most (λ p. eqb (d p) 1) 1 (P_of t)

    pub ticks_woken : (n.count ≡ length (ending (P_of t) d)) × (v ≡ ending (P_of t) d ++ drop (length (ending (P_of t) d)) s)
    ticks_woken = (
      w.count ∙ sym (unless_passed _ _ _ passes) ∙ ap length (woken_is k),
      w.room ∙ sym (unless_passed _ _ _ passes) ∙ ap (sets s 0) (woken_is k) ∙ sets_first (ending (P_of t) d) s (omega (arith, few_ending)),
    )

-- ---- a tick that ends nothing looks at the first only, and changes its difference only
module _ {t : List ℕ} (size : Sized t) (link : get_or t 0 0 ≡ next t 0) (later : 1 < difference t (next t 0)) (there : next t 0 ≡ 0 → ⊥) where
  abbrev first : ℕ
  first = next t 0

  over_first : over (fallen t) first ≡ true
  over_first = over_later (fallen t) first (λ e. omega (arith, e, earlier_here t first 1 size (next_small t 0) there)) there

  pub quiet_woken : woken t ≡ []
  unfolding woken
  quiet_woken = due_stops (fallen t) (P_of t) first over_first

  pub quiet_words : ticked t ≡ put_difference first (difference t first - 1) t
  unfolding ticked
  quiet_words =
      let e : fallen t ≡ put_difference first (difference t first - 1) t = sym (earlier_some t first 1 there) in
      let l : get_or (fallen t) 0 0 ≡ first = ap (λ (u : List ℕ). get_or u 0 0) e ∙ get_or-set_other t (2 * first + 1) 0 _ 0 (λ m. omega (arith, m)) ∙ link in
      ap (λ (x : ℕ). put_next 0 x (fallen t)) (walk_stops (over (fallen t)) (next (fallen t)) (P_of t) first over_first ∙ sym l) ∙ set-get_or (fallen t) 0 0 ∙ e

-- ---- two results of a call are one
pub makes_one : {t u u' : List ℕ} {P r r' : ℕ} → Makes t u P r → Makes t u' P r' → (u ≡ u') × (r ≡ r')
makes_one a b = (a.words ∙ sym b.words, a.number ∙ sym b.number)

pub waits_one : {t u u' : List ℕ} {p d r r' : ℕ} → Waits t u p d r → Waits t u' p d r' → (u ≡ u') × (r ≡ r')
waits_one a b = (a.words ∙ sym b.words, a.number ∙ sym b.number)

pub leaves_one : {t u u' : List ℕ} {p r r' : ℕ} → Leaves t u p r → Leaves t u' p r' → (u ≡ u') × (r ≡ r')
leaves_one a b = (a.words ∙ sym b.words, a.number ∙ sym b.number)

pub ticks_one : {t u u' s v v' : List ℕ} {r r' : Ticked} → Ticks t u s v r → Ticks t u' s v' r' → (u ≡ u') × (v ≡ v') × (r ≡ r')
ticks_one {r = r} {r' = r'} a b =
    let n : r.number ≡ r'.number = a.number ∙ sym b.number in
    let c : r.count ≡ r'.count = a.count ∙ sym b.count in
    (a.words ∙ sym b.words, a.room ∙ sym b.room, ap₂ (λ (x y : ℕ). record { number = x; count = y }) n c)

pub remains_one : {t : List ℕ} {p : ℕ} {r r' : Delay} → Remains t p r → Remains t p r' → r ≡ r'
remains_one {r = r} {r' = r'} a b =
    let n : r.number ≡ r'.number = a.number ∙ sym b.number in
    let c : r.time ≡ r'.time = a.time ∙ sym b.time in
    ap₂ (λ (x y : ℕ). record { number = x; time = y }) n c

-- ---- the calls' promises are the steps of a stream
module _ {t u : List ℕ} {p r : ℕ} (n : ℕ) where
  pub waits_called : {v : ℕ} → Waits t u p v r → u ≡ called n t (Wait p v)
  unfolding called
  waits_called w = w.words

  pub leaves_called : Leaves t u p r → (u ≡ called n t (Wake p)) × (u ≡ called n t (Stop p)) × (u ≡ called n t (Clean p))
  unfolding called
  leaves_called w = (w.words, w.words, w.words)

pub ticks_called : {t u s v : List ℕ} {r : Ticked} → Ticks t u s v r → u ≡ called (length s) t Tick
unfolding called
ticks_called w = w.words

sets_unless : (n : ℕ) (l s : List ℕ) → unless n (sets s 0 l) s ≡ sets s 0 (unless n l [])
sets_unless zero l s = refl
sets_unless (suc n) l s = refl

pub ticks_lists : {t u s v : List ℕ} {r : Ticked} → Ticks t u s v r → v ≡ sets s 0 (lists (length s) t Tick)
unfolding lists
ticks_lists {t} {u} {s} w = w.room ∙ sets_unless (tick_refusal t (length s)) (woken t) s

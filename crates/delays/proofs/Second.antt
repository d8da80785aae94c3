-- The delay queue is a second clock: fed the same events, it wakes the same processes in the same order, and shows the same delays left. Assumes nothing.
use mathlib.Core.Path.{◌≡◌, refl, sym, ap, ap₂, subst, ◌∙◌}
use mathlib.Core.List.{List, [], ◌∷◌}
use Prim.Native.Nat.{ℕ, ◌+◌, ◌*◌, ◌≤◌}
use native.Mathlib.Omega.{arith}
use lib.ListN.{length, set, length-set}
use lib.Seq.{get_or-set_same}
use lib.Dec.{eqb, leb}
use borrow.Author.Tests.{leb-true}
use Rattle.machine.specs.Queue.{at, Range}
use Rattle.lists.proofs.Tests.{either, tested, and_true}
use Rattle.delays.specs.Words.{P_of, Sized, member, refusal, tick_refusal, unless, gone, entered, waited, left, fallen, next, ticked, made}
use Rattle.delays.specs.Delays.{Keeps, Event, Wait, Wake, Stop, Clean, Tick, at_member, fed, wakes, fed_all, wakes_all, called, lists, called_all}
use Rattle.delays.specs.Delays.{lists_all, FitsWord, AllFitWords}
use Rattle.delays.proofs.Reading.{sized_back, Same, same_trans, same_gone, same_linked, same_earlier, after_next, tick_passes}
use Rattle.delays.proofs.Keeping.{left_is, keeps_gone, keeps_waited, keeps_ticked, woken_is, keeps_made}

-- the words u, made of the words t, keep the delays d
pub record Follows (t u : List ℕ) (d : ℕ → ℕ) : Type 0 where
  pub keeps : Keeps u d
  pub processes : P_of u ≡ P_of t

same_waited : (t : List ℕ) (p v : ℕ) → 1 ≤ p → Sized t → Same t (waited p v t)
unfolding waited entered
same_waited t p v h s =
    let g = same_gone t p s in
    either (Same t) (eqb v 0) (λ e. g) (λ e. same_trans g (same_linked (gone p t) _ _ p h g.size))

pub same_ticked : (t : List ℕ) → Sized t → Same t (ticked t)
unfolding ticked
same_ticked t s = let f = same_earlier t (next t 0) 1 s in same_trans f (after_next (fallen t) 0 _ refl f.size)

-- a call on process p: served where p is one of them, and nothing changed where not
module _ {t : List ℕ} {d : ℕ → ℕ} (k : Keeps t d) where
  served : (p v : ℕ) (u : List ℕ) → (Range (P_of t) p → Follows t u (at d p v)) → Follows t (unless (refusal t p) u t) (at_member (P_of t) d p v)
  unfolding refusal
  served p v u f =
      rw (sized_back t k.size)
      (tested (member t p)
      (λ e. rw e (let h = and_true {a = leb 1 p} e in f (leb-true 1 p h.0, leb-true p (P_of t) h.1)))
      (λ e. rw e (record { keeps = k; processes = refl })))

  left_out : (p : ℕ) → Range (P_of t) p → Follows t (gone p t) (at d p 0)
  left_out p r = record { keeps = keeps_gone k p r; processes = (same_gone t p k.size).processes }

  -- one event
  module _ (n : ℕ) (room : P_of t ≤ n) where
    passes : tick_refusal t n ≡ 0
    passes = sym (tick_passes t n (sized_back t k.size) room)

    pub follows : (e : Event) → FitsWord e → Follows t (called n t e) (fed (P_of t) d e)
    unfolding called fed
    follows (Wait p v) h = served p v (waited p v t) (λ r. record { keeps = keeps_waited k p r v h; processes = (same_waited t p v r.0 k.size).processes })
    follows (Wake p) h = served p 0 (gone p t) (left_out p)
    follows (Stop p) h = served p 0 (gone p t) (left_out p)
    follows (Clean p) h = served p 0 (gone p t) (left_out p)
    follows Tick h = rw passes (record { keeps = keeps_ticked k; processes = (same_ticked t k.size).processes })

    pub wakes_same : (e : Event) → lists n t e ≡ wakes (P_of t) d e
    unfolding lists wakes
    wakes_same (Wait p v) = refl
    wakes_same (Wake p) = refl
    wakes_same (Stop p) = refl
    wakes_same (Clean p) = refl
    wakes_same Tick = rw passes (woken_is k)

-- ---- a stream of events
pub follows_all : {t : List ℕ} {d : ℕ → ℕ} (n : ℕ) (l : List Event) → Keeps t d → P_of t ≤ n → AllFitWords l
    → Follows t (called_all n t l) (fed_all (P_of t) d l)
unfolding called_all fed_all
follows_all n [] k h f = record { keeps = k; processes = refl }
follows_all {t} {d} n (e ∷ l) k h f =
    let a = follows k n h e f.0 in
    let b = follows_all {t = called n t e} {d = fed (P_of t) d e} n l a.keeps (omega (arith, a.processes)) f.1 in
    record {
      keeps = subst (λ (P : ℕ). Keeps (called_all n (called n t e) l) (fed_all P (fed (P_of t) d e) l)) a.processes b.keeps;
      processes = b.processes ∙ a.processes;
    }

pub wakes_all_same : {t : List ℕ} {d : ℕ → ℕ} (n : ℕ) (l : List Event) → Keeps t d → P_of t ≤ n → AllFitWords l → lists_all n t l ≡ wakes_all (P_of t) d l
unfolding lists_all wakes_all
wakes_all_same n [] k h f = refl
wakes_all_same {t} {d} n (e ∷ l) k h f =
    let a = follows k n h e f.0 in
    let b = wakes_all_same {t = called n t e} {d = fed (P_of t) d e} n l a.keeps (omega (arith, a.processes)) f.1 in
    ap₂ (λ (w : List ℕ) (r : List (List ℕ)). w ∷ r) (wakes_same k n h e)
    (subst (λ (P : ℕ). lists_all n (called n t e) l ≡ wakes_all P (fed (P_of t) d e) l) a.processes b)

-- ---- the two clocks, from an empty queue made in any words on
pub record SameClocks (t : List ℕ) (P n : ℕ) (l : List Event) : Type 0 where
  pub woken : lists_all n (made P t) l ≡ wakes_all P (λ p. 0) l
  pub left : (p : ℕ) → Range P p → left (called_all n (made P t) l) p ≡ fed_all P (λ q. 0) l p

pub same_clocks : (t : List ℕ) (P n : ℕ) (l : List Event) → Range 32 P → 2 + 2 * P ≤ length t → P ≤ n → AllFitWords l → SameClocks t P n l
same_clocks t P n l r h m f =
    let k = keeps_made t P r h in
    let e : P_of (made P t) ≡ P = get_or-set_same (set t 0 0) 1 P 0 (omega (arith, length-set t 0 0)) in
    let a = follows_all n l k (omega (arith, e)) f in
    record {
      woken = wakes_all_same n l k (omega (arith, e)) f ∙ ap (λ (Q : ℕ). wakes_all Q (λ p. 0) l) e;
      left = λ p i. left_is a.keeps p (omega (arith, a.processes, e)) ∙ ap (λ (Q : ℕ). fed_all Q (λ q. 0) l p) e;
    }

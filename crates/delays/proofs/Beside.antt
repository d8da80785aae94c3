-- A queue kept beside the monitor: fed the events that its calls stand for, it agrees with every delay word, and its tick's list is the machine's. Assumes
-- nothing.
use mathlib.Core.Path.{◌≡◌, refl, sym, ap, subst, ◌∙◌}
use mathlib.Core.Bool.{Bool, ◌&&◌}
use mathlib.Core.List.{List, [], ◌∷◌, ◌++◌}
use Prim.Native.Nat.{ℕ, zero, suc, ◌+◌, ◌*◌, ◌≤◌}
use native.Mathlib.Omega.{arith}
use lib.ListN.{length, get_or, set, length-set}
use lib.Seq.{get_or-set_same}
use lib.Dec.{eqb}
use Rattle.machine.specs.Queue.{In, Range, head}
use Rattle.machine.specs.Machine.{Machine, state, owner, standing, kept, waiter, below_zero, current, delay, buffers}
use Rattle.machine.specs.Moves.{waiting, clean_buffer}
use Rattle.machine.specs.Request.{Request, Send, WaitAnswer, WaitEvent, SendAnswer, WaitInterrupt, Start, Stop, Clean, Tick, Interrupt, ListOpen}
use Rattle.machine.specs.Request.{Lower, Raise, Unknown}
use Rattle.machine.specs.Refusal.{refusal}
use Rattle.machine.specs.Step.{halted, expiring, step, after}
use Rattle.machine.specs.Legal.{Legal}
use Rattle.machine.specs.Layout.{Entry, laid_over}
use Rattle.machine.specs.Words.{Process, index, Shows}
use Rattle.lists.proofs.Tests.{either}
use Rattle.laws.proofs.Step.{legal_step}
use Rattle.delays.specs.Words.{P_of, next, difference, unless, left, made}
use Rattle.delays.specs.Delays.{Event, ending, Keeps, fed_all, called, lists, called_all, AllFitWords}
use Rattle.delays.specs.Calls.{wakes_if, wakes_owner, clean_wakes, meant, events_of, events_all, DelayFits, DelaysFit}
use Rattle.delays.specs.Delays as clock
use Rattle.delays.proofs.Standing.{stands_same}
use Rattle.delays.proofs.Putting.{rising_same}
use Rattle.delays.proofs.Keeping.{left_is, keeps_made}
use Rattle.delays.proofs.Second.{follows_all, wakes_same}
use Rattle.delays.proofs.Stepping.{step_does}

-- only the delays of the processes count
pub keeps_same : {t : List ℕ} {d : ℕ → ℕ} (d' : ℕ → ℕ) → ((p : ℕ) → Range (P_of t) p → d' p ≡ d p) → Keeps t d → Keeps t d'
keeps_same {t} {d} d' h k =
    let s : (y : ℕ) → In y k.q → d' y ≡ d y = λ y i. h y (k.exact.only y i).0 in
    record {
      size = k.size;
      q = k.q;
      stands = stands_same (next t) (difference t) d (next t) (difference t) d' (next t 0) 0 k.q (λ y i. (refl, refl, s y i)) k.stands;
      rising = rising_same d d' k.q s k.rising;
      exact = record {
        once = k.exact.once;
        only = λ y i. ((k.exact.only y i).0, omega (arith, s y i, (k.exact.only y i).1));
        every = λ y c. k.exact.every y (c.0, omega (arith, h y c.0, c.1));
      };
      small = λ y r. omega (arith, h y r, k.small y r);
    }

-- ---- the events of a request whose delay is a word
fit_both : (l r : List Event) → AllFitWords l → AllFitWords r → AllFitWords (l ++ r)
fit_both [] r f g = g
fit_both (e ∷ l) r f g = (f.0, fit_both l r f.1 g)

wake_fits : (t : Bool) (p : ℕ) → AllFitWords (wakes_if t p)
wake_fits t p = either AllFitWords t (λ _. (tt, tt)) (λ _. tt)

clean_fits : (p : ℕ) (l : List ℕ) (m : Machine) → AllFitWords (clean_wakes p l m)
unfolding clean_wakes
clean_fits p [] m = tt
clean_fits p (b ∷ l) m =
    fit_both (wakes_if (wakes_owner p b m) (owner m b)) (clean_wakes p l (clean_buffer p b m)) (wake_fits (wakes_owner p b m) (owner m b))
    (clean_fits p l (clean_buffer p b m))

meant_fits : (m : Machine) (r : Request) → DelayFits r → AllFitWords (meant m r)
unfolding meant
meant_fits m (Send a ws) f = wake_fits (eqb (state m a) 2) a
meant_fits m (WaitAnswer a) f = tt
meant_fits m (WaitEvent d) f = either AllFitWords (eqb (head (m.events (current m))) 0) (λ _. (f, tt)) (λ _. tt)
meant_fits m (SendAnswer a ws) f = wake_fits (eqb (standing m a) 2 && waiting a m) (owner m a)
meant_fits m (WaitInterrupt a d) f = either AllFitWords (eqb (m.device a) kept) (λ _. tt) (λ _. (f, tt))
meant_fits m (Start a) f = (tt, tt)
meant_fits m (Stop a) f = (tt, tt)
meant_fits m (Clean a) f = (tt, clean_fits a (buffers m) (halted a m))
meant_fits m Tick f = (tt, tt)
meant_fits m (Interrupt a) f = either AllFitWords (eqb (waiter m a) 0) (λ _. tt) (λ _. (tt, tt))
meant_fits m (ListOpen a room) f = tt
meant_fits m (Lower a) f = tt
meant_fits m (Raise a) f = wake_fits (below_zero (m.counter a)) (head (m.waiters a))
meant_fits m Unknown f = tt

events_fit : (m : Machine) (r : Request) → DelayFits r → AllFitWords (events_of m r)
unfolding events_of
events_fit m r f = go (refusal m r)
  where
    go : (k : ℕ) → AllFitWords (unless k (meant m r) [])
    go zero = meant_fits m r f
    go (suc k) = tt

-- ---- the words t keep the delays of the machine m
pub record Beside (t : List ℕ) (m : Machine) : Type 0 where
  pub keeps : Keeps t (delay m)
  pub processes : P_of t ≡ m.P

-- after a step they do so again, fed its events; n words of room
pub beside_step : {t : List ℕ} {m : Machine} → Legal m → Beside t m → (n : ℕ) → m.P ≤ n → (r : Request) → DelayFits r
    → Beside (called_all n t (events_of m r)) (step m r).machine
beside_step {t} {m} L b n h r f =
    let a = follows_all n (events_of m r) b.keeps (omega (arith, b.processes)) (events_fit m r f) in
    let s = step_does L r in
    record {
      keeps = keeps_same (delay (step m r).machine)
          (λ p i. s.delays p (omega (arith, a.processes, b.processes))
          ∙ ap (λ (P : ℕ). fed_all P (delay m) (events_of m r) p) (sym b.processes)) a.keeps;
      processes = a.processes ∙ b.processes ∙ sym s.size;
    }

called_append : (n : ℕ) (t : List ℕ) (l r : List Event) → called_all n (called_all n t l) r ≡ called_all n t (l ++ r)
unfolding called_all
called_append n t [] r = refl
called_append n t (e ∷ l) r = called_append n (called n t e) l r

pub beside_after : {t : List ℕ} {m : Machine} → Legal m → Beside t m → (n : ℕ) → m.P ≤ n → (l : List Request) → DelaysFit l
    → Beside (called_all n t (events_all m l)) (after m l)
unfolding events_all after called_all
beside_after L b n h [] f = b
beside_after {t} {m} L b n h (r ∷ l) f =
    let k : Machine = (step m r).machine in
    let s = beside_step L b n h r f.0 in
    subst (λ (u : List ℕ). Beside u (after k l)) (called_append n t (events_of m r) (events_all k l))
    (beside_after {t = called_all n t (events_of m r)} {m = k} (legal_step L r) s n (omega (arith, h, (step_does L r).size)) l f.1)

-- ---- what it comes to: the delays left are the machine's, and the words' of any table that shows it; a tick lists those that call 09 wakes
pub record Agrees (t : List ℕ) (m : Machine) (n : ℕ) : Type 0 where
  pub time : (p : ℕ) → Range m.P p → left t p ≡ delay m p
  pub word : (w : List ℕ) → Shows w m → (p : ℕ) → Range m.P p → left t p ≡ get_or w (index m.P m.B (Process p 6)) 0
  pub tick : lists n t clock.Tick ≡ expiring m

pub beside_agrees : {t : List ℕ} {m : Machine} → Beside t m → (n : ℕ) → m.P ≤ n → Agrees t m n
unfolding clock.wakes
beside_agrees {t} {m} b n h =
    let l : (p : ℕ) → Range m.P p → left t p ≡ delay m p = λ p r. left_is b.keeps p (omega (arith, b.processes)) in
    record {
      time = l;
      word = λ w s p r. l p r ∙ sym (s.table.at (Process p 6) (r.0, r.1, omega arith));
      tick = ticks (wakes_same b.keeps n (omega (arith, b.processes)) clock.Tick);
    }
  where
    ticks : lists n t clock.Tick ≡ clock.wakes (P_of t) (delay m) clock.Tick → lists n t clock.Tick ≡ expiring m
    ticks e = e ∙ ap (λ (P : ℕ). ending P (delay m)) b.processes

-- ---- from a layout on: an empty queue made beside it, and any run of calls
pub beside_laid : (u r : List ℕ) (edition : ℕ) (counters : List ℕ) (l : List Entry) → Legal (laid_over r edition counters l) → 2 + 2 * length l ≤ length u
    → Beside (made (length l) u) (laid_over r edition counters l)
unfolding laid_over
beside_laid u r edition counters l L h =
    record {
      keeps = keeps_made u (length l) (L.fixed.some, L.fixed.P32) h;
      processes = get_or-set_same (set u 0 0) 1 (length l) 0 (omega (arith, length-set u 0 0));
    }

after_size : {m : Machine} → Legal m → (l : List Request) → (after m l).P ≡ m.P
unfolding after
after_size L [] = refl
after_size {m = m} L (q ∷ l) = after_size {m = (step m q).machine} (legal_step L q) l ∙ (step_does L q).size

pub beside_run : (u r : List ℕ) (edition : ℕ) (counters : List ℕ) (e : List Entry) → Legal (laid_over r edition counters e) → 2 + 2 * length e ≤ length u
    → (n : ℕ) → length e ≤ n → (l : List Request) → DelaysFit l
    → Agrees (called_all n (made (length e) u) (events_all (laid_over r edition counters e) l)) (after (laid_over r edition counters e) l) n
unfolding laid_over
beside_run u r edition counters e L h n m l f =
    beside_agrees (beside_after L (beside_laid u r edition counters e L h) n m l f) n (omega (arith, m, after_size L l))

-- (xii) After any real log: who waits at which semaphore follows from the log alone, and no LOWER is lost. Assumes nothing.
use Prim.Native.Nat.{ℕ, ◌+◌}
use native.Mathlib.Omega.{arith}
use mathlib.Core.List.{List, [], ◌∷◌}
use mathlib.Core.Path.{◌≡◌, refl, sym, ap, ap₂, subst, ◌∙◌}
use lib.Dec.{eqb}
use lib.ListN.{length}
use Rattle.machine.specs.Queue.{if, Range}
use Rattle.machine.specs.Machine.{Machine, semaphores, current}
use Rattle.machine.specs.Step.{Answer, step}
use Rattle.machine.specs.Legal.{LegalCounter, Legal}
use Rattle.machine.specs.Layout.{laid_over}
use Rattle.machine.specs.Sound.{semaphore_at}
use Rattle.machine.specs.Log.{Call, Log, asked}
use Rattle.laws.proofs.Agree.{legal_agree}
use Rattle.laws.proofs.Decoded.{shows_agree, waiters_linked}
use Rattle.laws.proofs.Step.{legal_step}
use Rattle.logs.specs.Follows.{Follows, end, last, Recorded}
use Rattle.logs.specs.Real.{Real}
use Rattle.logs.specs.Semaphores.{Waiters, waiters_of, waiters_move, count_waiters, current_by, read_waiters, first_of, waiters_left, times}
use Rattle.logs.specs.Semaphores.{lowers_in, raises_in, taken_in, taken_away, excess, SemaphoreStands, NoneLost}
use Rattle.logs.proofs.LeftAlone.{Shape}
use Rattle.logs.proofs.Reading.{stepped, legal_start, legal_last, last_semaphores, counted}
use Rattle.logs.proofs.Written.{beyond_of, real_recorded, real_shows}
use Rattle.logs.proofs.Semaphores.{signed, below, above, spare_of, spare_above, waiters_at, waiters_moves}
use Rattle.logs.proofs.Balance.{balanced}

-- ---- one call that the machine answers
record Moved (m : Machine) (s : ℕ) (c : Call) : Type 0 where
  range : Range (semaphores (step m (asked c)).machine) s
  current_is : current (step m (asked c)).machine ≡ current_by (current m) c
  waiters_is : waiters_at (step m (asked c)).machine s ≡ count_waiters s (current m) (waiters_at m s) c

moved : {m : Machine} → Legal m → {s : ℕ} → Range (semaphores m) s → (c : Call) → c.answer ≡ (step m (asked c)).answer → Moved m s c
moved {m} L {s} j c f =
    let t = stepped L (asked c) in
    record {
      range = rw (ap (λ (x : Shape). x.semaphores) t.same_shape) j;
      current_is = t.current_is ∙ ap (counted (λ a. a.current) (current m)) (sym f);
      waiters_is = waiters_moves L j (asked c)
          ∙ ap (λ (r : Answer). if (eqb r.number 0) (waiters_move s (current m) (waiters_at m s) (asked c)) (waiters_at m s)) (sym f);
    }

-- ---- along the calls
-- what they leave of the semaphore s, and what they come to
record Led (m : Machine) (s : ℕ) (l : List Call) : Type 0 where
  waiters_is : waiters_at (end m l) s ≡ read_waiters s (current m) (waiters_at m s) l
  balance : (waiters_at (end m l) s).spare + lowers_in s l + length (m.waiters s)
      ≡ (waiters_at m s).spare + raises_in s l + taken_in s (current m) (waiters_at m s) l + length ((end m l).waiters s)

led : {m : Machine} → Legal m → {s : ℕ} → Range (semaphores m) s → (l : List Call) → Follows m l → Led m s l
unfolding end read_waiters times taken_in
led L j [] f = record { waiters_is = refl; balance = omega arith }
led {m} L {s} j (c ∷ l) f =
    let n : Machine = (step m (asked c)).machine in
    let k = moved L j c f.0 in
    let h = led {m = n} (legal_step L (asked c)) k.range l f.1 in
    let b = balanced s (current m) (waiters_at m s) c (L.semaphore_queues s j).once in
    let taken : taken_in s (current n) (waiters_at n s) l ≡ taken_in s (current_by (current m) c) (count_waiters s (current m) (waiters_at m s) c) l =
    ap₂ (λ (x : ℕ) (t : Waiters). taken_in s x t l) k.current_is k.waiters_is in
    let spare = ap (λ (t : Waiters). t.spare) k.waiters_is in
    let waiting = ap (λ (t : Waiters). length t.waiters) k.waiters_is in
    record {
      waiters_is = h.waiters_is ∙ ap₂ (λ (x : ℕ) (t : Waiters). read_waiters s x t l) k.current_is k.waiters_is;
      balance = omega (arith, h.balance, b, taken, spare, waiting);
    }

-- ---- a log
module _ {beyond counters : List ℕ} {edition : ℕ} {g : Log} (h : Recorded beyond edition counters g) {s : ℕ} (j : Range (length counters) s) where
  -- at layout nobody waits, and the counter is to spare
  begins : waiters_at (laid_over beyond edition counters g.list) s ≡ waiters_of (first_of counters s) []
  unfolding laid_over
  begins =
      let l = (legal_start h).counters s j in
      ap (λ (x : ℕ). waiters_of x []) (signed l (λ b e. absurd (omega (arith, l.word))) (λ a e. spare_above (first_of counters s) a))

  leads : Led (laid_over beyond edition counters g.list) s g.calls
  unfolding laid_over
  leads = led (legal_start h) j g.calls h.follows

  -- the machine has the semaphore as the log leaves it
  pub last_waiters : waiters_at (last beyond edition counters g) s ≡ waiters_left counters g s
  unfolding laid_over
  last_waiters = leads.waiters_is ∙ ap (λ (t : Waiters). read_waiters s 0 t g.calls) begins

  -- and what it has to spare, with the LOWERs, is its first counter with the RAISEs, those stopped or cleaned, and those who wait
  pub last_balance : (waiters_at (last beyond edition counters g) s).spare + lowers_in s g.calls
      ≡ first_of counters s + raises_in s g.calls + taken_away counters g s + length ((last beyond edition counters g).waiters s)
  unfolding laid_over
  last_balance =
      let taken = ap (λ (t : Waiters). taken_in s 0 t g.calls) begins in
      omega (arith, leads.balance, taken, ap (λ (t : Waiters). t.spare) begins)

-- a counter's word is what it has to spare less those who wait
counter_is : {c n : ℕ} → LegalCounter c n → c + n ≡ spare_of c + excess c
counter_is {c} {n} l =
    signed l (λ h e. rw (below c h) (omega arith)) (λ h e. rw (above c h) (omega arith))

-- ---- the promises
module _ {g : Log} {u : List ℕ} (h : Real g u) {s : ℕ} (j : Range (length h.counters) s) where
  abbrev now : Machine
  now = last (beyond_of h) h.edition h.counters g

  there : Range (semaphores now) s
  there = rw (last_semaphores (real_recorded h)) j

  legal : Legal now
  legal = legal_last (real_recorded h)

  word : semaphore_at u s 0 ≡ now.counter s
  word = (shows_agree (real_shows h)).counter s there

  waiters_is : waiters_at now s ≡ waiters_left h.counters g s
  waiters_is = last_waiters (real_recorded h) j

  -- who waits at semaphore s, in which order, and its counter: the words have it as the log alone says
  pub log_waits : SemaphoreStands u s (waiters_left h.counters g s)
  log_waits =
      subst (SemaphoreStands u s) waiters_is (record {
        queue = record {
          linked = waiters_linked (real_shows h) legal s there;
          exact = (legal_agree (shows_agree (real_shows h)) legal).semaphore_queues s (rw (shows_agree (real_shows h)).header.1 there);
        };
        counter = rw word (counter_is (legal.counters s there));
      })

  -- "no LOWER is lost"
  pub none_lost : NoneLost h.counters g s (semaphore_at u s 0)
  none_lost =
      record { balance = rw word (omega (arith, counter_is (legal.counters s there), last_balance (real_recorded h) j)) }

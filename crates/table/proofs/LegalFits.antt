-- Sound words show a legal machine, and on a legal machine the moves may be made. Assumes nothing.
use Prim.Native.Nat.{ℕ, ◌≤◌}
use native.Mathlib.Omega.{arith}
use mathlib.Core.List.{List, [], ◌∷◌}
use mathlib.Core.Logic.{⊎_elim}
use mathlib.Core.Path.{◌≡◌, refl, sym, ◌∙◌}
use lib.ListN.{length}
use Rattle.machine.specs.Queue.{Range, In}
use Rattle.machine.specs.Machine.{Machine, state, standing}
use Rattle.machine.specs.Legal.{Legal}
use Rattle.machine.specs.Words.{home}
use Rattle.machine.specs.Sound.{Sound}
use Rattle.lists.proofs.Links.{cases}
use Rattle.laws.proofs.Decoded.{home_queued, running_zero, event_zero, waiters_zero}
use Rattle.laws.proofs.Bridge.{sound_shows}
use Rattle.laws.proofs.States.{Sleeps}
use Rattle.table.specs.Promise.{Can}
use Rattle.table.specs.Fits.{IsSemaphore, InNoQueue, ProcessesFit, EventsFit, MayUnlink, MayWalk, MayEnter, MayLeave, MayRise, MayOffSemaphore}
use Rattle.table.specs.Fits.{MayEndWait, MayWake, MayHalt, MayStop}

pub sound_legal : {t : List ℕ} → Sound t → Can t Legal
sound_legal S = let (m, w, L) = sound_shows S in record { m = m; shows = w; may = L }

module _ {m : Machine} (L : Legal m) where
  -- ---- queues
  -- outside state 5 a process names no semaphore
  unnamed : (p s : ℕ) → Range m.P p → state m p ≡ s → (s ≡ 5 → ⊥) → m.process p 15 ≡ 0
  unnamed p s r e n = (L.process p r).no_semaphore (λ k. n (sym e ∙ k))

  pub legal_running_fits : MayWalk m
  legal_running_fits =
      record {
        once = (running_zero L, L.running.once);
        within = λ x i. (let c = L.running.only x i in (c.0.1, unnamed x 1 c.0 c.1 (omega arith)));
      }

  pub legal_processes_fit : (s : ℕ) → IsSemaphore s m → ProcessesFit m.P (λ x. m.process x 15) s (m.waiters s)
  legal_processes_fit s r =
      record { once = (waiters_zero L s r, (L.semaphore_queues s r).once); within = λ x i. (let c = (L.semaphore_queues s r).only x i in (c.0.1, c.2)) }

  pub legal_events_fit : (p : ℕ) → Range m.P p → EventsFit m.B (home m.buffer) p (m.events p)
  legal_events_fit p r =
      record {
        once = (event_zero L p r, (L.events p r).once);
        within = λ x i. (((L.events p r).only x i).0.1, home_queued m.buffer x p ((L.events p r).only x i).1);
      }

  -- a buffer neither queued nor answered
  pub legal_in_no_queue : (b : ℕ) → Range m.B b → (standing m b ≡ 1 → ⊥) → (standing m b ≡ 3 → ⊥) → InNoQueue b m
  legal_in_no_queue b r not_queued not-answered =
      record {
        is = r;
        out = λ p k i. ⊎_elim (λ h. not_queued h.0) (λ h. not-answered h.0) ((L.events p k).only b i).1;
        owned = (L.fixed.owned b r).1;
        received = cases (standing m b) 0 (λ e. omega (arith, ((L.buffer b r).free e).0)) (λ n. ((L.buffer b r).taken n).0.1);
      }

  -- ---- moves
  module _ (p : ℕ) (r : Range m.P p) where
    pub legal_end_wait : MayEndWait p m
    legal_end_wait =
        record {
          process = r;
          device = cases (state m p) 4 (λ e. (let w = L.waits p r e in omega (arith, w.word, w.is))) (λ n. omega (arith, (L.process p r).no_device n));
        }

    pub legal_halt : MayHalt p m
    legal_halt = record { process = r; fits = legal_running_fits; runs = (λ e. L.running.every p (r, e), λ i. (L.running.only p i).1) }

    -- in state 5 it is in the queue of the semaphore that it names
    pub legal_rise : (s : ℕ) → IsSemaphore s m → state m p ≡ 5 → m.process p 15 ≡ s → MayRise s p m
    legal_rise s is e f =
        record {
          semaphore = is;
          fits = legal_processes_fit s is;
          stands = (L.semaphore_queues s is).every p (r, e, f);
          names = f;
          runs = λ i. omega (arith, (L.running.only p i).1);
          others = λ k j n i. n (sym ((L.semaphore_queues k j).only p i).2 ∙ f);
          below =
              λ c. (let l = L.counters s is in let some = longer (m.waiters s) ((L.semaphore_queues s is).every p (r, e, f)) in
              omega (arith, l.above (omega arith)));
        }
      where
        longer : (q : List ℕ) → In p q → 1 ≤ length q
        longer [] i = absurd i
        longer (x ∷ q) i = omega arith

    pub legal_off_semaphore : MayOffSemaphore p m
    legal_off_semaphore =
        (r, λ n. cases (state m p) 5 (λ e. legal_rise (m.process p 15) (L.lowers p r e) e refl) (λ k. absurd (n ((L.process p r).no_semaphore k))))

    pub legal_stop : MayStop p m
    legal_stop = record { off = legal_off_semaphore; waits = legal_end_wait; halts = legal_halt }

    pub legal_leave : state m p ≡ 1 → MayLeave p m
    legal_leave e = record { fits = legal_running_fits; stands = L.running.every p (r, e) }

    pub legal_enter : Sleeps m p → MayEnter p m
    legal_enter n = record { process = r; fits = legal_running_fits; names = (L.process p r).no_semaphore n.1; new = λ i. n.0 (L.running.only p i).1 }

    pub legal_wake : Sleeps m p → MayWake p m
    legal_wake n = record { waits = legal_end_wait; enters = legal_enter n }

    pub legal_unlink : (b : ℕ) → In b (m.events p) → MayUnlink p b m
    legal_unlink b i = record { process = r; fits = legal_events_fit p r; stands = i }

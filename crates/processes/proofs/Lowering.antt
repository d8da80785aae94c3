-- What the moves of calls 0C and 0D ask holds of a legal machine, and what comes of them. Assumes nothing.
use Prim.Native.Nat.{ℕ}
use native.Mathlib.Omega.{arith}
use mathlib.Core.Bool.{true, false}
use mathlib.Core.Path.{◌≡◌, refl, sym, ◌∙◌}
use borrow.Author.Tests.{eqb-false, leb-true}
use Rattle.machine.specs.Queue.{Range, head}
use Rattle.machine.specs.Machine.{Machine, semaphores, below_zero, current, up, put_process, put_semaphore, zeros}
use Rattle.machine.specs.Moves.{pause, off_semaphore}
use Rattle.machine.specs.Request.{Lower, Raise}
use Rattle.machine.specs.Refusal.{refusal}
use Rattle.machine.specs.Step.{done, lowered, relieved, effect, step}
use Rattle.machine.specs.Walk.{Walk, nowhere, effort, walk}
use Rattle.machine.specs.Legal.{Legal, Lowers}
use Rattle.lists.proofs.Links.{refl_same, no_same, out_in}
use Rattle.lists.proofs.Tests.{inside, passes}
use Rattle.lists.proofs.Numbers.{few}
use Rattle.lists.proofs.Lists.{in_without}
use Rattle.laws.proofs.States.{longest}
use Rattle.table.specs.Fits.{IsSemaphore, MayName, MayLower, MayWake}
use Rattle.table.specs.Links.{position}
use Rattle.table.proofs.Queues.{leaves_process, fits_unnamed}
use Rattle.table.proofs.LegalFits.{legal_running_fits, legal_processes_fit, legal_rise, legal_end_wait}
use Rattle.answers.specs.Promise.{walk_to}
use Rattle.answers.proofs.Walks.{accepted_walks}
use Rattle.processes.specs.Semaphores.{MayWaitInQueue, MayTakeOne, MayRelieve}
use Rattle.processes.proofs.Accepted.{current_runs, current_pauses}
use Rattle.processes.proofs.Entering.{woken_walks}

-- ---- p runs and goes into the queue of semaphore a
module _ (m : Machine) (p a : ℕ) (may : MayWaitInQueue p a m) where
  pub queue_names : MayName p a (pause 5 p m)
  queue_names =
      let l = may.pauses.leaves in (
        record { is = leaves_process l; runs = λ i. (in_without p p m.running i).0 refl; semaphore_queues = may.out },
        omega (arith, (l.fits.within p l.stands).1),
        may.semaphore.1,
      )

  pub queue_lowers : MayLower a p (put_process p 15 a (pause 5 p m))
  queue_lowers =
      record {
        semaphore = may.semaphore;
        fits = record {
          once = may.fits.once;
          within = λ x i. (let w = may.fits.within x i in
              let n : x ≡ p → ⊥ = λ e. out_in p x (m.waiters a) (may.out a may.semaphore) i (sym e) in
              (w.0, no_same x p a (m.process x 15) n ∙ w.1));
        };
        process = leaves_process may.pauses.leaves;
        names = refl_same p a (m.process p 15);
        new = may.out a may.semaphore;
      }

-- ---- 0C
module _ {m : Machine} (L : Legal m) {p : ℕ} (a : ℕ) (e : p ≡ current m) (z : refusal m (Lower a) ≡ 0) where
  lower_some : p ≡ 0 → ⊥
  unfolding refusal
  lower_some k = eqb-false (current m) 0 (passes _ (omega arith) z).0 (sym e ∙ k)

  lower_is : Range (semaphores m) a
  unfolding refusal
  lower_is = inside (semaphores m) a (passes _ (omega arith) z).1.0

  -- fewer wait than the lowest number says
  not_lowest : m.counter a ≡ 32768 → ⊥
  not_lowest k =
      let q = L.semaphore_queues a lower_is in
      let n = few 0 m.P (m.waiters a) q.once (λ x i. omega (arith, (q.only x i).0)) in
      omega (arith, (L.counters a lower_is).below (omega arith), L.fixed.P32)

  pub may_take_one : MayTakeOne p a m
  may_take_one =
      let r = current_runs L e lower_some in (
        record {
          pauses = current_pauses L e lower_some;
          semaphore = lower_is;
          fits = legal_processes_fit L a lower_is;
          out = λ s j i. omega (arith, r.1, ((L.semaphore_queues s j).only p i).1);
        },
        not_lowest,
      )

  pub lower_steps : step m (Lower a) ≡ done 0 0 zeros (lowered a p m)
  unfolding step effect
  lower_steps = rw (z, e)

-- ---- 0D
module _ {m : Machine} (L : Legal m) (a : ℕ) (z : refusal m (Raise a) ≡ 0) where
  pub raise_is : IsSemaphore a m
  unfolding refusal
  raise_is = inside (semaphores m) a (passes _ (omega arith) z).1.0

  pub raise_below : m.counter a ≡ 32767 → ⊥
  unfolding refusal
  raise_below = eqb-false (m.counter a) 32767 (passes _ (omega arith) z).1.1.0

  -- the counter is not below zero
  module _ (n : below_zero (m.counter a) ≡ false) where
    pub raise_steps : step m (Raise a) ≡ done 0 0 zeros (put_semaphore a (up (m.counter a)) (m.waiters a) m)
    unfolding step effect
    raise_steps = rw (z, n)

    pub raise_stays : {w : Walk} → w ≡ nowhere → w ≡ walk m (Raise a)
    unfolding effort
    raise_stays h = accepted_walks m (Raise a) z (rw n h)

  -- it is, and the longest waiter wakes
  module _ (n : below_zero (m.counter a) ≡ true) {p : ℕ} (e : p ≡ head (m.waiters a)) where
    waits : Lowers m a p
    waits = rw e (longest L a raise_is (leb-true 32768 (m.counter a) n))

    pub may_relieve : MayRelieve a p m
    may_relieve =
        record {
          process = waits.0;
          rises = (legal_rise L p waits.0 a raise_is waits.1 waits.2, e);
          waits = legal_end_wait L p waits.0;
          fits = legal_running_fits L;
          new = λ i. omega (arith, waits.1, (L.running.only p i).1);
        }

    pub relieve_steps : step m (Raise a) ≡ done 0 0 zeros (relieved p m)
    unfolding step effect
    relieve_steps = rw (z, n, e)

    pub relieve_walks : {w : Walk} {r : ℕ} → r ≡ position 5 p m → w ≡ walk_to r nowhere → w ≡ walk m (Raise a)
    unfolding effort effect
    relieve_walks k h = accepted_walks m (Raise a) z (rw (n, ← e) (woken_walks 5 p (off_semaphore p m) (omega (arith, waits.1)) k h))

-- ---- out of the queue of its semaphore, p may enter the running queue
pub relieved_wakes : (m : Machine) (s p : ℕ) → MayRelieve s p m → MayWake p (off_semaphore p m)
relieved_wakes m s p may =
    record {
      waits = may.waits;
      enters = record {
        process = may.process;
        fits = fits_unnamed (λ x. m.process x 15) p may.fits;
        names = refl_same p 0 (m.process p 15);
        new = may.new;
      };
    }

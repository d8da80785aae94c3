-- All clauses, of all their records, are `Sound`. Assumes nothing.
use mathlib.Core.Path.{◌≡◌, refl, sym, ◌∙◌}
use mathlib.Core.Logic.{◌⊎◌, inl, inr, ⊎_elim}
use mathlib.Core.List.{List}
use Prim.Native.Nat.{ℕ, zero, suc, ◌-◌, ◌≤◌, ◌<◌}
use native.Mathlib.Omega.{arith}
use lib.ListN.{get_or}
use Rattle.machine.specs.Queue.{Range}
use Rattle.machine.specs.Machine.{kept}
use Rattle.machine.specs.Legal.{Fixed}
use Rattle.machine.specs.Sound.{Sound, P_of, B_of, process_at, buffer_at, device_at}
use Rattle.lists.proofs.Links.{cases}
use Rattle.why.specs.Clause.{Clause, HeaderThere, ProcessesInRange, BuffersInRange, SemaphoresInRange, LongEnough, Edition, HeaderZero}
use Rattle.why.specs.Clause.{SemaphoreZero, Priority, Name}
use Rattle.why.specs.Clause.{NameApart, FirstOwn, AllGiven, Owner, Queue, PriorityFalls, ProcessOff, BufferOff, Standing, Free, Receiver, Counter}
use Rattle.why.specs.Clause.{State, Reason, NoReason, SemaphoreWait, EventWait, AnswerWait, InterruptWait, Delay, Device}
use Rattle.why.specs.Clause.{last_clause, clause_of, sort_of_queue, many, records, Holds}
use Rattle.why.specs.QueueParts.{Part, First, Last, Start, Next, Back, Met, queues, running, events, waiting_queues, asked}
use Rattle.why.proofs.Followed.{All, Queued, queued, asks}
use Rattle.why.proofs.InSound.{running_of, of_running, of_falls, events_of, of_events, semaphore_queue_of, of_semaphore_queue, of_counter}

module _ (w : List ℕ) where
  -- every clause holds of every record
  abbrev pub AllHold : Type 0
  AllHold = (c : ℕ) → Range last_clause c → (r : ℕ) → Range (records w (clause_of c)) r → Holds w (clause_of c) r

  module _ (H : AllHold) where
    abbrev P : ℕ
    P = P_of w

    running_asked : All (running w)
    unfolding clause_of
    running_asked First h r = H 15 (omega arith) h r
    running_asked Last h r = H 16 (omega arith) h r
    running_asked Start h r = H 17 (omega arith) h r
    running_asked Next x r = H 18 (omega arith) x r
    running_asked Back x r = H 19 (omega arith) x r
    running_asked Met x r = H 20 (omega arith) x r

    events_asked : All (events w)
    unfolding clause_of
    events_asked First h r = H 23 (omega arith) h r
    events_asked Last h r = H 24 (omega arith) h r
    events_asked Start h r = H 25 (omega arith) h r
    events_asked Next x r = H 26 (omega arith) x r
    events_asked Back x r = H 27 (omega arith) x r
    events_asked Met x r = H 28 (omega arith) x r

    semaphores_asked : All (waiting_queues w)
    unfolding clause_of
    semaphores_asked First h r = H 33 (omega arith) h r
    semaphores_asked Last h r = H 34 (omega arith) h r
    semaphores_asked Start h r = H 35 (omega arith) h r
    semaphores_asked Next x r = H 36 (omega arith) x r
    semaphores_asked Back x r = H 37 (omega arith) x r
    semaphores_asked Met x r = H 38 (omega arith) x r

    -- no process has the name of one before it
    apart : (p q : ℕ) → Range P p → Range P q → process_at w p 12 ≡ process_at w q 12 → process_at w p 13 ≡ process_at w q 13
        → process_at w p 14 ≡ process_at w q 14 → p < q → ⊥
    unfolding clause_of
    apart p q r s a b c l = H 11 (omega arith) q s p (omega arith) (a, (b, c))

    fixed : Fixed P (B_of w) (λ b. buffer_at w b 2) (λ p. process_at w p 9) (λ p. process_at w p 10) (λ p. process_at w p 11)
        (λ p. process_at w p 12) (λ p. process_at w p 13) (λ p. process_at w p 14)
    unfolding clause_of
    fixed =
        let size = H 2 (omega arith) 1 (omega arith) in
        record {
          some = size.0;
          P32 = size.1;
          B128 = H 3 (omega arith) 1 (omega arith);
          priorities = λ p r. H 9 (omega arith) p r;
          names = λ p r. H 10 (omega arith) p r;
          apart = λ p q r s a b c. cases p q (λ e. e)
              (λ n. absurd (⊎_elim (λ l. apart p q r s a b c l) (λ l. apart q p s r (sym a) (sym b) (sym c) l) (sides p q n)));
          none = λ p r. (H 12 (omega arith) p r).0;
          follow = λ p r. (H 12 (omega arith) p r).1;
          all = H 13 (omega arith) 1 (omega arith);
          owned = λ b r. (H 14 (omega arith) b r).0;
          agree = λ b r. (let h = (H 14 (omega arith) b r).1 in (omega (arith, h.0), h.1));
        }
      where
        sides : (p q : ℕ) → (p ≡ q → ⊥) → (p < q) ⊎ (q < p)
        sides p q n = by (decide_le p q)
          where
            decide_le : (a b : ℕ) → (a ≤ b) ⊎ (b < a)
            decide_le zero b = inl (omega arith)
            decide_le (suc a) zero = inr (omega arith)
            decide_le (suc a) (suc b) = ⊎_elim (λ l. inl (omega arith)) (λ l. inr (omega arith)) (decide_le a b)

            by : (p ≤ q) ⊎ (q < p) → (p < q) ⊎ (q < p)
            by (inl l) = inl (omega (arith, n))
            by (inr l) = inr l

    device : (d : ℕ) → d < 64 → (device_at w d ≡ kept → get_or w 4 0 ≡ 1) × ((device_at w d ≡ 0 → ⊥) → (device_at w d ≡ kept → ⊥)
        → Range P (device_at w d) × ((process_at w (device_at w d) 4 ≡ 4) × (process_at w (device_at w d) 8 ≡ suc d)))
    unfolding clause_of
    device d l = let e : suc d - 1 ≡ d = omega arith in rw e at (H 48 (omega arith) (suc d) (omega arith))

    pub sound_of : Sound w
    unfolding clause_of
    sound_of =
        record {
          long = H 5 (omega arith) 1 (omega arith);
          header = record {
            editions = H 6 (omega arith) 1 (omega arith);
            few = H 4 (omega arith) 1 (omega arith);
            zeros = (H 7 (omega arith) 1 (omega arith), H 7 (omega arith) 2 (omega arith));
          };
          semaphore_zero = λ s r. H 8 (omega arith) s r;
          fixed = fixed;
          running = running_of w (queued (running w) running_asked 1 (omega arith)) (λ p r. H 21 (omega arith) p r);
          off_running = λ p r. H 22 (omega arith) p r;
          semaphore_queues = λ s r. semaphore_queue_of w s r (queued (waiting_queues w) semaphores_asked s r) (H 39 (omega arith) s r);
          events = λ p r. events_of w p r (queued (events w) events_asked p r);
          off_events = λ b r. H 29 (omega arith) b r;
          buffer = λ b r. record {
            standings = H 30 (omega arith) b r;
            free = λ e. (let h = H 31 (omega arith) b r e in (h.0, h.1.0, h.1.1.0, h.1.1.1.0, h.1.1.1.1.0, h.1.1.1.1.1));
            taken = H 32 (omega arith) b r;
          };
          idle = λ p r. H 44 (omega arith) p r;
          awaits = λ p r. (H 45 (omega arith) p r).0;
          waits = λ p r. (H 46 (omega arith) p r).0;
          keeps = λ d l. (device d l).0;
          waiters = λ d l n k. (let h = (device d l).1 n k in (h.0, h.1.0, h.1.1));
          lowers = λ p r. (H 43 (omega arith) p r).0;
          process = λ p r. record {
            states = H 40 (omega arith) p r;
            reasons = H 41 (omega arith) p r;
            no_reason = H 42 (omega arith) p r;
            no_delay = H 47 (omega arith) p r;
            no_buffer = (H 45 (omega arith) p r).1;
            no_device = (H 46 (omega arith) p r).1;
            no_semaphore = (H 43 (omega arith) p r).1;
          };
        }

  -- ---- and back
  -- the records that a part of a queue speaks of
  sorted : (k : ℕ) (p : Part) → many w (sort_of_queue k p) ≡ asked (queues w k) p
  sorted zero First = refl
  sorted zero Last = refl
  sorted zero Start = refl
  sorted zero Next = refl
  sorted zero Back = refl
  sorted zero Met = refl
  sorted (suc zero) First = refl
  sorted (suc zero) Last = refl
  sorted (suc zero) Start = refl
  sorted (suc zero) Next = refl
  sorted (suc zero) Back = refl
  sorted (suc zero) Met = refl
  sorted (suc (suc k)) First = refl
  sorted (suc (suc k)) Last = refl
  sorted (suc (suc k)) Start = refl
  sorted (suc (suc k)) Next = refl
  sorted (suc (suc k)) Back = refl
  sorted (suc (suc k)) Met = refl

  module _ (S : Sound w) where
    there : (k h : ℕ) → Range (queues w k).number h → Queued (queues w k) h
    there zero h r = of_running w S.running h r
    there (suc zero) h r = of_events w h r (S.events h r)
    there (suc (suc k)) h r = of_semaphore_queue w h r (S.semaphore_queues h r)

    pub holds_of : (k : Clause) (r : ℕ) → Range (records w k) r → Holds w k r
    holds_of HeaderThere r k = omega (arith, S.long)
    holds_of ProcessesInRange r k = (S.fixed.some, S.fixed.P32)
    holds_of BuffersInRange r k = S.fixed.B128
    holds_of SemaphoresInRange r k = S.header.few
    holds_of LongEnough r k = S.long
    holds_of Edition r k = S.header.editions
    holds_of HeaderZero r k =
        cases r 1 (λ e. rw e S.header.zeros.0) (λ n. (let e : r ≡ 2 = omega arith in rw e S.header.zeros.1))
    holds_of SemaphoreZero s k = S.semaphore_zero s k
    holds_of Priority p k = S.fixed.priorities p k
    holds_of Name p k = S.fixed.names p k
    holds_of NameApart p k = λ q l e. (let d = S.fixed.apart q p (omega arith) k e.0 e.1.0 e.1.1 in omega arith)
    holds_of FirstOwn p k = (S.fixed.none p k, S.fixed.follow p k)
    holds_of AllGiven r k = S.fixed.all
    holds_of Owner b k = (let a = S.fixed.agree b k in (S.fixed.owned b k, ((λ l. omega (arith, a.0)), a.1)))
    holds_of (Queue k p) r i = asks (queues w k) (there k) p r (rw (sorted k p) at i)
    holds_of PriorityFalls p k = of_falls w S.running p k
    holds_of ProcessOff p k = S.off_running p k
    holds_of BufferOff b k = S.off_events b k
    holds_of Standing b k = (S.buffer b k).standings
    holds_of Free b k = λ e. (let h = (S.buffer b k).free e in (h.0, (h.1, (h.2, (h.3, (h.4, h.5))))))
    holds_of Receiver b k = (S.buffer b k).taken
    holds_of Counter s k = of_counter w s k (S.semaphore_queues s k)
    holds_of State p k = (S.process p k).states
    holds_of Reason p k = (S.process p k).reasons
    holds_of NoReason p k = (S.process p k).no_reason
    holds_of SemaphoreWait p k = (S.lowers p k, (S.process p k).no_semaphore)
    holds_of EventWait p k = S.idle p k
    holds_of AnswerWait p k = (S.awaits p k, (S.process p k).no_buffer)
    holds_of InterruptWait p k = (S.waits p k, (S.process p k).no_device)
    holds_of Delay p k = (S.process p k).no_delay
    holds_of Device r k = (
      S.keeps (r - 1) (omega arith),
      (λ n m. (let h = S.waiters (r - 1) (omega arith) n m in let e : r ≡ suc (r - 1) = omega arith in (h.0, (h.1, h.2 ∙ sym e)))),
    )

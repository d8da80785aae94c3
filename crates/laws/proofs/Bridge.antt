-- A table is sound exactly when it shows a legal machine. Assumes nothing.
use Prim.Native.Nat.{ℕ, zero, suc, ◌+◌, ◌≤◌, ◌<◌}
use native.Mathlib.Omega.{arith}
use native.Mathlib.Decide.{dec_le}
use mathlib.Core.Logic.{◌↔◌, inl, inr}
use mathlib.Core.List.{List, [], ◌∷◌}
use mathlib.Core.Path.{◌≡◌, refl, sym, ◌∙◌}
use lib.ListN.{length, get_or}
use Rattle.machine.specs.Queue.{Range, Out, IsQueue, head, next, previous}
use Rattle.machine.specs.Machine.{Machine}
use Rattle.machine.specs.Legal.{Queued, LegalCounter, Legal}
use Rattle.machine.specs.Words.{Place, Header, Process, Buffer, Semaphore, index, Has, queue, process_queue, links, home, word, Shows}
use Rattle.machine.specs.Sound.{P_of, B_of, S_of, process_at, buffer_at, semaphore_at, Sound}
use Rattle.lists.proofs.Links.{no_same, cases, first_is, last_is, next_out, previous_out, AsListed, linked_as_listed}
use Rattle.laws.proofs.Decoded.{decoded, queue_is, process_queue_is, home_0, home_queued, no_zero, shows_sound}

-- a queue for each number that there is
module _ (n : ℕ) (f : (x : ℕ) → Range n x → List ℕ) where
  pick : (x : ℕ) → Dec (1 ≤ x) → Dec (x ≤ n) → List ℕ
  pick x (yes l) (yes h) = f x (l, h)
  pick x (yes l) (no h) = []
  pick x (no l) d = []

  queues : ℕ → List ℕ
  queues x = pick x (dec_le 1 x) (dec_le x n)

  module _ (C : ℕ → List ℕ → Type 0) (is : (x : ℕ) (r : Range n x) → C x (f x r)) where
    picked : (x : ℕ) (a : Dec (1 ≤ x)) (b : Dec (x ≤ n)) → Range n x → C x (pick x a b)
    unfolding pick
    picked x (yes l) (yes h) r = is x (l, h)
    picked x (yes l) (no h) r = absurd (h r.1)
    picked x (no l) d r = absurd (l r.0)

    queues_are : (x : ℕ) → Range n x → C x (queues x)
    unfolding queues
    queues_are x r = picked x (dec_le 1 x) (dec_le x n) r

module _ {t : List ℕ} (S : Sound t) where
  EventsAre : ℕ → List ℕ → Type 0
  EventsAre p q = IsQueue (λ b. buffer_at t b 0) (λ b. buffer_at t b 1)
      (λ b. Range (B_of t) b × Queued (buffer_at t b 2) (buffer_at t b 3) (buffer_at t b 4) p) (process_at t p 2) (process_at t p 3) q

  WaitersAre : ℕ → List ℕ → Type 0
  WaitersAre k q = IsQueue (λ p. process_at t p 0) (λ p. process_at t p 1) (λ p. Range (P_of t) p × (process_at t p 4 ≡ 5) × (process_at t p 15 ≡ k))
      (semaphore_at t k 1) (semaphore_at t k 2) q × LegalCounter (semaphore_at t k 0) (length q)

  -- the event queue of each process, and the queue of each semaphore
  event_queues : ℕ → List ℕ
  event_queues = queues (P_of t) (λ p r. (S.events p r).q)

  event_queues_are : (p : ℕ) → Range (P_of t) p → EventsAre p (event_queues p)
  unfolding EventsAre event_queues
  event_queues_are = queues_are (P_of t) (λ p r. (S.events p r).q) EventsAre (λ p r. (S.events p r).is)

  waiter_queues : ℕ → List ℕ
  waiter_queues = queues (S_of t) (λ k r. (S.semaphore_queues k r).q)

  waiter_queues_are : (k : ℕ) → Range (S_of t) k → WaitersAre k (waiter_queues k)
  unfolding WaitersAre waiter_queues
  waiter_queues_are = queues_are (S_of t) (λ k r. (S.semaphore_queues k r).q) WaitersAre
      (λ k r. ((S.semaphore_queues k r).is, (S.semaphore_queues k r).counter))

  abbrev shown : Machine
  shown = decoded t S.running.q event_queues waiter_queues

  run_out : Out 0 S.running.q
  run_out = no_zero (P_of t) S.running.q (λ x c. c.0) S.running.is.exact

  running_as_listed : AsListed (λ p. process_at t p 0) (λ p. process_at t p 1) (get_or t 2 0) 0 S.running.q (get_or t 3 0)
  running_as_listed =
      let i = S.running.is in
      linked_as_listed _ _ _ 0 S.running.q _ (run_out, i.exact.once) i.linked

  event_out : (p : ℕ) → Range (P_of t) p → Out 0 (event_queues p)
  unfolding EventsAre
  event_out p r = no_zero (B_of t) (event_queues p) (λ x c. c.0) (event_queues_are p r).exact

  events_as_listed : (p : ℕ) → Range (P_of t) p
      → AsListed (λ b. buffer_at t b 0) (λ b. buffer_at t b 1) (process_at t p 2) 0 (event_queues p) (process_at t p 3)
  unfolding EventsAre
  events_as_listed p r = let i = event_queues_are p r in linked_as_listed _ _ _ 0 (event_queues p) _ (event_out p r, i.exact.once) i.linked

  waiters_out : (k : ℕ) → Range (S_of t) k → Out 0 (waiter_queues k)
  unfolding WaitersAre
  waiters_out k r = no_zero (P_of t) (waiter_queues k) (λ x c. c.0) (waiter_queues_are k r).0.exact

  waiters_as_listed : (k : ℕ) → Range (S_of t) k
      → AsListed (λ p. process_at t p 0) (λ p. process_at t p 1) (semaphore_at t k 1) 0 (waiter_queues k) (semaphore_at t k 2)
  unfolding WaitersAre
  waiters_as_listed k r = let i = (waiter_queues_are k r).0 in linked_as_listed _ _ _ 0 (waiter_queues k) _ (waiters_out k r, i.exact.once) i.linked

  legal : Legal shown
  unfolding EventsAre WaitersAre
  legal =
      record {
        fixed = S.fixed;
        header = S.header;
        process = S.process;
        buffer = S.buffer;
        running = S.running.is.exact;
        falls = S.running.falls;
        events = λ p r. (event_queues_are p r).exact;
        idle = λ p r e. empty (event_queues p) (event_out p r) (sym (events_as_listed p r).first_of ∙ S.idle p r e);
        awaits = S.awaits;
        waits = S.waits;
        lowers = S.lowers;
        semaphore_queues = λ k r. (waiter_queues_are k r).0.exact;
        counters = λ k r. (waiter_queues_are k r).1;
        keeps = S.keeps;
        waiters = S.waiters;
      }
    where
      empty : (q : List ℕ) → Out 0 q → head q ≡ 0 → q ≡ []
      empty [] o e = refl
      empty (a ∷ q) o e = absurd (o (inl (sym e)))

  -- each place
  header : (i : ℕ) → i < 72 → get_or t i 0 ≡ word shown (links shown) (Header i)
  header zero h = refl
  header (suc zero) h = refl
  header (suc (suc zero)) h = running_as_listed.first_of ∙ sym (first_is 0 S.running.q)
  header (suc (suc (suc zero))) h = running_as_listed.last_of ∙ sym (last_is 0 S.running.q run_out)
  header (suc (suc (suc (suc zero)))) h = refl
  header (suc (suc (suc (suc (suc zero))))) h = refl
  header (suc (suc (suc (suc (suc (suc zero)))))) h = refl
  header (suc (suc (suc (suc (suc (suc (suc zero))))))) h = refl
  header (suc (suc (suc (suc (suc (suc (suc (suc d)))))))) h = let e : 8 + d ≡ suc (suc (suc (suc (suc (suc (suc (suc d))))))) = omega arith in rw e

  abbrev ProcessLinks : ℕ → Type 0
  ProcessLinks p = (process_at t p 0 ≡ next (process_queue shown (process_at t p 15)) p)
      × (process_at t p 1 ≡ previous (process_queue shown (process_at t p 15)) p)

  process_links : (p : ℕ) → Range (P_of t) p → ProcessLinks p
  unfolding WaitersAre
  process_links p r =
      let x = S.running.is.exact in
      let home : (process_at t p 4 ≡ 5 → ⊥) → process_at t p 15 ≡ 0 = (S.process p r).no_semaphore in
      cases (process_at t p 4) 1
      (λ e. (let i = x.every p (r, e) in rw (home (omega arith)) (running_as_listed.next_of p i, running_as_listed.previous_of p i)))
      (λ n. cases (process_at t p 4) 5
      (λ e. (let k = S.lowers p r e in
      let i = (waiter_queues_are (process_at t p 15) k).0.exact.every p (r, e, refl) in
      rw (process_queue_is shown (process_at t p 15) k.0)
      ((waiters_as_listed (process_at t p 15) k).next_of p i, (waiters_as_listed (process_at t p 15) k).previous_of p i)))
      (λ f.
      let o : Out p S.running.q = λ i. n (x.only p i).1 in
      let z = S.off_running p r n f in
      rw (home f) (z.0 ∙ sym (next_out 0 S.running.q p (omega arith) o), z.1 ∙ sym (previous_out 0 S.running.q p (omega arith) o))))

  process : (p f : ℕ) → Range (P_of t) p → f < 16 → process_at t p f ≡ word shown (links shown) (Process p f)
  process p zero r h = (process_links p r).0
  process p (suc zero) r h = (process_links p r).1
  process p (suc (suc zero)) r h = rw (queue_is shown p r.0) ((events_as_listed p r).first_of ∙ sym (first_is 0 (event_queues p)))
  process p (suc (suc (suc zero))) r h = rw (queue_is shown p r.0) ((events_as_listed p r).last_of ∙ sym (last_is 0 (event_queues p) (event_out p r)))
  process p (suc (suc (suc (suc f)))) r h = refl

  semaphore : (k h : ℕ) → Range (S_of t) k → h < 4 → semaphore_at t k h ≡ word shown (links shown) (Semaphore k h)
  semaphore k zero r h = refl
  semaphore k (suc zero) r h = rw (process_queue_is shown k r.0) ((waiters_as_listed k r).first_of ∙ sym (first_is 0 (waiter_queues k)))
  semaphore k (suc (suc zero)) r h = rw (process_queue_is shown k r.0) ((waiters_as_listed k r).last_of ∙ sym (last_is 0 (waiter_queues k) (waiters_out k r)))
  semaphore k (suc (suc (suc zero))) r h = S.semaphore_zero k r
  semaphore k (suc (suc (suc (suc f)))) r h = absurd (omega arith)

  abbrev EventLinks : ℕ → Type 0
  EventLinks b = (buffer_at t b 0 ≡ next (queue shown (home (buffer_at t) b)) b) × (buffer_at t b 1 ≡ previous (queue shown (home (buffer_at t) b)) b)

  queued_links : (b p : ℕ) → Range (B_of t) b → Range (P_of t) p → Queued (buffer_at t b 2) (buffer_at t b 3) (buffer_at t b 4) p → EventLinks b
  unfolding EventsAre
  queued_links b p r k c =
      let i = (event_queues_are p k).exact.every b (r, c) in
      rw (home_queued (buffer_at t) b p c, queue_is shown p k.0) ((events_as_listed p k).next_of b i, (events_as_listed p k).previous_of b i)

  event_links : (b : ℕ) → Range (B_of t) b → EventLinks b
  event_links b r =
      cases (buffer_at t b 4) 1
      (λ e. queued_links b (buffer_at t b 3) r ((S.buffer b r).taken (omega arith)).0 (inl (e, refl)))
      (λ n. cases (buffer_at t b 4) 3
      (λ e. queued_links b (buffer_at t b 2) r (S.fixed.owned b r) (inr (e, refl)))
      (λ k.
      let z = S.off_events b r n k in
      rw (home_0 (buffer_at t) b n k) (z.0, z.1 ∙ sym (no_same 0 b _ _ (omega arith)))))

  buffer : (b g : ℕ) → Range (B_of t) b → g < 10 → buffer_at t b g ≡ word shown (links shown) (Buffer b g)
  buffer b zero r h = (event_links b r).0
  buffer b (suc zero) r h = (event_links b r).1
  buffer b (suc (suc g)) r h = refl

  shows : Shows t shown
  shows = record { table = record { long = S.long; at = places; beyond = refl } }
    where
      places : (l : Place) → Has (P_of t) (B_of t) (S_of t) l → get_or t (index (P_of t) (B_of t) l) 0 ≡ word shown (links shown) l
      places (Header i) h = header i h
      places (Process p f) h = process p f (h.0, h.1) h.2
      places (Buffer b g) h = buffer b g (h.0, h.1) h.2
      places (Semaphore k g) h = semaphore k g (h.0, h.1) h.2

pub sound_shows : {t : List ℕ} → Sound t → (m : Machine) × Shows t m × Legal m
sound_shows S = (shown S, shows S, legal S)

-- a table is sound exactly when it shows a legal machine
pub sound_iff : (t : List ℕ) → Sound t ↔ ((m : Machine) × Shows t m × Legal m)
sound_iff t = (sound_shows, λ s. shows_sound s.1 s.2)

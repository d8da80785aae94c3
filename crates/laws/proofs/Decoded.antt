-- A table that shows a legal machine is sound. Assumes nothing.
use Prim.Native.Nat.{ℕ, zero, suc, ◌+◌, ◌≤◌, ◌<◌}
use native.Mathlib.Omega.{arith}
use mathlib.Core.Logic.{⊎_elim}
use mathlib.Core.List.{List}
use mathlib.Core.Path.{◌≡◌, refl, ◌∙◌}
use lib.ListN.{get_or, drop}
use Rattle.machine.specs.Queue.{Range, Out, Exact, Linked}
use Rattle.machine.specs.Machine.{Machine, state, semaphores}
use Rattle.machine.specs.Legal.{Queued, Legal}
use Rattle.machine.specs.Words.{Header, Process, Buffer, Semaphore, size, queue, process_queue, links, home, word, process_word, buffer_word, Shows}
use Rattle.machine.specs.Sound.{P_of, B_of, S_of, process_at, buffer_at, semaphore_at, device_at, Sound}
use Rattle.lists.proofs.Links.{yes_same, no_same, first_is, last_is, next_out, previous_out, as_listed_linked}
use Rattle.laws.proofs.Agree.{Agree, legal_agree}

-- the machine read off a table, with these queues
abbrev pub decoded : List ℕ → List ℕ → (ℕ → List ℕ) → (ℕ → List ℕ) → Machine
decoded t q ev ws =
    record {
      P = P_of t;
      B = B_of t;
      header = λ i. get_or t i 0;
      running = q;
      events = ev;
      process = process_at t;
      buffer = buffer_at t;
      device = device_at t;
      counter = λ s. semaphore_at t s 0;
      waiters = ws;
      beyond = drop (size (P_of t) (B_of t) (S_of t)) t;
    }

-- ---- small facts
pub queue_is : (m : Machine) (p : ℕ) → 1 ≤ p → queue m p ≡ m.events p
queue_is m zero h = absurd (omega arith)
queue_is m (suc p) h = refl

pub process_queue_is : (m : Machine) (s : ℕ) → 1 ≤ s → process_queue m s ≡ m.waiters s
process_queue_is m zero h = absurd (omega arith)
process_queue_is m (suc s) h = refl

-- a plain word
pub plain_process : (a b c d : ℕ) (w : ℕ → ℕ) (f : ℕ) → 4 ≤ f → process_word a b c d w f ≡ w f
plain_process a b c d w zero l = absurd (omega arith)
plain_process a b c d w (suc zero) l = absurd (omega arith)
plain_process a b c d w (suc (suc zero)) l = absurd (omega arith)
plain_process a b c d w (suc (suc (suc zero))) l = absurd (omega arith)
plain_process a b c d w (suc (suc (suc (suc f)))) l = refl

pub plain_buffer : (a b : ℕ) (w : ℕ → ℕ) (g : ℕ) → 2 ≤ g → buffer_word a b w g ≡ w g
plain_buffer a b w zero l = absurd (omega arith)
plain_buffer a b w (suc zero) l = absurd (omega arith)
plain_buffer a b w (suc (suc g)) l = refl

pub home_1 : (w : ℕ → ℕ → ℕ) (b : ℕ) → w b 4 ≡ 1 → home w b ≡ w b 3
unfolding home
home_1 w b e = yes_same (w b 4) 1 _ _ e

pub home_3 : (w : ℕ → ℕ → ℕ) (b : ℕ) → w b 4 ≡ 3 → home w b ≡ w b 2
unfolding home
home_3 w b e = no_same (w b 4) 1 _ _ (omega arith) ∙ yes_same (w b 4) 3 _ _ e

pub home_0 : (w : ℕ → ℕ → ℕ) (b : ℕ) → (w b 4 ≡ 1 → ⊥) → (w b 4 ≡ 3 → ⊥) → home w b ≡ 0
unfolding home
home_0 w b h k = no_same (w b 4) 1 _ _ h ∙ no_same (w b 4) 3 _ _ k

pub home_queued : (w : ℕ → ℕ → ℕ) (b p : ℕ) → Queued (w b 2) (w b 3) (w b 4) p → home w b ≡ p
home_queued w b p = ⊎_elim (λ h. home_1 w b h.0 ∙ h.1) (λ h. home_3 w b h.0 ∙ h.1)

-- a queue of numbers from 1 up has no 0
pub no_zero : {C : ℕ → Type 0} (n : ℕ) (q : List ℕ) → ((x : ℕ) → C x → Range n x) → Exact C q → Out 0 q
no_zero n q h e i = omega (arith, h 0 (e.only 0 i))

module _ {m : Machine} (L : Legal m) where
  pub running_zero : Out 0 m.running
  running_zero = no_zero m.P m.running (λ x c. c.0) L.running

  pub event_zero : (p : ℕ) → Range m.P p → Out 0 (m.events p)
  event_zero p r = no_zero m.B (m.events p) (λ x c. c.0) (L.events p r)

  pub waiters_zero : (s : ℕ) → Range (semaphores m) s → Out 0 (m.waiters s)
  waiters_zero s r = no_zero m.P (m.waiters s) (λ x c. c.0) (L.semaphore_queues s r)

  -- outside state 5 the home is the running queue
  at_home : (p : ℕ) → Range m.P p → (state m p ≡ 5 → ⊥) → m.process p 15 ≡ 0
  at_home p r = (L.process p r).no_semaphore

-- ---- from a machine to the words
module _ {t : List ℕ} {m : Machine} (s : Shows t m) where
  P_is : P_of t ≡ m.P
  P_is = s.table.at (Header 0) (omega arith)

  B_is : B_of t ≡ m.B
  B_is = s.table.at (Header 1) (omega arith)

  S_is : S_of t ≡ semaphores m
  S_is = s.table.at (Header 5) (omega arith)

  process_is : (p f : ℕ) → Range m.P p → f < 16 → process_at t p f ≡ word m (links m) (Process p f)
  process_is p f r h = s.table.at (Process p f) (r.0, r.1, h)

  buffer_is : (b g : ℕ) → Range m.B b → g < 10 → buffer_at t b g ≡ word m (links m) (Buffer b g)
  buffer_is b g r h = rw P_is (s.table.at (Buffer b g) (r.0, r.1, h))

  semaphore_is : (k h : ℕ) → Range (semaphores m) k → h < 4 → semaphore_at t k h ≡ word m (links m) (Semaphore k h)
  semaphore_is k h r u = rw (P_is, B_is) (s.table.at (Semaphore k h) (r.0, r.1, u))

  device_is : (d : ℕ) → d < 64 → device_at t d ≡ m.device d
  device_is d h = let e : 8 + d ≡ suc (suc (suc (suc (suc (suc (suc (suc d))))))) = omega arith in
      rw e (s.table.at (Header (suc (suc (suc (suc (suc (suc (suc (suc d))))))))) (omega arith))

  -- what is read off the words is the machine
  pub shows_agree : Agree m (decoded t m.running m.events m.waiters)
  shows_agree =
      record {
        P = P_is;
        B = B_is;
        header = (
          s.table.at (Header 4) (omega arith),
          s.table.at (Header 5) (omega arith),
          s.table.at (Header 6) (omega arith),
          s.table.at (Header 7) (omega arith),
        );
        running = refl;
        events = λ p r. refl;
        process = λ p f r l h. process_is p f r h ∙ plain_process _ _ _ _ (m.process p) f l;
        buffer = λ b g r l h. buffer_is b g r h ∙ plain_buffer _ _ (m.buffer b) g l;
        device = device_is;
        counter = λ k r. semaphore_is k 0 r (omega arith);
        waiters = λ k r. refl;
        beyond = rw (P_is, B_is, S_is) s.table.beyond;
      }

  module _ (L : Legal m) where
    pub running_linked : Linked (λ p. process_at t p 0) (λ p. process_at t p 1) (get_or t 2 0) 0 m.running (get_or t 3 0)
    running_linked =
        let o = running_zero L in
        as_listed_linked _ _ _ 0 m.running _ (o, L.running.once) (record {
          first_of = s.table.at (Header 2) (omega arith) ∙ first_is 0 m.running;
          last_of = s.table.at (Header 3) (omega arith) ∙ last_is 0 m.running o;
          next_of = λ x i. (let c = L.running.only x i in process_is x 0 c.0 (omega arith) ∙ rw (at_home L x c.0 (omega (arith, c.1))));
          previous_of = λ x i. (let c = L.running.only x i in process_is x 1 c.0 (omega arith) ∙ rw (at_home L x c.0 (omega (arith, c.1))));
        })

    pub waiters_linked : (k : ℕ) → Range (semaphores m) k
        → Linked (λ p. process_at t p 0) (λ p. process_at t p 1) (semaphore_at t k 1) 0 (m.waiters k) (semaphore_at t k 2)
    waiters_linked k r =
        let e = L.semaphore_queues k r in
        let o = waiters_zero L k r in
        let qe = process_queue_is m k r.0 in
        as_listed_linked _ _ _ 0 (m.waiters k) _ (o, e.once) (record {
          first_of = semaphore_is k 1 r (omega arith) ∙ rw qe (first_is 0 (m.waiters k));
          last_of = semaphore_is k 2 r (omega arith) ∙ rw qe (last_is 0 (m.waiters k) o);
          next_of = λ x i. (let c = e.only x i in process_is x 0 c.0 (omega arith) ∙ rw (c.2, qe));
          previous_of = λ x i. (let c = e.only x i in process_is x 1 c.0 (omega arith) ∙ rw (c.2, qe));
        })

    pub event_linked : (p : ℕ) → Range m.P p → Linked (λ b. buffer_at t b 0) (λ b. buffer_at t b 1) (process_at t p 2) 0 (m.events p) (process_at t p 3)
    event_linked p r =
        let e = L.events p r in
        let o = event_zero L p r in
        let qe = queue_is m p r.0 in
        as_listed_linked _ _ _ 0 (m.events p) _ (o, e.once) (record {
          first_of = process_is p 2 r (omega arith) ∙ rw qe (first_is 0 (m.events p));
          last_of = process_is p 3 r (omega arith) ∙ rw qe (last_is 0 (m.events p) o);
          next_of = λ x i. (let c = e.only x i in buffer_is x 0 c.0 (omega arith) ∙ rw (home_queued m.buffer x p c.1, qe));
          previous_of = λ x i. (let c = e.only x i in buffer_is x 1 c.0 (omega arith) ∙ rw (home_queued m.buffer x p c.1, qe));
        })

    off_run : (p : ℕ) → Range m.P p → (m.process p 4 ≡ 1 → ⊥) → (m.process p 4 ≡ 5 → ⊥) → (process_at t p 0 ≡ 0) × (process_at t p 1 ≡ 0)
    off_run p r n k =
        let o : Out p m.running = λ i. n (L.running.only p i).1 in
        let h = at_home L p r k in (
          process_is p 0 r (omega arith) ∙ rw h (next_out 0 m.running p (omega arith) o),
          process_is p 1 r (omega arith) ∙ rw h (previous_out 0 m.running p (omega arith) o),
        )

    off_event : (b : ℕ) → Range m.B b → (m.buffer b 4 ≡ 1 → ⊥) → (m.buffer b 4 ≡ 3 → ⊥) → (buffer_at t b 0 ≡ 0) × (buffer_at t b 1 ≡ 0)
    off_event b r n k =
        let h = home_0 m.buffer b n k in (
          buffer_is b 0 r (omega arith) ∙ rw h,
          buffer_is b 1 r (omega arith) ∙ rw h (no_same 0 b _ _ (omega arith)),
        )

    pub shows_sound : Sound t
    shows_sound =
        let a = shows_agree in
        let L' = legal_agree a L in
        record {
          long = rw (P_is, B_is, S_is) s.table.long;
          semaphore_zero = λ k r. semaphore_is k 3 (rw S_is at r) (omega arith);
          fixed = L'.fixed;
          header = L'.header;
          process = L'.process;
          buffer = L'.buffer;
          running = record { q = m.running; is = record { linked = running_linked; exact = L'.running }; falls = L'.falls };
          off_running =
              λ p r n o. (let k = rw P_is at r in let e₄ = a.process p 4 k (omega arith) (omega arith) in off_run p k (λ e. n (e₄ ∙ e)) (λ e. o (e₄ ∙ e)));
          semaphore_queues =
              λ k r.
              record {
                q = m.waiters k;
                is = record { linked = waiters_linked k (rw S_is at r); exact = L'.semaphore_queues k r };
                counter = L'.counters k r;
              };
          events = λ p r. record { q = m.events p; is = record { linked = event_linked p (rw P_is at r); exact = L'.events p r } };
          off_events =
              λ b r n o. (let k = rw B_is at r in let e₄ = a.buffer b 4 k (omega arith) (omega arith) in off_event b k (λ e. n (e₄ ∙ e)) (λ e. o (e₄ ∙ e)));
          idle = λ p r e. (let k = rw P_is at r in process_is p 2 k (omega arith) ∙ rw (queue_is m p k.0, L'.idle p r e));
          awaits = L'.awaits;
          waits = L'.waits;
          lowers = L'.lowers;
          keeps = L'.keeps;
          waiters = L'.waiters;
        }

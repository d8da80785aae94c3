-- Words that show a legal machine show every machine that agrees with it as far as there are records. Assumes nothing.
use Prim.Native.Nat.{ℕ, zero, suc, ◌≤◌}
use native.Mathlib.Omega.{arith}
use mathlib.Core.List.{List}
use mathlib.Core.Path.{◌≡◌, refl, sym, ap, subst, ◌∙◌}
use lib.ListN.{get_or}
use Rattle.machine.specs.Queue.{next, previous, Range}
use Rattle.machine.specs.Machine.{Machine, state, semaphores}
use Rattle.machine.specs.Legal.{Legal}
use Rattle.machine.specs.Words.{Place, Header, Process, Buffer, Semaphore, index, Has, queue, process_queue, links, home, word, Shows}
use Rattle.lists.proofs.Links.{cases}
use Rattle.laws.proofs.Decoded.{home_1, home_3, home_0}
use Rattle.laws.proofs.Agree.{Agree}
use Rattle.logs.proofs.Respect.{pw, bw}

module _ {m n : Machine} (L : Legal m) (a : Agree m n) where
  -- the queues that words name
  queue_a : (p : ℕ) → (1 ≤ p → p ≤ m.P) → queue n p ≡ queue m p
  queue_a zero h = refl
  queue_a (suc p) h = a.events (suc p) (omega arith, h (omega arith))

  process_queue_a : (s : ℕ) → s ≤ semaphores m → process_queue n s ≡ process_queue m s
  process_queue_a zero h = a.running
  process_queue_a (suc s) h = a.waiters (suc s) (omega arith, h)

  module _ (p : ℕ) (r : Range m.P p) where
    named : m.process p 15 ≤ semaphores m
    named = cases (state m p) 5 (λ e. (L.lowers p r e).1) (λ e. omega (arith, (L.process p r).no_semaphore e))

    process_queue_named : process_queue n (n.process p 15) ≡ process_queue m (m.process p 15)
    process_queue_named = ap (process_queue n) (pw a p 15 r (omega arith)) ∙ process_queue_a (m.process p 15) named

    queue_of : queue n p ≡ queue m p
    queue_of = queue_a p (λ _. r.1)

  module _ (b : ℕ) (r : Range m.B b) where
    home_a : home n.buffer b ≡ home m.buffer b
    unfolding home
    home_a = rw (bw a b 2 r (omega arith), bw a b 3 r (omega arith), bw a b 4 r (omega arith))

    at_home : home m.buffer b ≤ m.P
    at_home =
        cases (m.buffer b 4) 1 (λ e. rw (home_1 m.buffer b e) ((L.buffer b r).taken (λ z. omega (arith, e, z))).0.1)
        (λ i. cases (m.buffer b 4) 3 (λ e. rw (home_3 m.buffer b e) (L.fixed.owned b r).1) (λ j. omega (arith, home_0 m.buffer b i j)))

    queue_home : queue n (home n.buffer b) ≡ queue m (home m.buffer b)
    queue_home = ap (queue n) home_a ∙ queue_a (home m.buffer b) (λ _. at_home)

  word_a : (l : Place) → Has m.P m.B (semaphores m) l → word n (links n) l ≡ word m (links m) l
  word_a (Header zero) h = a.P
  word_a (Header (suc zero)) h = a.B
  word_a (Header (suc (suc zero))) h = ap (λ (q : List ℕ). next q 0) a.running
  word_a (Header (suc (suc (suc zero)))) h = ap (λ (q : List ℕ). previous q 0) a.running
  word_a (Header (suc (suc (suc (suc zero))))) h = a.header.0
  word_a (Header (suc (suc (suc (suc (suc zero)))))) h = a.header.1
  word_a (Header (suc (suc (suc (suc (suc (suc zero))))))) h = a.header.2
  word_a (Header (suc (suc (suc (suc (suc (suc (suc zero)))))))) h = a.header.3
  word_a (Header (suc (suc (suc (suc (suc (suc (suc (suc d))))))))) h = a.device d (omega arith)
  word_a (Process p zero) h = ap (λ (q : List ℕ). next q p) (process_queue_named p (h.0, h.1))
  word_a (Process p (suc zero)) h = ap (λ (q : List ℕ). previous q p) (process_queue_named p (h.0, h.1))
  word_a (Process p (suc (suc zero))) h = ap (λ (q : List ℕ). next q 0) (queue_of p (h.0, h.1))
  word_a (Process p (suc (suc (suc zero)))) h = ap (λ (q : List ℕ). previous q 0) (queue_of p (h.0, h.1))
  word_a (Process p (suc (suc (suc (suc f))))) h = a.process p (suc (suc (suc (suc f)))) (h.0, h.1) (omega arith) h.2
  word_a (Buffer b zero) h = ap (λ (q : List ℕ). next q b) (queue_home b (h.0, h.1))
  word_a (Buffer b (suc zero)) h = ap (λ (q : List ℕ). previous q b) (queue_home b (h.0, h.1))
  word_a (Buffer b (suc (suc g))) h = a.buffer b (suc (suc g)) (h.0, h.1) (omega arith) h.2
  word_a (Semaphore s zero) h = a.counter s (h.0, h.1)
  word_a (Semaphore s (suc zero)) h = ap (λ (q : List ℕ). next q 0) (process_queue_a s h.1)
  word_a (Semaphore s (suc (suc zero))) h = ap (λ (q : List ℕ). previous q 0) (process_queue_a s h.1)
  word_a (Semaphore s (suc (suc (suc k)))) h = refl

  pub shows_alike : {u : List ℕ} → Shows u m → Shows u n
  shows_alike {u} s =
      record {
        table = record {
          long = rw (a.P, a.B, a.header.1) s.table.long;
          at = λ l h. (let j = has l h in
              ap (λ (x : ℕ). get_or u (index x n.B l) 0) a.P ∙ ap (λ (x : ℕ). get_or u (index m.P x l) 0) a.B ∙ s.table.at l j ∙ sym (word_a l j));
          beyond = rw (a.P, a.B, a.header.1) (s.table.beyond ∙ sym a.beyond);
        };
      }
    where
      has : (l : Place) → Has n.P n.B (semaphores n) l → Has m.P m.B (semaphores m) l
      has l h =
          let few = subst (λ (x : ℕ). Has x n.B (semaphores n) l) a.P h in
          subst (λ (x : ℕ). Has m.P m.B x l) a.header.1 (subst (λ (x : ℕ). Has m.P x (semaphores n) l) a.B few)

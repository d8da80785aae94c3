-- A word that is no link, stored: what the table shows then. Assumes nothing.
use Prim.Native.Nat.{ℕ, zero, suc, ◌+◌, ◌-◌, ◌≤◌, ◌<◌}
use native.Mathlib.Omega.{arith}
use mathlib.Core.List.{List}
use mathlib.Core.Path.{◌≡◌, refl, sym, ap, ap₂, subst, ◌∙◌}
use lib.ListN.{get_or, set}
use Rattle.machine.specs.Queue.{at, Range, Out, next, previous}
use Rattle.machine.specs.Machine.{Machine, semaphores, up, at₂, put_process, put_buffer, with_semaphore, put_devices, put_device, put_semaphore}
use Rattle.machine.specs.Moves.{off_device, off_semaphore}
use Rattle.machine.specs.Words.{Place, Header, Process, Buffer, Semaphore, index, queue, process_queue, links, home, process_word, buffer_word}
use Rattle.machine.specs.Words.{semaphore_word, word, ShowsLinks, Shows}
use Rattle.lists.proofs.Links.{cases, yes_same, refl_same, no_same, next_out, previous_out}
use Rattle.laws.proofs.Decoded.{plain_process, plain_buffer}
use Rattle.table.specs.Fits.{PlainWord, IsSemaphore, IsBuffer, InNoQueue, InNoProcessQueue, MayName}
use Rattle.table.specs.Links.{put_counter}
use Rattle.table.proofs.Store.{HasOf, stored, reword, buffer_stands}
use Rattle.table.proofs.Home.{home_within, home_other, home_message}
use Rattle.lists.proofs.Lists.{field_here, field_else}

-- a machine with the queues of another has its links
queue_same : (m n : Machine) → m.events ≡ n.events → (p : ℕ) → queue m p ≡ queue n p
queue_same m n e zero = refl
queue_same m n e (suc p) = rw e

process_queue_same : (m n : Machine) → m.running ≡ n.running → m.waiters ≡ n.waiters → (s : ℕ) → process_queue m s ≡ process_queue n s
process_queue_same m n r w zero = r
process_queue_same m n r w (suc s) = rw w

with_links : {t : List ℕ} (m n : Machine) → m.running ≡ n.running → m.waiters ≡ n.waiters → m.events ≡ n.events → ShowsLinks t n (links m) → Shows t n
with_links {t} m n r w e =
    let q = queue_same m n e in
    let l = process_queue_same m n r w in
    subst (ShowsLinks t n)
    (λ i.
    record {
      process_next = λ s. next (l s i);
      process_previous = λ s. previous (l s i);
      event_next = λ p. next (q p i);
      event_previous = λ p. previous (q p i);
    })

-- records whose plain words are the same
process_same : (a b x y c d : ℕ) (w u : ℕ → ℕ) (f : ℕ) → a ≡ x → b ≡ y → w f ≡ u f → process_word a b c d w f ≡ process_word x y c d u f
process_same a b x y c d w u zero p q e = p
process_same a b x y c d w u (suc zero) p q e = q
process_same a b x y c d w u (suc (suc zero)) p q e = refl
process_same a b x y c d w u (suc (suc (suc zero))) p q e = refl
process_same a b x y c d w u (suc (suc (suc (suc f)))) p q e = e

record_same : (l k q r : List ℕ) (x : ℕ) (w u : ℕ → ℕ) (f : ℕ) → l ≡ k → q ≡ r → w f ≡ u f
    → process_word (next l x) (previous l x) (next q 0) (previous q 0) w f ≡ process_word (next k x) (previous k x) (next r 0) (previous r 0) u f
record_same l k q r x w u zero a b e = ap (λ (z : List ℕ). next z x) a
record_same l k q r x w u (suc zero) a b e = ap (λ (z : List ℕ). previous z x) a
record_same l k q r x w u (suc (suc zero)) a b e = ap (λ (z : List ℕ). next z 0) b
record_same l k q r x w u (suc (suc (suc zero))) a b e = ap (λ (z : List ℕ). previous z 0) b
record_same l k q r x w u (suc (suc (suc (suc f)))) a b e = e

buffer_same : (a b c d : ℕ) (w u : ℕ → ℕ) (g : ℕ) → a ≡ c → b ≡ d → w g ≡ u g → buffer_word a b w g ≡ buffer_word c d u g
buffer_same a b c d w u zero p q e = p
buffer_same a b c d w u (suc zero) p q e = q
buffer_same a b c d w u (suc (suc g)) p q e = rw e

-- ---- a word of a process: the links stay where it names the same queue, or where it is in none
-- the links of y in m are those that it has where the processes' words are k
record Names (m : Machine) (k : ℕ → ℕ → ℕ) (y : ℕ) : Type 0 where
  names_next : next (process_queue m (m.process y 15)) y ≡ next (process_queue m (k y 15)) y
  names_previous : previous (process_queue m (m.process y 15)) y ≡ previous (process_queue m (k y 15)) y

names_same : (m : Machine) (k : ℕ → ℕ → ℕ) (y : ℕ) → k y 15 ≡ m.process y 15 → Names m k y
names_same m k y e =
    record { names_next = ap (λ (h : ℕ). next (process_queue m h) y) (sym e); names_previous = ap (λ (h : ℕ). previous (process_queue m h) y) (sym e) }

names_out : (m : Machine) (k : ℕ → ℕ → ℕ) (y : ℕ) → InNoProcessQueue y m → m.process y 15 ≤ semaphores m → k y 15 ≤ semaphores m → Names m k y
names_out m k y o before after =
    let n : y ≡ 0 → ⊥ = omega (arith, o.is.0) in
    let h = m.process y 15 in
    let j = k y 15 in
    record {
      names_next = next_out 0 (process_queue m h) y n (out h before) ∙ sym (next_out 0 (process_queue m j) y n (out j after));
      names_previous = previous_out 0 (process_queue m h) y n (out h before) ∙ sym (previous_out 0 (process_queue m j) y n (out j after));
    }
  where
    out : (s : ℕ) → s ≤ semaphores m → Out y (process_queue m s)
    out zero l = o.runs
    out (suc s) l = o.semaphore_queues (suc s) (omega arith, l)

-- ---- a word of a process, a device word, a counter
module _ {t : List ℕ} {m : Machine} (s : Shows t m) where
  word_stored : (p f x : ℕ) → Range m.P p → 4 ≤ f → f < 16 → ((y : ℕ) → Names m (at₂ m.process p f x) y)
      → Shows (set t (index (get_or t 0 0) (get_or t 1 0) (Process p f)) x) (put_process p f x m)
  word_stored p f x r low high names =
      with_links m (put_process p f x m) refl refl refl
      (record {
        table = stored s (Process p f) x (r.0, r.1, high)
            (plain_process _ _ _ _ (at₂ m.process p f x p) f low ∙ field_here m.process p f x)
            (λ j o. else j);
      })
    where
      else : (j : Place) → (j ≡ Process p f → ⊥) → word m (links m) j ≡ word (put_process p f x m) (links m) j
      else (Header i) n = refl
      else (Process q g) n =
          process_same _ _ _ _ _ _ (m.process q) (at₂ m.process p f x q) g (names q).names_next (names q).names_previous
          (sym (field_else m.process p f x q g (λ a b. n (cc))))
      else (Buffer b g) n = refl
      else (Semaphore k h) n = refl

  pub process_stored : (p f x : ℕ) → PlainWord p f m → Shows (set t (index (get_or t 0 0) (get_or t 1 0) (Process p f)) x) (put_process p f x m)
  process_stored p f x h =
      word_stored p f x h.0 h.1 (omega arith) (λ y. names_same m _ y (field_else m.process p f x y 15 (λ a b. omega (arith, h.2))))

  -- the word that names a semaphore, of a process in no queue
  pub named_stored : (p x : ℕ) → MayName p x m → Shows (set t (index (get_or t 0 0) (get_or t 1 0) (Process p 15)) x) (put_process p 15 x m)
  named_stored p x h =
      word_stored p 15 x h.0.is (omega arith) (omega arith)
      (λ y. cases y p
      (λ e. rw e (names_out m _ p h.0 h.1 (rw refl_same h.2)))
      (λ n. names_same m _ y (field_else m.process p 15 x y 15 (λ a b. n a))))

  pub device_stored : (d x : ℕ) → d < 64 → Shows (set t (8 + d) x) (put_device d x m)
  device_stored d x h =
      let i : 8 + d ≡ suc (suc (suc (suc (suc (suc (suc (suc d))))))) = omega arith in
      rw i
      (with_links m (put_device d x m) refl refl refl
      (record { table = stored s (Header (suc (suc (suc (suc (suc (suc (suc (suc d))))))))) x (omega arith) (refl_same d x (m.device d)) (λ j o. else j) }))
    where
      else : (j : Place) → (j ≡ Header (suc (suc (suc (suc (suc (suc (suc (suc d)))))))) → ⊥) → word m (links m) j ≡ word (put_device d x m) (links m) j
      else (Header zero) n = refl
      else (Header (suc zero)) n = refl
      else (Header (suc (suc zero))) n = refl
      else (Header (suc (suc (suc zero)))) n = refl
      else (Header (suc (suc (suc (suc zero))))) n = refl
      else (Header (suc (suc (suc (suc (suc zero)))))) n = refl
      else (Header (suc (suc (suc (suc (suc (suc zero))))))) n = refl
      else (Header (suc (suc (suc (suc (suc (suc (suc zero)))))))) n = refl
      else (Header (suc (suc (suc (suc (suc (suc (suc (suc e))))))))) n = sym (no_same e d x (m.device e) (λ k. n (cc)))
      else (Process p f) n = refl
      else (Buffer b g) n = refl
      else (Semaphore k h) n = refl

  pub counter_stored : (k x : ℕ) → IsSemaphore k m → Shows (set t (index (get_or t 0 0) (get_or t 1 0) (Semaphore k 0)) x) (put_counter k x m)
  counter_stored k x r =
      with_links m (put_counter k x m) refl refl refl
      (record { table = stored s (Semaphore k 0) x (r.0, r.1, omega arith) (refl_same k x (m.counter k)) (λ j o. else j) })
    where
      else : (j : Place) → (j ≡ Semaphore k 0 → ⊥) → word m (links m) j ≡ word (put_counter k x m) (links m) j
      else (Header i) n = refl
      else (Process p f) n = refl
      else (Buffer b g) n = refl
      else (Semaphore y zero) n = sym (no_same y k x (m.counter y) (λ e. n (cc)))
      else (Semaphore y (suc zero)) n = refl
      else (Semaphore y (suc (suc zero))) n = refl
      else (Semaphore y (suc (suc (suc h)))) n = refl

-- the queue put back as it is
as_it_is : {A : Type 0} (f : ℕ → A) (s k : ℕ) → f k ≡ at f s (f s) k
as_it_is f s k = cases k s (λ e. rw e (sym (refl_same s (f s) (f s)))) (λ n. sym (no_same k s (f s) (f k) n))

pub counter_shown : {t : List ℕ} (m : Machine) (s x : ℕ) → Shows t (put_counter s x m) → Shows t (put_semaphore s x (m.waiters s) m)
counter_shown {t} m s x = subst (λ (w : ℕ → List ℕ). Shows t (with_semaphore (at m.counter s x) w m)) (λ i k. as_it_is m.waiters s k i)

-- ---- the device word that a wait ends with
module _ {t : List ℕ} (m : Machine) (p : ℕ) where
  -- device words that are the same
  devices_same : (f g : ℕ → ℕ) → ((d : ℕ) → f d ≡ g d) → Shows t (put_devices f m) → Shows t (put_devices g m)
  devices_same f g e = subst (λ (h : ℕ → ℕ). Shows t (put_devices h m)) (λ i d. e d i)

  -- p waits for no device
  pub off_none : m.process p 8 ≡ 0 → Shows t m → Shows t (off_device p m)
  off_none e = devices_same m.device _ (λ d. rw e (sym (no_same (suc d) 0 0 (m.device d) (omega arith))))

  -- p waits for the device w - 1
  pub off_one : {w : ℕ} → w ≡ m.process p 8 → (w ≡ 0 → ⊥) → Shows t (put_device (w - 1) 0 m) → Shows t (off_device p m)
  off_one {w} e some =
      devices_same _ _
      (λ d. rw (sym e)
      (cases d (w - 1)
      (λ y. yes_same d (w - 1) 0 (m.device d) y ∙ sym (yes_same (suc d) w 0 (m.device d) (omega arith)))
      (λ n. no_same d (w - 1) 0 (m.device d) n ∙ sym (no_same (suc d) w 0 (m.device d) (omega arith)))))

-- ---- p waits for no semaphore: there is no semaphore 0
module _ (m : Machine) (p : ℕ) (none : m.process p 15 ≡ 0) where
  word_same : (y f : ℕ) → m.process y f ≡ at₂ m.process p 15 0 y f
  word_same y f =
      cases y p
      (λ a. cases f 15
      (λ b. rw (a, b) (none ∙ sym (field_here m.process p 15 0)))
      (λ n. sym (field_else m.process p 15 0 y f (λ _ b. n b))))
      (λ n. sym (field_else m.process p 15 0 y f (λ a _. n a)))

  process_queues_same : (s : ℕ) → process_queue m s ≡ process_queue (off_semaphore p m) s
  process_queues_same zero = refl
  process_queues_same (suc s) = sym (no_same (suc s) (m.process p 15) _ (m.waiters (suc s)) (omega (arith, none)))

  words_same : (j : Place) → HasOf m j → word m (links m) j ≡ word (off_semaphore p m) (links (off_semaphore p m)) j
  words_same (Header i) o = refl
  words_same (Process q f) o =
      record_same (process_queue m (m.process q 15)) (process_queue (off_semaphore p m) (at₂ m.process p 15 0 q 15)) (queue m q)
      (queue (off_semaphore p m) q) q
      (m.process q) (at₂ m.process p 15 0 q) f
      (ap (process_queue m) (word_same q 15) ∙ process_queues_same (at₂ m.process p 15 0 q 15)) (queue_same m (off_semaphore p m) refl q) (word_same q f)
  words_same (Buffer b g) o =
      ap (λ (l : List ℕ). buffer_word (next l b) (previous l b) (m.buffer b) g) (queue_same m (off_semaphore p m) refl (home m.buffer b))
  words_same (Semaphore s h) o =
      let c : m.counter s ≡ at m.counter (m.process p 15) (up (m.counter (m.process p 15))) s =
      sym (no_same s (m.process p 15) _ (m.counter s) (omega (arith, none))) in
      ap₂ (λ (x : ℕ) (l : List ℕ). semaphore_word x (next l 0) (previous l 0) h) c (process_queues_same s)

  pub off_no_semaphore : {t : List ℕ} → Shows t m → Shows t (off_semaphore p m)
  off_no_semaphore s = record { table = reword words_same s.table }

-- ---- a word of a buffer: the links stay where its home does, or where it is in no queue
-- the links of y in m are those that it has where the buffers' words are k
record Stays (m : Machine) (k : ℕ → ℕ → ℕ) (y : ℕ) : Type 0 where
  stays_next : next (queue m (home m.buffer y)) y ≡ next (queue m (home k y)) y
  stays_previous : previous (queue m (home m.buffer y)) y ≡ previous (queue m (home k y)) y

stays_home : (m : Machine) (k : ℕ → ℕ → ℕ) (y : ℕ) → home k y ≡ home m.buffer y → Stays m k y
stays_home m k y e = record { stays_next = ap (λ (h : ℕ). next (queue m h) y) (sym e); stays_previous = ap (λ (h : ℕ). previous (queue m h) y) (sym e) }

stays_out : (m : Machine) (k : ℕ → ℕ → ℕ) (y : ℕ) → InNoQueue y m → home k y ≤ m.P → Stays m k y
stays_out m k y o high =
    let n : y ≡ 0 → ⊥ = omega (arith, o.is.0) in
    let h = home m.buffer y in
    let j = home k y in
    let a = out h (home_within m.buffer y m.P o.owned o.received) in
    let b = out j high in
    record {
      stays_next = next_out 0 (queue m h) y n a ∙ sym (next_out 0 (queue m j) y n b);
      stays_previous = previous_out 0 (queue m h) y n a ∙ sym (previous_out 0 (queue m j) y n b);
    }
  where
    out : (p : ℕ) → p ≤ m.P → Out y (queue m p)
    out zero l = λ i. i
    out (suc p) l = o.out (suc p) (omega arith, l)

module _ {t : List ℕ} {m : Machine} (s : Shows t m) (b g x : ℕ) (r : Range m.B b) where
  buffer_stored : 2 ≤ g → g < 10 → ((y : ℕ) → Stays m (at₂ m.buffer b g x) y)
      → Shows (set t (index (get_or t 0 0) (get_or t 1 0) (Buffer b g)) x) (put_buffer b g x m)
  buffer_stored low high stays =
      with_links m (put_buffer b g x m) refl refl refl
      (record {
        table = stored s (Buffer b g) x (r.0, r.1, high)
            (plain_buffer _ _ (at₂ m.buffer b g x b) g low ∙ field_here m.buffer b g x)
            (λ j o. else j);
      })
    where
      else : (j : Place) → (j ≡ Buffer b g → ⊥) → word m (links m) j ≡ word (put_buffer b g x m) (links m) j
      else (Header i) n = refl
      else (Process p f) n = refl
      else (Buffer y k) n =
          buffer_same _ _ _ _ (m.buffer y) (at₂ m.buffer b g x y) k (stays y).stays_next (stays y).stays_previous
          (sym (field_else m.buffer b g x y k (λ a c. n (cc))))
      else (Semaphore k h) n = refl

  -- the age, or a word of the message
  pub content_stored : 5 ≤ g → g < 10 → Shows (set t (index (get_or t 0 0) (get_or t 1 0) (Buffer b g)) x) (put_buffer b g x m)
  content_stored low high =
      buffer_stored (omega arith) high
      (λ y. stays_home m _ y (home_message m.buffer b g x (omega arith) y))

  -- a word of a buffer in no queue, which has no home there afterwards either
  loose_stored : 2 ≤ g → g < 5 → InNoQueue b m → home (at₂ m.buffer b g x) b ≤ m.P
      → Shows (set t (index (get_or t 0 0) (get_or t 1 0) (Buffer b g)) x) (put_buffer b g x m)
  loose_stored low high out within =
      buffer_stored low (omega arith)
      (λ y. cases y b (λ e. rw e (stays_out m _ b out within)) (λ n. stays_home m _ y (home_other m.buffer b g x y n)))

module _ {t : List ℕ} {m : Machine} (s : Shows t m) (b x : ℕ) (o : InNoQueue b m) where
  pub standing_stored : Shows (set t (index (get_or t 0 0) (get_or t 1 0) (Buffer b 4)) x) (put_buffer b 4 x m)
  standing_stored = loose_stored s b 4 x o.is (omega arith) (omega arith) o (home_within _ b m.P o.owned o.received)

  pub receiver_stored : x ≤ m.P → Shows (set t (index (get_or t 0 0) (get_or t 1 0) (Buffer b 3)) x) (put_buffer b 3 x m)
  receiver_stored high = loose_stored s b 3 x o.is (omega arith) (omega arith) o (home_within _ b m.P o.owned (rw refl_same high))

-- the same, of a buffer whose record starts at index i
module _ {t : List ℕ} {m : Machine} (s : Shows t m) (b : ℕ) where
  pub content_at : (g i x : ℕ) → IsBuffer b m → 5 ≤ g → g < 10 → i ≡ index m.P m.B (Buffer b 0) → Shows (set t (i + g) x) (put_buffer b g x m)
  content_at g i x r low high e = rw (buffer_stands b g i s e) (content_stored s b g x r low high)

  pub standing_at : (i x : ℕ) → InNoQueue b m → i ≡ index m.P m.B (Buffer b 0) → Shows (set t (i + 4) x) (put_buffer b 4 x m)
  standing_at i x o e = rw (buffer_stands b 4 i s e) (standing_stored s b x o)

  pub no_receiver_at : (i : ℕ) → InNoQueue b m → i ≡ index m.P m.B (Buffer b 0) → Shows (set t (i + 3) 0) (put_buffer b 3 0 m)
  no_receiver_at i o e = rw (buffer_stands b 3 i s e) (receiver_stored s b 0 o (omega arith))

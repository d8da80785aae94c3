-- docs/MONITOR.md, 11: words that show machines which are the same but for the order inside third event queues and the running queue are the same but for
-- the links and ends of those queues. Assumes nothing.
use Prim.Native.Nat.{ℕ, zero, suc, ◌≤◌, ◌<◌}
use native.Mathlib.Omega.{arith}
use mathlib.Core.List.{List, []}
use mathlib.Core.Logic.{inl, inr, ⊎_elim}
use mathlib.Core.Path.{◌≡◌, refl, sym, ap, ◌∙◌}
use lib.ListN.{length, length-drop}
use Rattle.machine.specs.Queue.{Range, Out, next, previous}
use Rattle.machine.specs.Machine.{Machine, state, standing, semaphore, semaphores}
use Rattle.machine.specs.Legal.{Legal, Queued}
use Rattle.machine.specs.Words.{Place, Header, Process, Buffer, Semaphore, Has, size, queue, process_queue, links, home, word, Shows}
use Rattle.machine.specs.Sound.{P_of, B_of, S_of, word_at, process_at, buffer_at}
use Rattle.theorems.specs.SameBut.{SameBut, MayDiffer, SameWords}
use Rattle.lists.proofs.Links.{cases, refl_same, next_out, previous_out}
use Rattle.laws.proofs.Decoded.{queue_is, process_queue_is, home_0, shows_agree}
use Rattle.theorems.proofs.CleanOrder.{exact_reordered}

-- ---- the word at each place, of two machines
module _ {p q : ℕ} {m n : Machine} (S : SameBut p q m n) (L : Legal m) (K : Legal n) where
  -- one may not differ, by the first machine's states and standings
  abbrev Agrees : Place → Type 0
  Agrees l = MayDiffer p q (state m) (standing m) l → ⊥

  same_header : (i : ℕ) → i < 72 → Agrees (Header i) → word m (links m) (Header i) ≡ word n (links n) (Header i)
  same_header zero h o = S.P
  same_header (suc zero) h o = S.B
  same_header (suc (suc zero)) h o = absurd (o (inl refl))
  same_header (suc (suc (suc zero))) h o = absurd (o (inr refl))
  same_header (suc (suc (suc (suc zero)))) h o = ap (λ (f : ℕ → ℕ). f 4) S.header
  same_header (suc (suc (suc (suc (suc zero))))) h o = ap (λ (f : ℕ → ℕ). f 5) S.header
  same_header (suc (suc (suc (suc (suc (suc zero)))))) h o = ap (λ (f : ℕ → ℕ). f 6) S.header
  same_header (suc (suc (suc (suc (suc (suc (suc zero))))))) h o = ap (λ (f : ℕ → ℕ). f 7) S.header
  same_header (suc (suc (suc (suc (suc (suc (suc (suc d)))))))) h o = S.device d

  -- what is read of the queue in which a process stands that doesn't run: nothing, where it stands in none
  same_link : (a : ℕ) (read : List ℕ → ℕ) → ((l : List ℕ) → Out a l → read l ≡ 0) → Range m.P a → (state m a ≡ 1 → ⊥)
      → read (process_queue m (semaphore m a)) ≡ read (process_queue n (semaphore n a))
  same_link a read none r o =
      cases (state m a) 5
      (λ e. (let k = L.lowers a r e in
      ap read (process_queue_is m _ k.0 ∙ S.waiters _ k ∙ sym (process_queue_is n _ k.0)) ∙ ap (λ (s : ℕ). read (process_queue n s)) (S.process a 15)))
      (λ f. (let z = (L.process a r).no_semaphore f in
      ap (λ (s : ℕ). read (process_queue m s)) z ∙ none m.running (λ i. o (L.running.only a i).1)
      ∙ sym (ap (λ (s : ℕ). read (process_queue n s)) (sym (S.process a 15) ∙ z) ∙ none n.running (λ i. o (S.process a 4 ∙ (K.running.only a i).1)))))

  -- what is read of the event queue of p or q
  same_ends : (a : ℕ) (read : List ℕ → ℕ) → Range m.P a → ((a ≡ p → ⊥) → (a ≡ q → ⊥) → ⊥) → read (queue m a) ≡ read (queue n a)
  same_ends a read r o =
      let e = S.emptied in
      ap read (queue_is m a r.0
      ∙ cases a p (λ z. rw z (e.0 ∙ sym e.1)) (λ k. cases a q (λ z. rw z (e.2 ∙ sym e.3)) (λ z. absurd (o k z)))
      ∙ sym (queue_is n a r.0))

  same_process : (a f : ℕ) → Range m.P a → Agrees (Process a f) → word m (links m) (Process a f) ≡ word n (links n) (Process a f)
  same_process a zero r o = same_link a (λ l. next l a) (λ l i. next_out 0 l a (omega arith) i) r (λ e. o (inl (omega arith, e)))
  same_process a (suc zero) r o = same_link a (λ l. previous l a) (λ l i. previous_out 0 l a (omega arith) i) r (λ e. o (inl (omega arith, e)))
  same_process a (suc (suc zero)) r o = same_ends a (λ l. next l 0) r (λ k z. o (inr ((omega arith, omega arith), k, z)))
  same_process a (suc (suc (suc zero))) r o = same_ends a (λ l. previous l 0) r (λ k z. o (inr ((omega arith, omega arith), k, z)))
  same_process a (suc (suc (suc (suc f)))) r o = S.process a (suc (suc (suc (suc f))))

  -- what is read of the event queue of a buffer that stands in none
  same_home : (b : ℕ) (read : List ℕ → ℕ) → Range m.B b → (standing m b ≡ 1 → ⊥) → (standing m b ≡ 3 → ⊥)
      → read (queue m (home m.buffer b)) ≡ read (queue n (home n.buffer b))
  same_home b read r j k =
      let e = S.buffer b 4 r (omega arith) (omega arith) in
      ap (λ (a : ℕ). read (queue m a)) (home_0 m.buffer b j k)
      ∙ sym (ap (λ (a : ℕ). read (queue n a)) (home_0 n.buffer b (λ z. j (e ∙ z)) (λ z. k (e ∙ z))))

  same_buffer : (b g : ℕ) → Range m.B b → g < 10 → Agrees (Buffer b g) → word m (links m) (Buffer b g) ≡ word n (links n) (Buffer b g)
  same_buffer b zero r h o = same_home b (λ l. next l b) r (λ e. o (omega arith, inl e)) (λ e. o (omega arith, inr e))
  same_buffer b (suc zero) r h o = same_home b (λ l. previous l b) r (λ e. o (omega arith, inl e)) (λ e. o (omega arith, inr e))
  same_buffer b (suc (suc g)) r h o = S.buffer b (suc (suc g)) r (omega arith) h

  same_semaphore : (s h : ℕ) → Range (semaphores m) s → word m (links m) (Semaphore s h) ≡ word n (links n) (Semaphore s h)
  same_semaphore s zero r = S.counter s r
  same_semaphore s (suc zero) r = ap (λ (l : List ℕ). next l 0) (process_queue_is m s r.0 ∙ S.waiters s r ∙ sym (process_queue_is n s r.0))
  same_semaphore s (suc (suc zero)) r = ap (λ (l : List ℕ). previous l 0) (process_queue_is m s r.0 ∙ S.waiters s r ∙ sym (process_queue_is n s r.0))
  same_semaphore s (suc (suc (suc h))) r = refl

  same_word : (l : Place) → Has m.P m.B (semaphores m) l → Agrees l → word m (links m) l ≡ word n (links n) l
  same_word (Header i) h o = same_header i h o
  same_word (Process a f) h o = same_process a f (h.0, h.1) o
  same_word (Buffer b g) h o = same_buffer b g (h.0, h.1) h.2 o
  same_word (Semaphore s g) h o = same_semaphore s g (h.0, h.1)

-- ---- the words
module _ {t : List ℕ} {m : Machine} (s : Shows t m) where
  has_is : (l : Place) → Has (P_of t) (B_of t) (S_of t) l → Has m.P m.B (semaphores m) l
  has_is l h = let a = shows_agree s in rw (a.P, a.B, a.header.1) at h

  word_is : (l : Place) → Has m.P m.B (semaphores m) l → word_at t l ≡ word m (links m) l
  word_is l h = let a = shows_agree s in rw (a.P, a.B) (s.table.at l h)

  -- what may differ by the machine's states and standings may by the words'
  differ_is : (p q : ℕ) (l : Place) → Has m.P m.B (semaphores m) l → MayDiffer p q (state m) (standing m) l
      → MayDiffer p q (λ a. process_at t a 4) (λ b. buffer_at t b 4) l
  differ_is p q (Header i) h d = d
  differ_is p q (Process a f) h d = ⊎_elim (λ e. inl (e.0, word_is (Process a 4) (h.0, h.1, omega arith) ∙ e.1)) inr d
  differ_is p q (Buffer b g) h d =
      let e = word_is (Buffer b 4) (h.0, h.1, omega arith) in
      (d.0, ⊎_elim (λ z. inl (e ∙ z)) (λ z. inr (e ∙ z)) d.1)
  differ_is p q (Semaphore k g) h d = d

  -- the ends of an event queue that is empty
  no_ends : (a : ℕ) → Range m.P a → m.events a ≡ [] → (process_at t a 2 ≡ 0) × (process_at t a 3 ≡ 0)
  no_ends a r e =
      let k = queue_is m a r.0 ∙ e in (
        word_is (Process a 2) (r.0, r.1, omega arith) ∙ ap (λ (l : List ℕ). next l 0) k,
        word_is (Process a 3) (r.0, r.1, omega arith) ∙ ap (λ (l : List ℕ). previous l 0) k ∙ refl_same 0 0 0,
      )

module _ {p q : ℕ} {t u : List ℕ} {m n : Machine} (S : SameBut p q m n) (L : Legal m) (K : Legal n) (s : Shows t m) (r : Shows u n) where
  sizes : size m.P m.B (semaphores m) ≡ size n.P n.B (semaphores n)
  sizes = rw (S.P, S.B, S.header) refl

  same_place : (l : Place) → Has (P_of t) (B_of t) (S_of t) l → (MayDiffer p q (λ a. process_at t a 4) (λ b. buffer_at t b 4) l → ⊥)
      → word_at t l ≡ word_at u l
  same_place l h o =
      let k = has_is s l h in
      word_is s l k ∙ same_word S L K l k (λ d. o (differ_is s p q l k d)) ∙ sym (word_is r l (rw (S.P, S.B, S.header) at k))

  same_length : length t ≡ length u
  same_length =
      let e = ap length (s.table.beyond ∙ S.beyond ∙ sym r.table.beyond) in
      omega (arith, sizes, s.table.long, r.table.long, simp length-drop at e)

  plain_word : (b g : ℕ) → Range (B_of t) b → 2 ≤ g → g < 10 → buffer_at t b g ≡ buffer_at u b g
  plain_word b g i l h = same_place (Buffer b g) (i.0, i.1, h) (λ d. omega (arith, d.0))

  state_word : (a : ℕ) → Range (P_of t) a → process_at t a 4 ≡ process_at u a 4
  state_word a i = same_place (Process a 4) (i.0, i.1, omega arith) (⊎_elim (λ d. omega (arith, d.0)) (λ d. omega (arith, d.0)))

  same_P : P_of t ≡ P_of u
  same_P = same_place (Header 0) (omega arith) (⊎_elim (λ e. omega arith) (λ e. omega arith))

  same_B : B_of t ≡ B_of u
  same_B = same_place (Header 1) (omega arith) (⊎_elim (λ e. omega arith) (λ e. omega arith))

  same_queued : (b a : ℕ) → Range (B_of t) b
      → Queued (buffer_at t b 2) (buffer_at t b 3) (buffer_at t b 4) a ≡ Queued (buffer_at u b 2) (buffer_at u b 3) (buffer_at u b 4) a
  same_queued b a i =
      let o = plain_word b 2 i (omega arith) (omega arith) in
      let v = plain_word b 3 i (omega arith) (omega arith) in
      let w = plain_word b 4 i (omega arith) (omega arith) in
      rw (o, v, w) refl

  pub same_words : Range m.P p → Range m.P q → SameWords p q t u
  same_words i j =
      record {
        long = same_length;
        places = same_place;
        beyond = (let a = shows_agree s in rw (a.P, a.B, a.header.1) (s.table.beyond ∙ S.beyond ∙ sym (rw (← sizes) at r.table.beyond)));
        emptied = (let x = no_ends s p i S.emptied.0 in let y = no_ends s q j S.emptied.2 in (x.0, x.1, y.0, y.1));
        same_events = λ a k x y. exact_reordered x.is.exact y.is.exact
            (λ b c. (rw same_B at c.0, rw (same_queued b a c.0) at c.1))
            (λ b c. (let z : Range (B_of t) b = rw same_B c.0 in (z, rw (same_queued b a z) c.1)));
        same_running = λ x y. exact_reordered x.is.exact y.is.exact
            (λ a c. (rw same_P at c.0, sym (state_word a c.0) ∙ c.1))
            (λ a c. (let z : Range (P_of t) a = rw same_P c.0 in (z, state_word a z ∙ c.1)));
      }

-- A buffer's receiver, standing, age, words and place change: the machine stays legal. Assumes nothing.
use Prim.Native.Nat.{ℕ, ◌≤◌}
use native.Mathlib.Omega.{arith}
use mathlib.Core.List.{List, [], ◌∷◌, ◌++◌}
use mathlib.Core.Logic.{◌⊎◌, inl, inr, ⊎_elim}
use mathlib.Core.Path.{◌≡◌, refl, sym, ap, ◌∙◌}
use borrow.Author.Tests.{eq-eqb}
use Rattle.machine.specs.Queue.{at, without, Range, Exact}
use Rattle.machine.specs.Machine.{Machine, with_buffer, put_buffer, state, awaited, owner, receiver, standing, age, Words}
use Rattle.machine.specs.Moves.{write, free, unlink, append}
use Rattle.machine.specs.Step.{grow}
use Rattle.machine.specs.Legal.{Legal, FixedOf, LegalBuffer, Queued, Stands}
use Rattle.lists.proofs.Links.{decide, cases}
use Rattle.lists.proofs.Lists.{at_all, put_last, Beside, exact_put, exact_take, exact_keep}

-- from f to h the words 3 to 9 of b become r, s, a, x, y, z, u; the other buffers' stay, and so do the owners
pub record Marked (f h : ℕ → ℕ → ℕ) (b r s a x y z u : ℕ) : Type 0 where
  pub own : (k : ℕ) → h k 2 ≡ f k 2
  pub new : (h b 3 ≡ r) × (h b 4 ≡ s) × (h b 5 ≡ a) × (h b 6 ≡ x) × (h b 7 ≡ y) × (h b 8 ≡ z) × (h b 9 ≡ u)
  pub old : (k : ℕ) → (k ≡ b → ⊥) → (h k 3 ≡ f k 3) × (h k 4 ≡ f k 4) × (h k 5 ≡ f k 5) × (h k 6 ≡ f k 6) × (h k 7 ≡ f k 7) × (h k 8 ≡ f k 8) × (h k 9 ≡ f k 9)

-- it stands in one queue
pub queued_one : {o r s p k : ℕ} → Queued o r s p → Queued o r s k → k ≡ p
queued_one (inl a) (inl c) = sym c.1 ∙ a.1
queued_one (inl a) (inr c) = absurd (omega arith)
queued_one (inr a) (inl c) = absurd (omega arith)
queued_one (inr a) (inr c) = sym c.1 ∙ a.1

-- the buffers of p's queue but b
abbrev Others : Machine → ℕ → ℕ → ℕ → Type 0
Others m b p y = Range m.B y × (y ≡ b → ⊥) × Queued (owner m y) (receiver m y) (standing m y) p

-- ev holds the event queues without b
pub record Loose (m : Machine) (b : ℕ) (ev : ℕ → List ℕ) : Type 0 where
  pub exact : (p : ℕ) → Range m.P p → Exact (Others m b p) (ev p)
  pub idle : (p : ℕ) → Range m.P p → state m p ≡ 2 → ev p ≡ []

-- its owner does not wait for b
abbrev pub Unawaited : Machine → ℕ → Type 0
Unawaited m b = state m (owner m b) ≡ 3 → awaited m (owner m b) ≡ b → ⊥

module _ {m : Machine} (L : Legal m) {b : ℕ} where
  but : (p : ℕ) → Beside b (Stands m p) (Others m b p)
  but p = record { to = λ y n c. (c.0, n, c.1); from = λ y n c. (c.0, c.2) }

  pub loose_none : ((p : ℕ) → Queued (owner m b) (receiver m b) (standing m b) p → ⊥) → Loose m b m.events
  loose_none n = record { exact = λ p i. exact_keep (but p) (L.events p i) (λ c. absurd (n p c.1)) (λ c. absurd (c.1 refl)); idle = L.idle }

  pub loose_unlink : (p : ℕ) → Queued (owner m b) (receiver m b) (standing m b) p → Loose m b (at m.events p (without b (m.events p)))
  unfolding without
  loose_unlink p q =
      record {
        exact = λ k i. at_all (Exact (Others m b k)) m.events p _ k
            (λ e. rw e (exact_take (but p) (L.events p (rw e at i)) (λ c. c.1 refl)))
            (λ n. exact_keep (but k) (L.events k i) (λ c. absurd (n (queued_one q c.1))) (λ c. absurd (c.1 refl)));
        idle = λ k i s2. at_all (λ (l : List ℕ). l ≡ []) m.events p _ k
            (λ e. ap (without b) (rw e at (L.idle k i s2)))
            (λ n. L.idle k i s2);
      }

module _ {m : Machine} (L : Legal m) {b : ℕ} (i : Range m.B b) (r s v x y z u : ℕ) {h : ℕ → ℕ → ℕ} (t : Marked m.buffer h b r s v x y z u)
    (ok : LegalBuffer m.P (owner m b) r s v x y z u) (aw : ((1 ≤ s) × (s ≤ 2)) ⊎ Unawaited m b) where
  mark : {ev : ℕ → List ℕ} → FixedOf (with_buffer ev h m) → ((p : ℕ) → Range m.P p → Exact (Stands (with_buffer ev h m) p) (ev p))
      → ((p : ℕ) → Range m.P p → state m p ≡ 2 → ev p ≡ []) → Legal (with_buffer ev h m)
  mark fx ex id =
      record {
        fixed = fx;
        header = L.header;
        process = L.process;
        buffer = λ k j. cases k b
            (λ e. rw (e, t.own, t.new.0, t.new.1, t.new.2, t.new.3, t.new.4, t.new.5, t.new.6) ok)
            (λ n. let o = t.old k n in rw (t.own, o.0, o.1, o.2, o.3, o.4, o.5, o.6) (L.buffer k j));
        running = L.running;
        falls = L.falls;
        events = ex;
        idle = id;
        awaits = λ p j e. (let c = L.awaits p j e in
            record {
              is = c.is;
              own = t.own (awaited m p) ∙ c.own;
              queued_or_held = cases (awaited m p) b
                  (λ k. rw (k, t.new.1) (⊎_elim (λ a. a) (λ a. (let o : owner m b ≡ p = rw k at c.own in absurd (a (rw o e) (rw o k)))) aw))
                  (λ n. rw (t.old _ n).1 c.queued_or_held);
            });
        waits = L.waits;
        lowers = L.lowers;
        semaphore_queues = L.semaphore_queues;
        counters = L.counters;
        keeps = L.keeps;
        waiters = L.waiters;
      }

  module _ {ev : ℕ → List ℕ} (l : Loose m b ev) where
    back : (p : ℕ) → Beside b (Others m b p) (Stands (with_buffer ev h m) p)
    back p =
        record {
          to = λ k n c. (c.0, rw (t.own k, (t.old k n).0, (t.old k n).1) c.2);
          from = λ k n c. (c.0, n, rw (t.own k, (t.old k n).0, (t.old k n).1) at c.1);
        }

    -- b in no queue
    pub rest : (s ≡ 1 → ⊥) → (s ≡ 3 → ⊥) → FixedOf (with_buffer ev h m) → Legal (with_buffer ev h m)
    rest n₁ n₃ fx =
        mark fx
        (λ p j. exact_keep (back p) (l.exact p j) (λ c. absurd (c.1 refl))
        (λ c. absurd (⊎_elim (λ e. n₁ (sym t.new.1 ∙ e.0)) (λ e. n₃ (sym t.new.1 ∙ e.0)) c.1))) l.idle

    -- b last in p's queue
    pub last : {p : ℕ} → Queued (owner m b) r s p → (state m p ≡ 2 → ⊥) → FixedOf (with_buffer ev h m) → Legal (with_buffer (at ev p (ev p ++ (b ∷ []))) h m)
    last {p} q n₂ fx =
        mark fx
        (λ k j. at_all (Exact (Stands (with_buffer (at ev p (ev p ++ (b ∷ []))) h m) k)) ev p _ k
        (λ e. rw e (exact_put (back p) (l.exact p (rw e at j)) (put_last b (ev p)) (λ c. c.1 refl) (i, rw (t.own b, t.new.0, t.new.1) q)))
        (λ n. exact_keep (back k) (l.exact k j) (λ c. absurd (c.1 refl)) (λ c. absurd (n (queued_one q (rw (t.own b, t.new.0, t.new.1) at c.1))))))
        (λ k j s2. at_all (λ (l : List ℕ). l ≡ []) ev p _ k (λ e. absurd (n₂ (rw e at s2))) (λ n. l.idle k j s2))

pub unqueued : {o r s : ℕ} → (s ≡ 1 → ⊥) → (s ≡ 3 → ⊥) → (p : ℕ) → Queued o r s p → ⊥
unqueued n₁ n₃ p = ⊎_elim (λ e. n₁ e.0) (λ e. n₃ e.0)

module _ {m : Machine} (L : Legal m) {b : ℕ} (i : Range m.B b) where
  -- a message taken by its receiver
  pub legal_hold : {p : ℕ} → standing m b ≡ 1 → receiver m b ≡ p → Legal (put_buffer b 4 2 (unlink p b m))
  legal_hold {p} s1 to =
      let o = L.buffer b i in
      rest L i (receiver m b) 2 (age m b) (m.buffer b 6) (m.buffer b 7) (m.buffer b 8) (m.buffer b 9)
      (record {
        own = λ k. refl;
        new = simp decide (refl, refl, refl, refl, refl, refl, refl);
        old = λ k n. simp decide (refl, refl, refl, refl, refl, refl, refl);
      })
      (record { standings = omega arith; free = omega arith; taken = λ e. o.taken (omega arith) })
      (inl (omega arith)) (loose_unlink L p (inl (s1, to))) (omega arith) (omega arith) L.fixed

  -- the owner cleaned while b is held
  pub legal_orphan : standing m b ≡ 2 → Unawaited m b → Legal (put_buffer b 4 4 m)
  legal_orphan s2 ua =
      let o = L.buffer b i in
      rest L i (receiver m b) 4 (age m b) (m.buffer b 6) (m.buffer b 7) (m.buffer b 8) (m.buffer b 9)
      (record {
        own = λ k. refl;
        new = simp decide (refl, refl, refl, refl, refl, refl, refl);
        old = λ k n. simp decide (refl, refl, refl, refl, refl, refl, refl);
      })
      (record { standings = omega arith; free = omega arith; taken = λ e. o.taken (omega arith) })
      (inr ua) (loose_none L (unqueued (omega arith) (omega arith))) (omega arith) (omega arith) L.fixed

  pub legal_free : (standing m b ≡ 1 → ⊥) → (standing m b ≡ 3 → ⊥) → Unawaited m b → Legal (free b m)
  legal_free n₁ n₃ ua =
      rest L i 0 0 0 0 0 0 0
      (record {
        own = λ k. refl;
        new = simp decide (refl, refl, refl, refl, refl, refl, refl);
        old = λ k n. simp decide (refl, refl, refl, refl, refl, refl, refl);
      })
      (record { standings = omega arith; free = omega arith; taken = λ n. absurd (n refl) })
      (inr ua) (loose_none L (unqueued n₁ n₃)) (omega arith) (omega arith) L.fixed

  pub legal_free_queued : {p : ℕ} → Queued (owner m b) (receiver m b) (standing m b) p → Unawaited m b → Legal (free b (unlink p b m))
  legal_free_queued {p} q ua =
      rest L i 0 0 0 0 0 0 0
      (record {
        own = λ k. refl;
        new = simp decide (refl, refl, refl, refl, refl, refl, refl);
        old = λ k n. simp decide (refl, refl, refl, refl, refl, refl, refl);
      })
      (record { standings = omega arith; free = omega arith; taken = λ n. absurd (n refl) })
      (inr ua) (loose_unlink L p q) (omega arith) (omega arith) L.fixed

  pub legal_queue : {a : ℕ} → Range m.P a → (a ≡ owner m b → ⊥) → standing m b ≡ 0 → (state m a ≡ 2 → ⊥) → (ws : Words)
      → Legal (append a b (write b ws (put_buffer b 4 1 (put_buffer b 3 a m))))
  legal_queue {a} ia na s0 n₂ ws =
      last L i a 1 (age m b) ws.w₀ ws.w₁ ws.w₂ ws.w₃
      (record {
        own = λ k. refl;
        new = simp decide (refl, refl, refl, refl, refl, refl, refl);
        old = λ k n. simp decide (refl, refl, refl, refl, refl, refl, refl);
      })
      (record { standings = omega arith; free = omega arith; taken = λ e. (ia, na) })
      (inl (omega arith)) (loose_none L (unqueued (omega arith) (omega arith))) (inl (refl, refl)) n₂ L.fixed

  module _ (ws : Words) (n₀ : standing m b ≡ 0 → ⊥) (n₂ : state m (owner m b) ≡ 2 → ⊥) (ua : Unawaited m b) where
    answers : LegalBuffer m.P (owner m b) (receiver m b) 3 (age m b) ws.w₀ ws.w₁ ws.w₂ ws.w₃
    answers = record { standings = omega arith; free = omega arith; taken = λ e. (L.buffer b i).taken n₀ }

    pub legal_answer : (standing m b ≡ 1 → ⊥) → (standing m b ≡ 3 → ⊥) → Legal (append (owner m b) b (put_buffer b 4 3 (write b ws m)))
    legal_answer n₁ n₃ =
        last L i (receiver m b) 3 (age m b) ws.w₀ ws.w₁ ws.w₂ ws.w₃
        (record {
          own = λ k. refl;
          new = simp decide (refl, refl, refl, refl, refl, refl, refl);
          old = λ k n. simp decide (refl, refl, refl, refl, refl, refl, refl);
        })
        answers (inr ua) (loose_none L (unqueued n₁ n₃)) (inr (refl, refl)) n₂ L.fixed

    pub legal_answer_queued : {p : ℕ} → Queued (owner m b) (receiver m b) (standing m b) p
        → Legal (append (owner m b) b (put_buffer b 4 3 (write b ws (unlink p b m))))
    legal_answer_queued {p} q =
        last L i (receiver m b) 3 (age m b) ws.w₀ ws.w₁ ws.w₂ ws.w₃
        (record {
          own = λ k. refl;
          new = simp decide (refl, refl, refl, refl, refl, refl, refl);
          old = λ k n. simp decide (refl, refl, refl, refl, refl, refl, refl);
        })
        answers (inr ua) (loose_unlink L p q) (inr (refl, refl)) n₂ L.fixed

-- a buffer that isn't free grows older
pub legal_grow : {m : Machine} → Legal m → {b : ℕ} → Range m.B b → Legal (grow b m)
legal_grow {m} L {b} i =
    record {
      fixed = L.fixed;
      header = L.header;
      process = L.process;
      buffer = λ k j. (let o = L.buffer k j in
          record {
            standings = o.standings;
            free = λ e. (let f = o.free e in (
              f.0,
              at_all (λ (v : ℕ). v ≡ 0) (λ k. age m k) b _ k (λ kb. rw (eq-eqb (standing m b) 0 (rw kb at e)) (rw kb at f.1)) (λ n. f.1),
              f.2,
              f.3,
              f.4,
              f.5,
            ));
            taken = o.taken;
          });
      running = L.running;
      falls = L.falls;
      events = L.events;
      idle = L.idle;
      awaits = L.awaits;
      waits = L.waits;
      lowers = L.lowers;
      semaphore_queues = L.semaphore_queues;
      counters = L.counters;
      keeps = L.keeps;
      waiters = L.waiters;
    }

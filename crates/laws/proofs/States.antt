-- A process wakes, stops, waits; a device, a counter: the machine stays legal. Assumes nothing.
use Prim.Native.Nat.{ℕ, suc, ◌+◌, ◌-◌, ◌≤◌, ◌<◌}
use native.Mathlib.Omega.{arith}
use mathlib.Core.Bool.{true, false}
use mathlib.Core.List.{List, [], ◌∷◌, ◌++◌}
use mathlib.Core.Logic.{◌⊎◌, inl, inr, ⊎_elim}
use mathlib.Core.Path.{◌≡◌, refl, sym, ◌∙◌}
use lib.ListN.{length}
use lib.Dec.{eqb}
use borrow.Author.Tests.{eqb-true, eqb-false}
use Rattle.machine.specs.Queue.{same, at, head, without, Range, In, Exact}
use Rattle.machine.specs.Machine.{Machine, semaphore, semaphores, down, put_process, put_device, put_semaphore, state, delay, awaited, priority}
use Rattle.machine.specs.Machine.{owner, standing, edition, kept, waiter}
use Rattle.machine.specs.Moves.{bar, enter_running, leave_running, wake, pause, stop}
use Rattle.machine.specs.Step.{fall, relieved}
use Rattle.machine.specs.Legal.{Legal, Awaits, LegalCounter, Runs, Lowers}
use Rattle.lists.proofs.Tests.{either}
use Rattle.lists.proofs.Links.{yes_same, no_same, decide, cases}
use Rattle.lists.proofs.Lists.{at_all, put_enter, falls_enter, falls_without, Beside, exact_put, exact_take}
use Rattle.laws.proofs.Processes.{WordsBecome, Suits, holds, elsewhere, there, leaves_waiters, joins_waiters, became_legal, leave, stay, enters}

-- a device's word that no new wait changes
no_device : (x p y : ℕ) → y ≡ same (suc x) 0 p y
no_device x p y = sym (no_same (suc x) 0 p y (omega arith))

-- nothing is asked in states 0 and 1
rests : {m : Machine} {p s a h : ℕ} → s ≤ 1 → Suits m p s a 0 h
rests {s} h =
    record {
      idle = λ (e : s ≡ 2). absurd (omega arith);
      awaits = omega arith;
      waits = omega arith;
      lowers = λ (e : s ≡ 5). absurd (omega arith);
      unwaited = λ x k e. absurd (omega arith);
    }

-- in front of its equals or behind them
pub beside_equals : (reason p : ℕ) (m : Machine) → (priority m p ≤ bar reason p m) × (bar reason p m ≤ priority m p + 1)
beside_equals reason p m = either (λ (b : ℕ). (priority m p ≤ b) × (b ≤ priority m p + 1)) (eqb reason 3) (λ t. omega arith) (λ t. omega arith)

-- p neither runs nor waits for a semaphore
abbrev pub Sleeps : Machine → ℕ → Type 0
Sleeps m p = (state m p ≡ 1 → ⊥) × (state m p ≡ 5 → ⊥)

pub legal_wake : {m : Machine} → Legal m → (r : ℕ) → r ≤ 3 → {p : ℕ} → Range m.P p → Sleeps m p → Legal (wake r p m)
legal_wake {m} L r r3 {p} i n =
    let t : WordsBecome m.process (wake r p m).process p 1 r 0 0 0 0 =
    record {
      new = simp decide (refl, refl, refl, refl, refl, (L.process p i).no_semaphore n.1);
      old = λ k n. simp decide (refl, refl, refl, refl, refl, refl);
    } in
    enters L i t _ (λ x. no_device x p _) (omega arith) (rests (omega arith)) (elsewhere L i t n.1 (omega arith)) (beside_equals r p m)
    L.fixed L.falls n.0 refl

-- one that waits for a semaphore
pub legal_relieved : {m : Machine} → Legal m → {p : ℕ} → Range m.P p → (state m p ≡ 1 → ⊥) → Legal (relieved p m)
legal_relieved {m} L {p} i n =
    let t : WordsBecome m.process (relieved p m).process p 1 5 0 0 0 0 =
    record { new = simp decide (refl, refl, refl, refl, refl, refl); old = λ k n. simp decide (refl, refl, refl, refl, refl, refl) } in
    enters L i t _ (λ x. no_device x p _) (omega arith) (rests (omega arith)) (leaves_waiters L i t (omega arith)) (beside_equals 5 p m)
    L.fixed L.falls n refl

pub legal_stop : {m : Machine} → Legal m → {p : ℕ} → Range m.P p → Legal (stop p m)
legal_stop {m} L {p} i =
    let t : WordsBecome m.process (stop p m).process p 0 0 0 0 0 0 =
    record { new = simp decide (refl, refl, refl, refl, refl, refl); old = λ k n. simp decide (refl, refl, refl, refl, refl, refl) } in
    leave L i t _ (λ x. no_device x p _) (omega arith) (rests (omega arith)) (leaves_waiters L i t (omega arith)) L.fixed L.falls (omega arith)

-- a running process's words
module _ {m : Machine} (L : Legal m) {p : ℕ} (i : Range m.P p) (run : state m p ≡ 1) where
  idles : (delay m p ≡ 0) × (awaited m p ≡ 0) × (m.process p 8 ≡ 0) × (semaphore m p ≡ 0)
  idles = let h = L.process p i in
      (h.no_delay (omega arith) (omega arith), h.no_buffer (omega arith), h.no_device (omega arith), h.no_semaphore (omega arith))

  off : (x : ℕ) → m.device x ≡ same (suc x) (m.process p 8) 0 (m.device x)
  off x = sym (no_same (suc x) (m.process p 8) 0 _ (omega (arith, idles.2)))

  pub legal_wait_answer : (b : ℕ) → Awaits m.B b (owner m b) (standing m b) p → Legal (put_process p 7 b (pause 3 p m))
  legal_wait_answer b h =
      let t : WordsBecome m.process (put_process p 7 b (pause 3 p m)).process p 3 0 0 b 0 0 =
      record { new = simp decide (refl, refl, idles.0, refl, idles.2, idles.3); old = λ k n. simp decide (refl, refl, refl, refl, refl, refl) } in
      leave L i t _ (λ x. off x ∙ no_device x p _) (omega arith)
      (record {
        idle = λ (e : 3 ≡ 2). absurd (omega arith);
        awaits = λ e. h;
        waits = omega arith;
        lowers = omega arith;
        unwaited = λ x k e. absurd (omega arith);
      })
      (elsewhere L i t (omega arith) (omega arith)) L.fixed L.falls (omega arith)

  pub legal_wait_event : (d : ℕ) → m.events p ≡ [] → Legal (put_process p 6 d (pause 2 p m))
  legal_wait_event d h =
      let t : WordsBecome m.process (put_process p 6 d (pause 2 p m)).process p 2 0 d 0 0 0 =
      record { new = simp decide (refl, refl, refl, idles.1, idles.2, idles.3); old = λ k n. simp decide (refl, refl, refl, refl, refl, refl) } in
      leave L i t _ (λ x. off x ∙ no_device x p _) (omega arith)
      (record { idle = λ e. h; awaits = omega arith; waits = omega arith; lowers = omega arith; unwaited = λ x k e. absurd (omega arith) })
      (elsewhere L i t (omega arith) (omega arith)) L.fixed L.falls (omega arith)

  pub legal_wait_interrupt : (a d : ℕ) → a < 64 → m.device a ≡ 0 → Legal (put_device a p (put_process p 6 d (put_process p 8 (a + 1) (pause 4 p m))))
  legal_wait_interrupt a d a64 h =
      let t : WordsBecome m.process (put_process p 6 d (put_process p 8 (a + 1) (pause 4 p m))).process p 4 0 d 0 (a + 1) 0 =
      record { new = simp decide (refl, refl, refl, idles.1, refl, idles.3); old = λ k n. simp decide (refl, refl, refl, refl, refl, refl) } in
      leave L i t _ (λ x. cases x a
      (λ e. yes_same x a _ _ e ∙ sym (yes_same (suc x) (a + 1) p _ (omega arith)))
      (λ n. no_same x a _ _ n ∙ off x ∙ sym (no_same (suc x) (a + 1) p _ (omega arith)))) (omega arith)
      (record {
        idle = λ (e : 4 ≡ 2). absurd (omega arith);
        awaits = omega arith;
        waits = omega arith;
        lowers = omega arith;
        unwaited = λ x k e c k1. (let xa : x ≡ a = omega arith in absurd (omega (arith, rw xa at c)));
      })
      (elsewhere L i t (omega arith) (omega arith)) L.fixed L.falls (omega arith)

  pub legal_lower : (a : ℕ) → Range (semaphores m) a → 32768 ≤ down (m.counter a)
      → Legal (put_semaphore a (down (m.counter a)) (m.waiters a ++ (p ∷ [])) (put_process p 15 a (pause 5 p m)))
  legal_lower a h b =
      let t : WordsBecome m.process (put_process p 15 a (pause 5 p m)).process p 5 0 0 0 0 a =
      record { new = simp decide (refl, refl, idles.0, idles.1, idles.2, refl); old = λ k n. simp decide (refl, refl, refl, refl, refl, refl) } in
      leave L i t _ (λ x. off x ∙ no_device x p _) (omega arith)
      (record {
        idle = λ (e : 5 ≡ 2). absurd (omega arith);
        awaits = omega arith;
        waits = omega arith;
        lowers = λ e. h;
        unwaited = λ x k e. absurd (omega arith);
      })
      (joins_waiters L i t (omega arith) refl b) L.fixed L.falls (omega arith)

-- a process's reason set to 0; its delay less by 1
module _ {m : Machine} (L : Legal m) {p : ℕ} (i : Range m.P p) where
  fitting : Suits m p (state m p) (awaited m p) (m.process p 8) (semaphore m p)
  fitting =
      record {
        idle = L.idle p i;
        awaits = L.awaits p i;
        waits = λ e. (let c = L.waits p i e in omega (arith, c.word, c.is));
        lowers = L.lowers p i;
        unwaited = λ x k e c k1. sym c ∙ holds L i x e;
      }

  keeps : (x : ℕ) → m.device x ≡ same (suc x) (m.process p 8) p (same (suc x) (m.process p 8) 0 (m.device x))
  keeps x =
      cases (suc x) (m.process p 8)
      (λ e. holds L i x e ∙ sym (yes_same (suc x) (m.process p 8) _ _ e))
      (λ n. sym (no_same (suc x) (m.process p 8) p _ n ∙ no_same (suc x) (m.process p 8) 0 _ n))

  pub legal_reason : Legal (put_process p 5 0 m)
  legal_reason =
      let h = L.process p i in
      let t : WordsBecome m.process (put_process p 5 0 m).process p (state m p) 0 (delay m p) (awaited m p) (m.process p 8) (semaphore m p) =
      record { new = simp decide (refl, refl, refl, refl, refl, refl); old = λ k n. simp decide (refl, refl, refl, refl, refl, refl) } in
      stay L i t _ keeps
      (record {
        states = h.states;
        reasons = omega arith;
        no_reason = λ n. refl;
        no_delay = h.no_delay;
        no_buffer = h.no_buffer;
        no_device = h.no_device;
        no_semaphore = h.no_semaphore;
      })
      fitting (there L i t refl refl) L.fixed L.falls refl

  -- p out of the running queue and in again
  pub legal_requeue : state m p ≡ 1 → Legal (enter_running 0 p (leave_running p m))
  legal_requeue run =
      let out : Beside p (Runs m) (λ k. Runs m k × (k ≡ p → ⊥)) = record { to = λ k n c. (c, n); from = λ k n c. c.0 } in
      let back : Beside p (λ k. Runs m k × (k ≡ p → ⊥)) (Runs m) = record { to = λ k n c. c.0; from = λ k n c. (c, n) } in
      let t : WordsBecome m.process m.process p (state m p) (m.process p 5) (delay m p) (awaited m p) (m.process p 8) (semaphore m p) =
      record { new = (refl, refl, refl, refl, refl, refl); old = λ k n. (refl, refl, refl, refl, refl, refl) } in
      became_legal L i t _ keeps (L.process p i) fitting (there L i t refl refl) L.fixed
      (exact_put back (exact_take out L.running (λ c. c.1 refl)) (put_enter (priority m) (priority m p) p (without p m.running))
      (λ c. c.1 refl) (i, run))
      (falls_enter _ _ p (omega arith) (omega arith) _ (falls_without _ p m.running L.falls))

  pub legal_fall : Legal (fall p m)
  legal_fall =
      let h = L.process p i in
      let t : WordsBecome m.process (fall p m).process p (state m p) (m.process p 5) (delay m p - 1) (awaited m p) (m.process p 8) (semaphore m p) =
      record { new = simp decide (refl, refl, refl, refl, refl, refl); old = λ k n. simp decide (refl, refl, refl, refl, refl, refl) } in
      stay L i t _ keeps
      (record {
        states = h.states;
        reasons = h.reasons;
        no_reason = h.no_reason;
        no_delay = λ n₂ n₄. omega (arith, h.no_delay n₂ n₄);
        no_buffer = h.no_buffer;
        no_device = h.no_device;
        no_semaphore = h.no_semaphore;
      })
      fitting (there L i t refl refl) L.fixed L.falls refl

-- ---- devices
-- nobody waits for a, or somebody does
module _ (m : Machine) (a : ℕ) where
  pub no_waiter : eqb (waiter m a) 0 ≡ true → (m.device a ≡ 0) ⊎ (m.device a ≡ kept)
  no_waiter t = cases (m.device a) kept inr (λ n. inl (sym (no_same (m.device a) kept 0 _ n) ∙ eqb-true (waiter m a) 0 t))

  pub some_waiter : Legal m → a < 64 → eqb (waiter m a) 0 ≡ false → Range m.P (waiter m a) × (state m (waiter m a) ≡ 4)
  some_waiter L h t =
      let z = eqb-false (waiter m a) 0 t in
      let n : m.device a ≡ kept → ⊥ = λ k. z (yes_same (m.device a) kept 0 _ k) in
      let e : waiter m a ≡ m.device a = no_same (m.device a) kept 0 _ n in
      let c = L.waiters a h (λ k. z (e ∙ k)) n in
      rw e (c.0, c.1)

-- the word of a device that nobody waits for
pub legal_device : {m : Machine} → Legal m → {a : ℕ} → (m.device a ≡ 0) ⊎ (m.device a ≡ kept) → (v : ℕ) → (v ≡ 0)
    ⊎ ((v ≡ kept) × (edition m ≡ 1)) → Legal (put_device a v m)
legal_device {m} L {a} free v new =
    record {
      fixed = L.fixed;
      header = L.header;
      process = L.process;
      buffer = L.buffer;
      running = L.running;
      falls = L.falls;
      events = L.events;
      idle = L.idle;
      awaits = L.awaits;
      waits = λ p i e. (let c = L.waits p i e in
          record {
            d = c.d;
            is = c.is;
            word = c.word;
            named =
                no_same c.d a _ _
                (λ k. (let z : m.device a ≡ p = rw k at c.named in ⊎_elim (λ f. omega arith) (λ f. omega (arith, L.fixed.P32)) free)) ∙ c.named;
          });
      lowers = L.lowers;
      semaphore_queues = L.semaphore_queues;
      counters = L.counters;
      keeps = λ d h k. at_all (λ (w : ℕ). w ≡ kept → edition m ≡ 1) m.device a v d (λ e z. ⊎_elim (λ f. absurd (omega arith)) (λ f. f.1) new)
          (λ n z. L.keeps d h z) k;
      waiters =
          λ d h n o.
          (let e : at m.device a v d ≡ m.device d =
          no_same d a v _ (λ k. (let z = yes_same d a v (m.device d) k in ⊎_elim (λ f. n (z ∙ f)) (λ f. o (z ∙ f.0)) new)) in
          rw e (L.waiters d h (λ z. n (e ∙ z)) (λ z. o (e ∙ z))));
    }

-- ---- semaphores
-- a counter alone
pub legal_counter : {m : Machine} → Legal m → (a c : ℕ) → (Range (semaphores m) a → LegalCounter c (length (m.waiters a)))
    → Legal (put_semaphore a c (m.waiters a) m)
legal_counter {m} L a c l =
    record {
      fixed = L.fixed;
      header = L.header;
      process = L.process;
      buffer = L.buffer;
      running = L.running;
      falls = L.falls;
      events = L.events;
      idle = L.idle;
      awaits = L.awaits;
      waits = L.waits;
      lowers = L.lowers;
      semaphore_queues = λ k j. at_all (Exact (Lowers m k)) m.waiters a _ k (λ e. rw (← e) (L.semaphore_queues k j)) (λ n. L.semaphore_queues k j);
      counters = λ k j. cases k a
          (λ e. rw (yes_same k a c (m.counter k) e, yes_same k a (m.waiters a) (m.waiters k) e) (l (rw e at j)))
          (λ n. rw (no_same k a c (m.counter k) n, no_same k a (m.waiters a) (m.waiters k) n) (L.counters k j));
      keeps = L.keeps;
      waiters = L.waiters;
    }

-- somebody waits where the counter is below zero
pub longest : {m : Machine} → Legal m → (a : ℕ) → Range (semaphores m) a → 32768 ≤ m.counter a → Lowers m a (head (m.waiters a))
longest {m} L a j b =
    let c = L.counters a j in
    (L.semaphore_queues a j).only _ (first (m.waiters a) (omega (arith, c.word, c.below b)))
  where
    first : (q : List ℕ) → 1 ≤ length q → In (head q) q
    first [] h = absurd (omega arith)
    first (x ∷ q) h = inl refl

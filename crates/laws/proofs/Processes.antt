-- A process's state, reason, delay and waits become others: what that asks for the machine to stay legal. Assumes nothing.
use Prim.Native.Nat.{ℕ, suc, ◌+◌, ◌-◌, ◌≤◌, ◌<◌}
use native.Mathlib.Omega.{arith}
use mathlib.Core.List.{List, [], ◌∷◌, ◌++◌}
use mathlib.Core.Path.{◌≡◌, sym, ap, ◌∙◌}
use lib.ListN.{length}
use Rattle.machine.specs.Queue.{same, at, without, enter, Range, Exact, Falls}
use Rattle.machine.specs.Machine.{Machine, semaphore, semaphores, up, down, with_process, with_semaphore, state, owner, standing, edition, kept}
use Rattle.machine.specs.Legal.{Legal, FixedOf, LegalProcess, Awaits, Waits, LegalCounter, Runs, Lowers}
use Rattle.lists.proofs.Links.{yes_same, no_same, cases}
use Rattle.lists.proofs.Lists.{at_all, put_last, put_length, put_enter, falls_enter, falls_without, without_one, Beside, exact_put, exact_take}
use Rattle.lists.proofs.Lists.{exact_keep}
use Rattle.laws.proofs.Counters.{counter_down, counter_up}

-- from f to g the words 4 to 8 and 15 of p become s, r, d, a, w, h; the other processes' stay
pub record WordsBecome (f g : ℕ → ℕ → ℕ) (p s r d a w h : ℕ) : Type 0 where
  pub new : (g p 4 ≡ s) × (g p 5 ≡ r) × (g p 6 ≡ d) × (g p 7 ≡ a) × (g p 8 ≡ w) × (g p 15 ≡ h)
  pub old : (k : ℕ) → (k ≡ p → ⊥) → (g k 4 ≡ f k 4) × (g k 5 ≡ f k 5) × (g k 6 ≡ f k 6) × (g k 7 ≡ f k 7) × (g k 8 ≡ f k 8) × (g k 15 ≡ f k 15)

-- what the new words ask of the rest
pub record Suits (m : Machine) (p s a w h : ℕ) : Type 0 where
  pub idle : s ≡ 2 → m.events p ≡ []
  pub awaits : s ≡ 3 → Awaits m.B a (owner m a) (standing m a) p
  pub waits : s ≡ 4 → Range 64 w
  pub lowers : s ≡ 5 → Range (semaphores m) h
  pub unwaited : (x k : ℕ) → suc x ≡ w → m.device x ≡ k → 1 ≤ k → k ≡ p

-- the semaphores' queues and counters, with the words g
pub record SemaphoreQueues (m : Machine) (g : ℕ → ℕ → ℕ) (ct : ℕ → ℕ) (ws : ℕ → List ℕ) : Type 0 where
  pub semaphore_queues : (k : ℕ) → Range (semaphores m) k → Exact (λ x. Range m.P x × (g x 4 ≡ 5) × (g x 15 ≡ k)) (ws k)
  pub counters : (k : ℕ) → Range (semaphores m) k → LegalCounter (ct k) (length (ws k))

module _ {m : Machine} (L : Legal m) {p : ℕ} (i : Range m.P p) where
  pub holds : (x : ℕ) → suc x ≡ m.process p 8 → m.device x ≡ p
  holds x e =
      cases (state m p) 4
      (λ h. let c = L.waits p i h in let xd : x ≡ c.d = omega (arith, c.word) in rw xd c.named)
      (λ n. absurd (omega (arith, (L.process p i).no_device n)))

module _ {m : Machine} (L : Legal m) {p : ℕ} (i : Range m.P p) {s r d a w h : ℕ} {g : ℕ → ℕ → ℕ} (t : WordsBecome m.process g p s r d a w h) where
  beside : Beside p (Runs m) (λ k. Range m.P k × (g k 4 ≡ 1))
  beside = record { to = λ k n c. (c.0, (t.old k n).0 ∙ c.1); from = λ k n c. (c.0, sym (t.old k n).0 ∙ c.1) }

  beside_waiters : (k : ℕ) → Beside p (Lowers m k) (λ x. Range m.P x × (g x 4 ≡ 5) × (g x 15 ≡ k))
  beside_waiters k =
      record {
        to = λ x n c. (c.0, (t.old x n).0 ∙ c.1, (t.old x n).5 ∙ c.2);
        from = λ x n c. (c.0, sym (t.old x n).0 ∙ c.1, sym (t.old x n).5 ∙ c.2);
      }

  -- p waits for none, before and after; or for the same
  pub elsewhere : (state m p ≡ 5 → ⊥) → (s ≡ 5 → ⊥) → SemaphoreQueues m g m.counter m.waiters
  elsewhere n o =
      record {
        semaphore_queues = λ k j. exact_keep (beside_waiters k) (L.semaphore_queues k j) (λ c. absurd (n c.1)) (λ c. absurd (o (sym t.new.0 ∙ c.1)));
        counters = L.counters;
      }

  pub there : s ≡ state m p → h ≡ semaphore m p → SemaphoreQueues m g m.counter m.waiters
  there e f =
      record {
        semaphore_queues = λ k j. exact_keep (beside_waiters k) (L.semaphore_queues k j) (λ c. (c.0, t.new.0 ∙ e ∙ c.1, t.new.5 ∙ f ∙ c.2))
            (λ c. (c.0, sym (t.new.0 ∙ e) ∙ c.1, sym (t.new.5 ∙ f) ∙ c.2));
        counters = L.counters;
      }

  -- p off its semaphore, if it waits for one
  pub leaves_waiters : (s ≡ 5 → ⊥) → SemaphoreQueues m g (at m.counter (semaphore m p) (up (m.counter (semaphore m p))))
      (at m.waiters (semaphore m p) (without p (m.waiters (semaphore m p))))
  leaves_waiters o =
      let n : (k : ℕ) → Range m.P p × (g p 4 ≡ 5) × (g p 15 ≡ k) → ⊥ = λ k c. o (sym t.new.0 ∙ c.1) in
      record {
        semaphore_queues = λ k j. at_all (Exact (λ x. Range m.P x × (g x 4 ≡ 5) × (g x 15 ≡ k))) m.waiters (semaphore m p) _ k
            (λ e. rw e (exact_take (beside_waiters (semaphore m p)) (L.semaphore_queues (semaphore m p) (rw e at j)) (n _)))
            (λ f. exact_keep (beside_waiters k) (L.semaphore_queues k j) (λ c. absurd (f (sym c.2))) (λ c. absurd (n k c)));
        counters = λ k j. cases k (semaphore m p)
            (λ e. (let q = L.semaphore_queues k j in
            let five : state m p ≡ 5 = cases (state m p) 5 (λ z. z) (λ z. absurd (omega (arith, (L.process p i).no_semaphore z))) in
            let one = without_one p (m.waiters k) q.once (q.every p (i, five, sym e)) in
            let c : LegalCounter (m.counter k) (suc (length (without p (m.waiters k)))) = rw (← one) (L.counters k j) in
            rw (
              yes_same k (semaphore m p) (up (m.counter (semaphore m p))) (m.counter k) e,
              yes_same k (semaphore m p) (without p (m.waiters (semaphore m p))) (m.waiters k) e,
            ) (rw e at (counter_up c))))
            (λ z. rw (
              no_same k (semaphore m p) (up (m.counter (semaphore m p))) (m.counter k) z,
              no_same k (semaphore m p) (without p (m.waiters (semaphore m p))) (m.waiters k) z,
            ) (L.counters k j));
      }

  -- p last in the queue of semaphore h
  pub joins_waiters : (state m p ≡ 5 → ⊥) → s ≡ 5 → 32768 ≤ down (m.counter h)
      → SemaphoreQueues m g (at m.counter h (down (m.counter h))) (at m.waiters h (m.waiters h ++ (p ∷ [])))
  joins_waiters n f b =
      record {
        semaphore_queues = λ k j. at_all (Exact (λ x. Range m.P x × (g x 4 ≡ 5) × (g x 15 ≡ k))) m.waiters h _ k
            (λ e. rw e
            (exact_put (beside_waiters h) (L.semaphore_queues h (rw e at j)) (put_last p (m.waiters h)) (λ c. n c.1) (i, t.new.0 ∙ f, t.new.5)))
            (λ z. exact_keep (beside_waiters k) (L.semaphore_queues k j) (λ c. absurd (n c.1)) (λ c. absurd (z (sym c.2 ∙ t.new.5))));
        counters = λ k j. cases k h
            (λ e. rw (
              yes_same k h (down (m.counter h)) (m.counter k) e,
              yes_same k h (m.waiters h ++ (p ∷ [])) (m.waiters k) e,
              put_length (put_last p (m.waiters h)),
            ) (counter_down (L.counters h (rw e at j)) b))
            (λ z. rw (no_same k h (down (m.counter h)) (m.counter k) z, no_same k h (m.waiters h ++ (p ∷ [])) (m.waiters k) z) (L.counters k j));
      }

  module _ (dv : ℕ → ℕ) (device_at : (x : ℕ) → dv x ≡ same (suc x) w p (same (suc x) (m.process p 8) 0 (m.device x)))
      (ok : LegalProcess s r d a w h) (fit : Suits m p s a w h) {ct : ℕ → ℕ} {ws : ℕ → List ℕ} (ln : SemaphoreQueues m g ct ws) where
    waits' : (k : ℕ) → Range m.P k → g k 4 ≡ 4 → Waits dv (g k 8) k
    waits' k j e =
        cases k p
        (λ kp. (let h = fit.waits (sym t.new.0 ∙ rw kp at e) in
        record {
          d = w - 1;
          is = omega arith;
          word = rw kp (t.new.4 ∙ omega arith);
          named = rw kp (device_at (w - 1) ∙ yes_same (suc (w - 1)) w _ _ (omega arith));
        }))
        (λ n.
        let c = L.waits k j (sym (t.old k n).0 ∙ e) in
        let x = c.d in
        let n₁ : suc x ≡ w → ⊥ = λ h. n (fit.unwaited x k h c.named j.0) in
        let n₂ : suc x ≡ m.process p 8 → ⊥ = λ h. n (sym c.named ∙ holds L i x h) in
        record {
          d = x;
          is = c.is;
          word = (t.old k n).4 ∙ c.word;
          named = device_at x ∙ no_same (suc x) w _ _ n₁
              ∙ no_same (suc x) (m.process p 8) _ _ n₂ ∙ c.named;
        })

    keeps' : (x : ℕ) → x < 64 → dv x ≡ kept → edition m ≡ 1
    keeps' x x64 k =
        cases (suc x) w
        (λ h. absurd (omega (arith, sym k ∙ device_at x ∙ yes_same (suc x) w _ _ h, L.fixed.P32)))
        (λ n₁. cases (suc x) (m.process p 8)
        (λ h. absurd (omega (arith, sym k ∙ device_at x ∙ no_same (suc x) w _ _ n₁ ∙ yes_same (suc x) (m.process p 8) _ _ h)))
        (λ n₂. L.keeps x x64 (sym (device_at x ∙ no_same (suc x) w _ _ n₁ ∙ no_same (suc x) (m.process p 8) _ _ n₂) ∙ k)))

    waiters' : (x : ℕ) → x < 64 → (dv x ≡ 0 → ⊥) → (dv x ≡ kept → ⊥) → Range m.P (dv x) × (g (dv x) 4 ≡ 4) × (g (dv x) 8 ≡ suc x)
    waiters' x x64 n0 nk =
        cases (suc x) w
        (λ h. rw (device_at x ∙ yes_same (suc x) w _ _ h)
        (i, t.new.0 ∙ cases s 4 (λ e. e) (λ n. absurd (omega (arith, ok.no_device n))), t.new.4 ∙ sym h))
        (λ n₁. cases (suc x) (m.process p 8)
        (λ h. absurd (n0 (device_at x ∙ no_same (suc x) w _ _ n₁ ∙ yes_same (suc x) (m.process p 8) _ _ h)))
        (λ n₂.
        let e = device_at x ∙ no_same (suc x) w _ _ n₁ ∙ no_same (suc x) (m.process p 8) _ _ n₂ in
        let c = L.waiters x x64 (λ z. n0 (e ∙ z)) (λ z. nk (e ∙ z)) in
        let o = t.old (m.device x) (λ k. n₂ (sym c.2 ∙ ap (λ (y : ℕ). m.process y 8) k)) in
        rw e (c.0, o.0 ∙ c.1, o.4 ∙ c.2)))

    abbrev Became : List ℕ → Machine
    Became q = with_process q g dv (with_semaphore ct ws m)

    pub became_legal : {q : List ℕ} → FixedOf (Became q) → Exact (λ k. Range m.P k × (g k 4 ≡ 1)) q → Falls (λ k. g k 9) q → Legal (Became q)
    became_legal fx ex fa =
        record {
          fixed = fx;
          header = L.header;
          process = λ k j. cases k p
              (λ e. rw (e, t.new.0, t.new.1, t.new.2, t.new.3, t.new.4, t.new.5) ok)
              (λ n. let o = t.old k n in rw (o.0, o.1, o.2, o.3, o.4, o.5) (L.process k j));
          buffer = L.buffer;
          running = ex;
          falls = fa;
          events = L.events;
          idle = λ k j e. cases k p
              (λ kp. rw kp (fit.idle (sym t.new.0 ∙ rw kp at e)))
              (λ n. L.idle k j (sym (t.old k n).0 ∙ e));
          awaits = λ k j e. cases k p
              (λ kp. rw (kp, t.new.3) (fit.awaits (sym t.new.0 ∙ rw kp at e)))
              (λ n. rw (t.old k n).3 (L.awaits k j (sym (t.old k n).0 ∙ e)));
          waits = waits';
          lowers = λ k j e. cases k p
              (λ kp. rw (kp, t.new.5) (fit.lowers (sym t.new.0 ∙ rw kp at e)))
              (λ n. rw (t.old k n).5 (L.lowers k j (sym (t.old k n).0 ∙ e)));
          semaphore_queues = ln.semaphore_queues;
          counters = ln.counters;
          keeps = keeps';
          waiters = waiters';
        }

    -- out of the running queue
    pub leave : FixedOf (Became (without p m.running)) → Falls (λ k. g k 9) m.running → (s ≡ 1 → ⊥) → Legal (Became (without p m.running))
    leave fx fa n = became_legal fx (exact_take beside L.running (λ c. n (sym t.new.0 ∙ c.1))) (falls_without _ p m.running fa)

    -- nowhere else
    pub stay : FixedOf (Became m.running) → Falls (λ k. g k 9) m.running → s ≡ state m p → Legal (Became m.running)
    stay fx fa e = became_legal fx (exact_keep beside L.running (λ c. (c.0, t.new.0 ∙ e ∙ c.1)) (λ c. (c.0, sym (t.new.0 ∙ e) ∙ c.1))) fa

    -- into it
    pub enters : {b : ℕ} → (g p 9 ≤ b) × (b ≤ g p 9 + 1) → FixedOf (Became (enter (λ k. g k 9) b p m.running)) → Falls (λ k. g k 9) m.running
        → (state m p ≡ 1 → ⊥) → s ≡ 1 → Legal (Became (enter (λ k. g k 9) b p m.running))
    enters {b} h fx fa n e = became_legal fx (exact_put beside L.running (put_enter (λ k. g k 9) b p m.running) (λ c. n c.1) (i, t.new.0 ∙ e))
        (falls_enter _ b p h.0 h.1 m.running fa)

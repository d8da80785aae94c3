-- A call other than a tick or a clean keeps a legal machine legal. Assumes nothing.
use Prim.Native.Nat.{ℕ, ◌≤◌}
use native.Mathlib.Omega.{arith}
use mathlib.Core.Bool.{Bool, true, false, not, ◌&&◌, ◌||◌}
use mathlib.Core.List.{[]}
use mathlib.Core.Logic.{inl, inr, ⊎_elim}
use mathlib.Core.Path.{◌≡◌, refl, sym, ap, ◌∙◌}
use lib.Dec.{eqb}
use borrow.Author.Tests.{eq-eqb, eqb-true, eqb-false, leb-true, leb-false, ltb-false, not-false}
use Rattle.machine.specs.Queue.{head, Range, keep}
use Rattle.machine.specs.Machine.{Machine, current, state, awaited, owner, receiver, standing, edition, kept, waiter, Words}
use Rattle.machine.specs.Machine.{buffers, semaphores, below_zero, down}
use Rattle.machine.specs.Moves.{wake, unlink, waiting, answer_with}
use Rattle.machine.specs.Request.{Send, WaitAnswer, WaitEvent, SendAnswer, WaitInterrupt, Start, Stop, Interrupt, Lower, Raise}
use Rattle.machine.specs.Refusal.{outside, refusal, is_free_own, free_own}
use Rattle.machine.specs.Step.{Outcome, effect}
use Rattle.machine.specs.Legal.{Legal, Stands, Runs}
use Rattle.lists.proofs.Links.{refl_same}
use Rattle.lists.proofs.Tests.{differ, and_true, or_false, second, inside, passes, either}
use Rattle.lists.proofs.Numbers.{first_in, no_first, in_from, in_keep, few}
use Rattle.laws.proofs.States.{Sleeps, legal_wake, legal_relieved, legal_stop, legal_wait_answer, legal_wait_event, legal_wait_interrupt}
use Rattle.laws.proofs.States.{legal_reason}
use Rattle.laws.proofs.States.{no_waiter, some_waiter, legal_device, legal_lower, legal_counter, longest}
use Rattle.laws.proofs.Counters.{counter_less, counter_more}
use Rattle.laws.proofs.Mark.{Unawaited, legal_hold, legal_free, legal_free_queued, legal_queue, legal_answer, legal_answer_queued}

module _ {m : Machine} (L : Legal m) where
  runs : eqb (current m) 0 ≡ false → Runs m (current m)
  runs e = L.running.only (current m) (first_in m.running (eqb-false (current m) 0 e))

  pub unawaited : {b : ℕ} → Range m.B b → (1 ≤ standing m b → standing m b ≤ 2 → ⊥) → Unawaited m b
  unawaited {b} i n e k =
      let c = L.awaits (owner m b) (L.fixed.owned b i) e in
      let h = rw k at c.queued_or_held in
      n h.0 h.1

  -- whether the owner of b is to be woken
  module _ (b : ℕ) where
    pub asleep : waiting b m ≡ true → Sleeps m (owner m b)
    asleep t = let f : ℕ → Bool = λ x. eqb x 2 || (eqb x 3 && eqb (awaited m (owner m b)) b) in (λ e. differ (sym t ∙ ap f e), λ e. differ (sym t ∙ ap f e))

    not_idle : waiting b m ≡ false → state m (owner m b) ≡ 2 → ⊥
    not_idle t e = eqb-false (state m (owner m b)) 2 (or_false t).0 e

    not_awaited : waiting b m ≡ false → Unawaited m b
    not_awaited t e k =
        differ
        (sym (ap (λ (x : Bool). x && eqb (awaited m (owner m b)) b) (eq-eqb (state m (owner m b)) 3 e) ∙ eq-eqb (awaited m (owner m b)) b k)
        ∙ (or_false {a = eqb (state m (owner m b)) 2} t).1)

  awake : (p q : ℕ) → (q ≡ 1 → ⊥) → state (wake 1 p m) p ≡ q → ⊥
  awake p q n e = n (sym e ∙ refl_same p 1 _)

  -- b answered
  module _ {b : ℕ} (i : Range m.B b) (ws : Words) where
    pub legal_answer_with : standing m b ≡ 2 → Legal (answer_with b ws m)
    legal_answer_with s2 =
        either Legal (waiting b m)
        (λ t. legal_answer (legal_wake L 1 (omega arith) (L.fixed.owned b i) (asleep b t)) i ws (omega arith) (awake _ 2 (omega arith))
        (λ e k. awake _ 3 (omega arith) e) (omega arith) (omega arith))
        (λ t. legal_answer L i ws (omega arith) (not_idle b t) (not_awaited b t) (omega arith) (omega arith))

    -- and taken out of the receiver's queue
    pub legal_answer_unlinked : {p : ℕ} → standing m b ≡ 1 → receiver m b ≡ p → Legal (answer_with b ws (unlink p b m))
    legal_answer_unlinked s1 e =
        either Legal (waiting b m)
        (λ t. legal_answer_queued (legal_wake L 1 (omega arith) (L.fixed.owned b i) (asleep b t)) i ws (omega arith)
        (awake _ 2 (omega arith)) (λ e k. awake _ 3 (omega arith) e) (inl (s1, e)))
        (λ t. legal_answer_queued L i ws (omega arith) (not_idle b t) (not_awaited b t) (inl (s1, e)))

  -- the first of an event queue
  module _ {p : ℕ} (i : Range m.P p) where
    stands : eqb (head (m.events p)) 0 ≡ false → Stands m p (head (m.events p))
    stands e = (L.events p i).only _ (first_in (m.events p) (eqb-false _ 0 e))

    empty : eqb (head (m.events p)) 0 ≡ true → m.events p ≡ []
    empty e = no_first (m.events p) (λ x j. ((L.events p i).only x j).0.0) (eqb-true _ 0 e)

  -- the lowest free own buffer
  pub own_free : (p : ℕ) → eqb (free_own m p) 0 ≡ false → (Range m.B (free_own m p) × (owner m (free_own m p) ≡ p)) × (standing m (free_own m p) ≡ 0)
  own_free p e =
      let b = free_own m p in
      let k = in_keep b (is_free_own m p) (buffers m) (first_in (keep (is_free_own m p) (buffers m)) (eqb-false b 0 e)) in
      let t = and_true {a = eqb (owner m b) p} k.1 in
      let h = in_from b 1 m.B k.0 in
      ((omega arith, eqb-true (owner m b) p t.0), eqb-true (standing m b) 0 t.1)

module _ {m : Machine} (L : Legal m) where
  pub send : (a : ℕ) (ws : Words) → refusal m (Send a ws) ≡ 0 → Legal (effect m (Send a ws)).machine
  unfolding refusal effect
  send a ws e =
      let h = passes _ (omega arith) e in
      let me = runs L h.0 in
      let ia = inside m.P a h.1.0 in
      let f = own_free L (current m) h.1.1.1.0 in
      let na : a ≡ owner m (free_own m (current m)) → ⊥ = λ k. eqb-false a (current m) h.1.1.0 (k ∙ f.0.1) in
      either Legal (eqb (state m a) 2)
      (λ t. (let s2 = eqb-true (state m a) 2 t in
      legal_queue (legal_wake L 1 (omega arith) ia (omega arith)) f.0.0 ia na f.1 (awake L a 2 (omega arith)) ws))
      (λ t. legal_queue L f.0.0 ia na f.1 (eqb-false (state m a) 2 t) ws)

  pub wait_answer : (a : ℕ) → refusal m (WaitAnswer a) ≡ 0 → Legal (effect m (WaitAnswer a)).machine
  unfolding refusal effect
  wait_answer a e =
      let h = passes _ (omega arith) e in
      let me = runs L h.0 in
      let h₁ = or_false {a = outside a m.B} h.1.0 in
      let ia = inside m.B a h₁.0 in
      let h₂ = or_false {a = not (eqb (owner m a) (current m))} h₁.1 in
      let own = eqb-true (owner m a) (current m) (not-false _ h₂.0) in
      let h₃ = or_false {a = eqb (standing m a) 0} h₂.1 in
      let s0 = eqb-false (standing m a) 0 h₃.0 in
      let s4 = eqb-false (standing m a) 4 (or_false {a = eqb (standing m a) 4} h₃.1).0 in
      either (λ (o : Outcome). Legal o.machine) (eqb (standing m a) 3)
      (λ t. (let s3 = eqb-true (standing m a) 3 t in legal_reason (legal_free_queued L ia (inr (s3, own)) (unawaited L ia (omega arith))) me.0))
      (λ t. (let s3 = eqb-false (standing m a) 3 t in
      legal_wait_answer L me.0 me.1 a (record { is = ia; own = own; queued_or_held = (let k = (L.buffer a ia).standings in omega arith) })))

  pub wait_event : (d : ℕ) → refusal m (WaitEvent d) ≡ 0 → Legal (effect m (WaitEvent d)).machine
  unfolding refusal effect
  wait_event d e =
      let h = passes _ (omega arith) e in
      let me = runs L h.0 in
      let b = head (m.events (current m)) in
      either (λ (o : Outcome). Legal o.machine) (eqb b 0)
      (λ t. legal_wait_event L me.0 me.1 d (empty L me.0 t))
      (λ t. let c = stands L me.0 t in
      either (λ (o : Outcome). Legal o.machine) (eqb (standing m b) 1)
      (λ u. legal_reason
      (legal_hold L c.0 (eqb-true (standing m b) 1 u) (⊎_elim (λ q. q.1) (λ q. absurd (omega (arith, eqb-true (standing m b) 1 u))) c.1)) me.0)
      (λ u. legal_reason
      (legal_free_queued L c.0 c.1
      (unawaited L c.0 (⊎_elim (λ q. absurd (eqb-false (standing m b) 1 u q.0)) (λ q l k. omega (arith, q.0)) c.1))) me.0))

  pub send_answer : (a : ℕ) (ws : Words) → refusal m (SendAnswer a ws) ≡ 0 → Legal (effect m (SendAnswer a ws)).machine
  unfolding refusal effect
  send_answer a ws e =
      let h = passes _ (omega arith) e in
      let h₁ = or_false {a = outside a m.B} h.1.0 in
      let ia = inside m.B a h₁.0 in
      let h₂ = or_false {a = not (eqb (receiver m a) (current m))} h₁.1 in
      either Legal (eqb (standing m a) 2)
      (λ t. legal_answer_with L ia ws (eqb-true (standing m a) 2 t))
      (λ t. (let s4 = eqb-true (standing m a) 4 (second {a = eqb (standing m a) 2} (not-false _ h₂.1) t) in
      legal_free L ia (omega arith) (omega arith) (unawaited L ia (omega arith))))

  pub wait_interrupt : (a d : ℕ) → refusal m (WaitInterrupt a d) ≡ 0 → Legal (effect m (WaitInterrupt a d)).machine
  unfolding refusal effect
  wait_interrupt a d e =
      let h = passes _ (omega arith) e in
      let me = runs L h.0 in
      let free = no_waiter m a (not-false _ h.1.1.0) in
      either (λ (o : Outcome). Legal o.machine) (eqb (m.device a) kept)
      (λ t. legal_device (legal_reason L me.0) free 0 (inl refl))
      (λ t. legal_wait_interrupt L me.0 me.1 a d (omega (arith, ltb-false 63 a h.1.0))
      (⊎_elim (λ e. e) (λ e. absurd (eqb-false (m.device a) kept t e)) free))

  pub start : (a : ℕ) → refusal m (Start a) ≡ 0 → Legal (effect m (Start a)).machine
  unfolding refusal effect
  start a e =
      let h = passes _ (omega arith) e in
      let s0 = eqb-true (state m a) 0 (not-false _ h.1.0) in
      legal_wake L 0 (omega arith) (inside m.P a h.0) (omega arith)

  pub halt : (a : ℕ) → refusal m (Stop a) ≡ 0 → Legal (effect m (Stop a)).machine
  unfolding refusal effect
  halt a e = let h = passes _ (omega arith) e in legal_stop L (inside m.P a h.0)

  pub interrupt : (a : ℕ) → refusal m (Interrupt a) ≡ 0 → Legal (effect m (Interrupt a)).machine
  unfolding refusal effect
  interrupt a e =
      let h = passes _ (omega arith) e in
      either (λ (o : Outcome). Legal o.machine) (eqb (waiter m a) 0)
      (λ t. either Legal (eqb (edition m) 1) (λ e. legal_device L (no_waiter m a t) kept (inr (refl, eqb-true _ 1 e))) (λ e. L))
      (λ t. (let c = some_waiter m a L (omega (arith, ltb-false 63 a h.0)) t in
      legal_wake L 3 (omega arith) c.0 (omega (arith, c.1))))

  pub lower : (a : ℕ) → refusal m (Lower a) ≡ 0 → Legal (effect m (Lower a)).machine
  unfolding refusal effect
  lower a e =
      let h = passes _ (omega arith) e in
      let me = runs L h.0 in
      let ia = inside (semaphores m) a h.1.0 in
      let q = L.semaphore_queues a ia in
      let n = few 0 m.P (m.waiters a) q.once (λ x i. omega (arith, (q.only x i).0)) in
      either Legal (below_zero (down (m.counter a)))
      (λ t. legal_lower L me.0 me.1 a ia (leb-true 32768 _ t))
      (λ t. legal_counter (legal_reason L me.0) a _ (λ i. counter_less (L.counters a i) (omega (arith, L.fixed.P32)) (leb-false 32768 _ t)))

  pub raise : (a : ℕ) → refusal m (Raise a) ≡ 0 → Legal (effect m (Raise a)).machine
  unfolding refusal effect
  raise a e =
      let h = passes _ (omega arith) e in
      let ia = inside (semaphores m) a h.1.0 in
      either Legal (below_zero (m.counter a))
      (λ t. (let c = longest L a ia (leb-true 32768 _ t) in legal_relieved L c.0 (omega (arith, c.1))))
      (λ t. legal_counter L a _ (λ i. counter_more (L.counters a i) (leb-false 32768 _ t) (eqb-false (m.counter a) 32767 h.1.1.0)))

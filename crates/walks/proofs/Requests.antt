-- The walk of every accepted request, exactly, on legal machines. Assumes nothing.
use Prim.Native.Nat.{ℕ}
use native.Mathlib.Omega.{arith}
use mathlib.Core.Bool.{Bool, true, false}
use mathlib.Core.Path.{◌≡◌, refl, sym, ap, ◌∙◌}
use lib.Dec.{eqb}
use borrow.Author.Tests.{leb-true, ltb-false}
use Rattle.machine.specs.Queue.{same, head}
use Rattle.machine.specs.Machine.{Machine, Words, state, priority, owner, standing, waiter, kept, edition, semaphores, below_zero, current, up, put_semaphore}
use Rattle.machine.specs.Machine.{down}
use Rattle.machine.specs.Moves.{wake, free, answered, waiting, off_semaphore}
use Rattle.machine.specs.Request.{Request, Send, WaitAnswer, WaitEvent, SendAnswer, WaitInterrupt, Start, Stop, Clean, Tick, Interrupt, ListOpen}
use Rattle.machine.specs.Request.{Lower, Raise, Unknown}
use Rattle.machine.specs.Refusal.{outside, free_own, refusal}
use Rattle.machine.specs.Step.{Outcome, effect, step, queued, sent, answered_or_freed, unawaited, ticked}
use Rattle.machine.specs.Walk.{Walk, effort}
use Rattle.machine.specs.Legal.{Legal}
use Rattle.lists.proofs.Tests.{either, tested, or_false, inside, passes}
use Rattle.lists.proofs.Links.{cases, no_same, refl_same}
use Rattle.laws.proofs.States.{some_waiter, longest}
use Rattle.laws.proofs.Step.{legal_step}
use Rattle.walks.specs.Exactly.{moving_past, Exactly}
use Rattle.walks.proofs.Folded.{Steps}
use Rattle.walks.proofs.Calls.{nobody, single, waking_exactly, moving_exactly, clean_exactly}

-- ---- steps
still : (p : ℕ) (m k : Machine) → state k ≡ state m → priority k ≡ priority m → k.P ≡ m.P → Steps p m k
still p m k e r n =
    let states : (j : ℕ) → state k j ≡ state m j = λ j. ap (λ (f : ℕ → ℕ). f j) e in
    record { size = n; ranks = r; others = λ j ne z. sym (states j) ∙ z; on = λ j z. states j ∙ z }

wakes : (r p : ℕ) (m k : Machine) → state k ≡ state m → priority k ≡ priority m → k.P ≡ m.P → Steps p m (wake r p k)
wakes r p m k e rk n =
    let states : (j : ℕ) → state k j ≡ state m j = λ j. ap (λ (f : ℕ → ℕ). f j) e in
    record {
      size = n;
      ranks = rk;
      others = λ j ne z. sym (states j) ∙ (sym (no_same j p 1 _ ne) ∙ z);
      on = λ j z. cases j p (λ q. rw q (refl_same p 1 _)) (λ ne. no_same j p 1 _ ne ∙ states j ∙ z);
    }

-- who goes into another state than 1 doesn't enter
paused : (s p : ℕ) (f : ℕ → ℕ) → (s ≡ 1 → ⊥) → (k : ℕ) → same k p s (f k) ≡ 1 → f k ≡ 1
paused s p f n k e = cases k p (λ z. absurd (n (sym (refl_same p s (f p)) ∙ (rw z at e)))) (λ ne. sym (no_same k p s (f k) ne) ∙ e)

-- ---- which requests
abbrev pub is_interrupt : Request → Bool
is_interrupt (Send a ws) = false
is_interrupt (WaitAnswer a) = false
is_interrupt (WaitEvent d) = false
is_interrupt (SendAnswer a ws) = false
is_interrupt (WaitInterrupt a d) = false
is_interrupt (Start a) = false
is_interrupt (Stop a) = false
is_interrupt (Clean a) = false
is_interrupt Tick = false
is_interrupt (Interrupt a) = true
is_interrupt (ListOpen a room) = false
is_interrupt (Lower a) = false
is_interrupt (Raise a) = false
is_interrupt Unknown = false

-- x for a tick, else 0
abbrev pub at_tick : Request → ℕ → ℕ
at_tick (Send a ws) x = 0
at_tick (WaitAnswer a) x = 0
at_tick (WaitEvent d) x = 0
at_tick (SendAnswer a ws) x = 0
at_tick (WaitInterrupt a d) x = 0
at_tick (Start a) x = 0
at_tick (Stop a) x = 0
at_tick (Clean a) x = 0
at_tick Tick x = x
at_tick (Interrupt a) x = 0
at_tick (ListOpen a room) x = 0
at_tick (Lower a) x = 0
at_tick (Raise a) x = 0
at_tick Unknown x = 0

-- ---- each request
abbrev pub Told : Machine → Request → Machine → Walk → Type 0
Told m r n w = Exactly m.P (priority m) (state m) (state n) (is_interrupt r) (at_tick r (moving_past m.P (current m) (priority m) (state n))) w

module _ {m : Machine} (L : Legal m) where
  legal_effect : (r : Request) → refusal m r ≡ 0 → Legal (effect m r).machine
  unfolding step
  legal_effect r e = rw e at (legal_step L r)

  send_steps : (a b : ℕ) (ws : Words) → Steps a m (sent a b ws m)
  send_steps a b ws =
      either (Steps a m) (eqb (state m a) 2) (λ t. wakes 1 a m (queued a b ws m) refl refl refl) (λ t. still a m (queued a b ws m) refl refl refl)

  answer_steps : (a : ℕ) (ws : Words) → Steps (owner m a) m (answered_or_freed a ws m)
  answer_steps a ws =
      let S = Steps (owner m a) m in
      either S (eqb (standing m a) 2)
      (λ t. either S (waiting a m) (λ t. wakes 1 (owner m a) m (answered a ws m) refl refl refl) (λ t. still (owner m a) m (answered a ws m) refl refl refl))
      (λ t. still (owner m a) m (free a m) refl refl refl)

  tick_told : Told m Tick (ticked m) (effort m Tick)
  unfolding effort
  tick_told = let e = waking_exactly L in record { entries = e.entries; passed = e.passed; most = e.most; moves = moving_exactly L }

  interrupt_told : (a : ℕ) → refusal m (Interrupt a) ≡ 0 → Told m (Interrupt a) (effect m (Interrupt a)).machine (effort m (Interrupt a))
  unfolding effort effect refusal
  interrupt_told a e =
      tested {C = Told m (Interrupt a) (effect m (Interrupt a)).machine (effort m (Interrupt a))} (eqb (waiter m a) 0)
      (λ t. rw t (nobody m (unawaited a m) true (λ k. either (λ (n : Machine). state n k ≡ 1 → state m k ≡ 1) (eqb (edition m) 1) (λ t z. z) (λ t z. z))))
      (λ t. rw t (single L (rw t at (legal_effect (Interrupt a) e)) 3 (waiter m a) (wakes 3 (waiter m a) m m refl refl refl)
      (some_waiter m a L (omega (arith, ltb-false 63 a (passes _ (omega arith) e).0)) t).0))

  raise_told : (a : ℕ) → refusal m (Raise a) ≡ 0 → Told m (Raise a) (effect m (Raise a)).machine (effort m (Raise a))
  unfolding effort effect refusal
  raise_told a e =
      let p = head (m.waiters a) in
      tested {C = Told m (Raise a) (effect m (Raise a)).machine (effort m (Raise a))} (below_zero (m.counter a))
      (λ t. rw t (single L (rw t at (legal_effect (Raise a) e)) 5 p (wakes 5 p m (off_semaphore p m) refl refl refl)
      (longest L a (inside (semaphores m) a (passes _ (omega arith) e).1.0) (leb-true 32768 _ t)).0))
      (λ t. rw t (nobody m (put_semaphore a (up (m.counter a)) (m.waiters a) m) false (λ k z. z)))

  pub effort_exactly : (r : Request) → refusal m r ≡ 0 → Told m r (effect m r).machine (effort m r)
  unfolding effort effect refusal
  effort_exactly (Send a ws) e =
      single L (legal_effect (Send a ws) e) 1 a (send_steps a (free_own m (current m)) ws) (inside m.P a (passes _ (omega arith) e).1.0)
  effort_exactly (WaitAnswer a) e =
      nobody m (effect m (WaitAnswer a)).machine false
      (λ k. either (λ (o : Outcome). state o.machine k ≡ 1 → state m k ≡ 1) (eqb (standing m a) 3) (λ t z. z)
      (λ t. paused 3 (current m) (state m) (omega arith) k))
  effort_exactly (WaitEvent d) e =
      let b = head (m.events (current m)) in
      let N : ℕ → Outcome → Type 0 = λ k o. state o.machine k ≡ 1 → state m k ≡ 1 in
      nobody m (effect m (WaitEvent d)).machine false
      (λ k. either (N k) (eqb b 0) (λ t. paused 2 (current m) (state m) (omega arith) k) (λ t. either (N k) (eqb (standing m b) 1) (λ t z. z) (λ t z. z)))
  effort_exactly (SendAnswer a ws) e =
      single L (legal_effect (SendAnswer a ws) e) 1 (owner m a) (answer_steps a ws)
      (L.fixed.owned a (inside m.B a (or_false {a = outside a m.B} (passes _ (omega arith) e).1.0).0))
  effort_exactly (WaitInterrupt a d) e =
      nobody m (effect m (WaitInterrupt a d)).machine false
      (λ k. either (λ (o : Outcome). state o.machine k ≡ 1 → state m k ≡ 1) (eqb (m.device a) kept) (λ t z. z)
      (λ t. paused 4 (current m) (state m) (omega arith) k))
  effort_exactly (Start a) e = single L (legal_effect (Start a) e) 0 a (wakes 0 a m m refl refl refl) (inside m.P a (passes _ (omega arith) e).0)
  effort_exactly (Stop a) e = nobody m (effect m (Stop a)).machine false (λ k. paused 0 a (state m) (omega arith) k)
  effort_exactly (Clean a) e = clean_exactly L (inside m.P a (passes _ (omega arith) e).0)
  effort_exactly Tick e = tick_told
  effort_exactly (Interrupt a) e = interrupt_told a e
  effort_exactly (ListOpen a room) e = nobody m m false (λ k z. z)
  effort_exactly (Lower a) e =
      nobody m (effect m (Lower a)).machine false
      (λ k. either (λ (n : Machine). state n k ≡ 1 → state m k ≡ 1) (below_zero (down (m.counter a))) (λ t. paused 5 (current m) (state m) (omega arith) k)
      (λ t z. z))
  effort_exactly (Raise a) e = raise_told a e
  effort_exactly Unknown e = absurd (omega (arith, e))

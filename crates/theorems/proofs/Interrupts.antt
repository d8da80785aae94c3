-- docs/MONITOR.md, 8: a kept interrupt stays, whatever calls follow, until call 05 for its device takes it. Assumes nothing.
use Prim.Native.Nat.{ℕ, zero, suc, ◌+◌}
use native.Mathlib.Omega.{arith}
use mathlib.Core.Bool.{Bool}
use mathlib.Core.Path.{◌≡◌, refl, sym, ◌∙◌}
use lib.Dec.{eqb}
use borrow.Author.Tests.{eq-eqb, eqb-false, leb-true, ltb-false}
use Rattle.machine.specs.Queue.{head, Range}
use Rattle.machine.specs.Machine.{Machine, state, owner, receiver, standing, edition, kept, waiter, semaphores, below_zero, down, current}
use Rattle.machine.specs.Machine.{Words, zeros, processes, buffers}
use Rattle.machine.specs.Moves.{wake, requeue, end_wait, off_semaphore, unlink, waiting, answered, answer_with, withdrawn, clean_buffer}
use Rattle.machine.specs.Request.{Request, Send, WaitAnswer, WaitEvent, SendAnswer, WaitInterrupt, Start, Stop, Clean, Tick, Interrupt, ListOpen}
use Rattle.machine.specs.Request.{Lower, Raise, Unknown}
use Rattle.machine.specs.Refusal.{outside, free_own, refusal}
use Rattle.machine.specs.Step.{Outcome, done, queued, interrupted, halted, cleaned, fall, fallen, expiring, woken, grow, ticked, effect, judge, step}
use Rattle.machine.specs.Legal.{Legal}
use Rattle.lists.proofs.Links.{cases, yes_same, no_same, refl_same}
use Rattle.lists.proofs.Tests.{either, or_false, inside, passes}
use Rattle.lists.proofs.Numbers.{fold_keeps, in_from, in_keep}
use Rattle.lists.proofs.Lists.{at_all}
use Rattle.laws.proofs.States.{some_waiter, longest}
use Rattle.laws.proofs.Dispatch.{accepted}

-- device d keeps its interrupt and none of the P processes waits for it; the buffers have the owners that they had
record Still (d P : ℕ) (owned owns awaits devices : ℕ → ℕ) : Type 0 where
  owners : (b : ℕ) → owns b ≡ owned b
  word : devices d ≡ kept
  nobody : (p : ℕ) → Range P p → awaits p ≡ suc d → ⊥

-- so it is in n, on the way from m
abbrev Keeps : ℕ → Machine → Machine → Type 0
Keeps d m n = Still d m.P (owner m) (owner n) (λ p. n.process p 8) n.device

-- call 05 for device d
abbrev pub Asks : ℕ → Request → Type 0
Asks d (Send a ws) = ⊥
Asks d (WaitAnswer a) = ⊥
Asks d (WaitEvent x) = ⊥
Asks d (SendAnswer a ws) = ⊥
Asks d (WaitInterrupt a x) = a ≡ d
Asks d (Start a) = ⊥
Asks d (Stop a) = ⊥
Asks d (Clean a) = ⊥
Asks d Tick = ⊥
Asks d (Interrupt a) = ⊥
Asks d (ListOpen a room) = ⊥
Asks d (Lower a) = ⊥
Asks d (Raise a) = ⊥
Asks d Unknown = ⊥

module _ {d : ℕ} {m : Machine} (L : Legal m) where
  -- a device that p waits for names p
  named : (p : ℕ) → Range m.P p → m.process p 8 ≡ suc d → m.device d ≡ p
  named p r e =
      cases (state m p) 4 (λ s. let c = L.waits p r s in let z : d ≡ c.d = omega (arith, c.word) in rw z c.named)
      (λ n. absurd (omega (arith, (L.process p r).no_device n)))

  begins : m.device d ≡ kept → Keeps d m m
  begins k = record { owners = λ b. refl; word = k; nobody = λ p r e. (let z : p ≡ kept = sym (named p r e) ∙ k in omega (arith, L.fixed.P32)) }

  -- ---- moves
  ends : (p : ℕ) → Range m.P p → (n : Machine) → Keeps d m n → Keeps d m (end_wait p n)
  ends p r n k =
      record {
        owners = k.owners;
        word = no_same (suc d) (n.process p 8) 0 _ (λ e. k.nobody p r (sym e)) ∙ k.word;
        nobody = λ q i e. cases q p (λ z. (let f : 0 ≡ suc d = sym (rw z (refl_same p 0 _)) ∙ e in omega arith))
            (λ z. k.nobody q i (sym (no_same q p 0 _ z) ∙ e));
      }

  wakes : (reason p : ℕ) → Range m.P p → (n : Machine) → Keeps d m n → Keeps d m (wake reason p n)
  wakes reason p r n k = ends p r n k

  answers : (b : ℕ) (ws : Words) → Range m.B b → (n : Machine) → Keeps d m n → Keeps d m (answer_with b ws n)
  answers b ws i n k =
      either (Keeps d m) (waiting b n) (λ t. wakes 1 (owner n b) (rw (k.owners b) (L.fixed.owned b i)) (answered b ws n) k) (λ t. k)

  cleans : (p b : ℕ) → Range m.B b → (n : Machine) → Keeps d m n → Keeps d m (clean_buffer p b n)
  unfolding clean_buffer
  cleans p b i n k =
      let s : ℕ → Bool = eqb (standing n b) in
      let C : Machine → Type 0 = Keeps d m in
      either C (eqb (owner n b) p)
      (λ _. either C (s 1) (λ _. k) (λ _. either C (s 3) (λ _. k) (λ _. either C (s 2) (λ _. k) (λ _. k))))
      (λ _. either C (eqb (receiver n b) p)
      (λ _. either C (s 1) (λ _. answers b withdrawn i (unlink p b n) k)
      (λ _. either C (s 2) (λ _. answers b withdrawn i n k) (λ _. either C (s 4) (λ _. k) (λ _. k))))
      (λ _. k))

  -- ---- calls
  module _ (k : Keeps d m m) where
    abbrev On : Outcome → Type 0
    On o = Keeps d m o.machine

    send : (a : ℕ) (ws : Words) → refusal m (Send a ws) ≡ 0 → On (effect m (Send a ws))
    unfolding effect refusal
    send a ws e =
        let b : ℕ = free_own m (current m) in
        either (Keeps d m) (eqb (state m a) 2) (λ t. wakes 1 a (inside m.P a (passes _ (omega arith) e).1.0) (queued a b ws m) k) (λ t. k)

    send_answer : (a : ℕ) (ws : Words) → refusal m (SendAnswer a ws) ≡ 0 → On (effect m (SendAnswer a ws))
    unfolding effect refusal
    send_answer a ws e =
        let i = inside m.B a (or_false {a = outside a m.B} (passes _ (omega arith) e).1.0).0 in
        either (Keeps d m) (eqb (standing m a) 2) (λ t. answers a ws i m k) (λ t. k)

    -- for another device
    wait_interrupt : (a x : ℕ) → (a ≡ d → ⊥) → On (effect m (WaitInterrupt a x))
    unfolding effect
    wait_interrupt a x n =
        let p : ℕ = current m in
        either On (eqb (m.device a) kept)
        (λ t. record { owners = k.owners; word = no_same d a 0 _ (λ e. n (sym e)) ∙ k.word; nobody = k.nobody })
        (λ t. record {
          owners = k.owners;
          word = no_same d a p _ (λ e. n (sym e)) ∙ k.word;
          nobody = λ q i e. cases q p
              (λ z. (let f : a + 1 ≡ suc d = sym (yes_same q p (a + 1) _ z) ∙ e in n (omega arith)))
              (λ z. k.nobody q i (sym (no_same q p _ _ z) ∙ e));
        })

    halts : (a : ℕ) → Range m.P a → Keeps d m (halted a m)
    halts a r = either (Keeps d m) (eqb (state m a) 0) (λ t. k) (λ t. ends a r (off_semaphore a m) k)

    clean : (a : ℕ) → Range m.P a → Keeps d m (cleaned a m)
    clean a r =
        fold_keeps (Keeps d m) (clean_buffer a) (buffers m) (λ b j n c. cleans a b (let h = in_from b 1 m.B j in omega arith) n c) (halted a m) (halts a r)

    tick : Keeps d m (ticked m)
    tick =
        let f = fold_keeps (Keeps d m) fall (processes m) (λ p j n c. c) m k in
        let w : Keeps d m (woken m) = fold_keeps (Keeps d m) (wake 2) (expiring m)
        (λ p j n c. wakes 2 p (let h = in_from p 1 m.P (in_keep p _ (processes m) j).0 in omega arith) n c) (fallen m) f in
        let n : Machine = requeue (current m) (woken m) in
        fold_keeps (Keeps d m) grow (buffers n) (λ b j n c. c) n (either (Keeps d m) (eqb (current m) 0) (λ t. w) (λ t. w))

    interrupt : (a : ℕ) → refusal m (Interrupt a) ≡ 0 → On (effect m (Interrupt a))
    unfolding effect refusal
    interrupt a e =
        either On (eqb (waiter m a) 0)
        (λ t. either (Keeps d m) (eqb (edition m) 1)
        (λ u. record { owners = k.owners; word = at_all (λ (w : ℕ). w ≡ kept) m.device a kept d (λ z. refl) (λ z. k.word); nobody = k.nobody })
        (λ u. k))
        (λ t. wakes 3 (waiter m a) (some_waiter m a L (omega (arith, ltb-false 63 a (passes _ (omega arith) e).0)) t).0 m k)

    raise : (a : ℕ) → refusal m (Raise a) ≡ 0 → On (effect m (Raise a))
    unfolding effect refusal
    raise a e =
        let p : ℕ = head (m.waiters a) in
        either (Keeps d m) (below_zero (m.counter a))
        (λ t. wakes 5 p (longest L a (inside (semaphores m) a (passes _ (omega arith) e).1.0) (leb-true 32768 _ t)).0 (off_semaphore p m) k) (λ t. k)

    -- any accepted call but that
    goes_on : (q : Request) → refusal m q ≡ 0 → (Asks d q → ⊥) → On (effect m q)
    unfolding effect refusal
    goes_on (Send a ws) e n = send a ws e
    goes_on (WaitAnswer a) e n = either On (eqb (standing m a) 3) (λ t. k) (λ t. k)
    goes_on (WaitEvent x) e n =
        let b : ℕ = head (m.events (current m)) in
        either On (eqb b 0) (λ t. k) (λ t. either On (eqb (standing m b) 1) (λ u. k) (λ u. k))
    goes_on (SendAnswer a ws) e n = send_answer a ws e
    goes_on (WaitInterrupt a x) e n = wait_interrupt a x n
    goes_on (Start a) e n = wakes 0 a (inside m.P a (passes _ (omega arith) e).0) m k
    goes_on (Stop a) e n = ends a (inside m.P a (passes _ (omega arith) e).0) (off_semaphore a m) k
    goes_on (Clean a) e n = clean a (inside m.P a (passes _ (omega arith) e).0)
    goes_on Tick e n = tick
    goes_on (Interrupt a) e n = interrupt a e
    goes_on (ListOpen a room) e n = k
    goes_on (Lower a) e n = either (Keeps d m) (below_zero (down (m.counter a))) (λ t. k) (λ t. k)
    goes_on (Raise a) e n = raise a e
    goes_on Unknown e n = k

  -- ---- a kept interrupt stays: through refused calls, and through accepted ones but 05 for its device
  pub kept_stays : m.device d ≡ kept → (q : Request) → ((step m q).answer.number ≡ 0 → Asks d q → ⊥) → (step m q).machine.device d ≡ kept
  unfolding step
  kept_stays h q = go (refusal m q) refl
    where
      go : (x : ℕ) → refusal m q ≡ x → ((judge x (effect m q) m).answer.number ≡ 0 → Asks d q → ⊥) → (judge x (effect m q) m).machine.device d ≡ kept
      go zero e n = (goes_on (begins h) q e (n (accepted m q e).number)).word
      go (suc x) e n = h

-- accepted with kind 0, device a keeps an interrupt
abbrev pub NowKept : ℕ → Outcome → Type 0
NowKept a o = o.answer.number ≡ 0 → o.answer.kind ≡ 0 → o.machine.device a ≡ kept

-- in edition 1 an interrupt without a waiter is kept
pub interrupt_kept : (m : Machine) (a : ℕ) → edition m ≡ 1 → NowKept a (step m (Interrupt a))
unfolding step effect
interrupt_kept m a e = go (refusal m (Interrupt a))
  where
    go : (x : ℕ) → NowKept a (judge x (effect m (Interrupt a)) m)
    go zero =
        either (NowKept a) (eqb (waiter m a) 0) (λ t n z. rw (eq-eqb (edition m) 1 e) (refl_same a kept (m.device a)))
        (λ t n z. absurd (eqb-false (waiter m a) 0 t z))
    go (suc x) = λ n z. absurd (omega arith)

-- and the next call 05 for its device returns at once with it
pub kept_taken : (m : Machine) (a x : ℕ) → m.device a ≡ kept → (step m (WaitInterrupt a x)).answer.number ≡ 0
    → step m (WaitInterrupt a x) ≡ done 3 0 zeros (interrupted a (current m) m)
unfolding step effect
kept_taken m a x k = go (refusal m (WaitInterrupt a x))
  where
    go : (n : ℕ) → (judge n (effect m (WaitInterrupt a x)) m).answer.number ≡ 0
        → judge n (effect m (WaitInterrupt a x)) m ≡ done 3 0 zeros (interrupted a (current m) m)
    go zero h = rw (eq-eqb (m.device a) kept k)
    go (suc n) h = absurd (omega arith)

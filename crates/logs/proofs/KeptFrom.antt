-- Where a kept interrupt comes from: a device's word becomes FFFF by an interrupt without a waiter and by nothing else. Assumes nothing.
use Prim.Native.Nat.{ℕ, suc}
use native.Mathlib.Omega.{arith}
use mathlib.Core.Bool.{Bool}
use mathlib.Core.Logic.{◌⊎◌, inl, inr}
use mathlib.Core.Path.{◌≡◌, refl, sym, ◌∙◌}
use lib.Dec.{eqb}
use borrow.Author.Tests.{eqb-false}
use Rattle.machine.specs.Queue.{same, head}
use Rattle.machine.specs.Machine.{Machine, Words, edition, kept, waiter, current, state, owner, receiver, standing, below_zero, down, buffers}
use Rattle.machine.specs.Moves.{wake, requeue, unlink, waiting, answer_with, withdrawn, clean_buffer}
use Rattle.machine.specs.Request.{Request, Send, WaitAnswer, WaitEvent, SendAnswer, WaitInterrupt, Start, Stop, Clean, Tick, Interrupt, ListOpen}
use Rattle.machine.specs.Request.{Lower, Raise, Unknown}
use Rattle.machine.specs.Refusal.{refusal}
use Rattle.machine.specs.Step.{Answer, Outcome, effect, halted, fallen, fall, expiring, woken, grow, ticked}
use Rattle.machine.specs.Legal.{Legal}
use Rattle.lists.proofs.Tests.{either, passes}
use Rattle.lists.proofs.Links.{cases, no_same, refl_same}
use Rattle.lists.proofs.Numbers.{first_in, fold_keeps}

-- call 0A of device d, answered with kind 0
abbrev pub IsUnheard : ℕ → Request → Answer → Type 0
IsUnheard d (Send a ws) r = ⊥
IsUnheard d (WaitAnswer a) r = ⊥
IsUnheard d (WaitEvent x) r = ⊥
IsUnheard d (SendAnswer a ws) r = ⊥
IsUnheard d (WaitInterrupt a x) r = ⊥
IsUnheard d (Start a) r = ⊥
IsUnheard d (Stop a) r = ⊥
IsUnheard d (Clean a) r = ⊥
IsUnheard d Tick r = ⊥
IsUnheard d (Interrupt a) r = (a ≡ d) × (r.kind ≡ 0)
IsUnheard d (ListOpen a room) r = ⊥
IsUnheard d (Lower a) r = ⊥
IsUnheard d (Raise a) r = ⊥
IsUnheard d Unknown r = ⊥

-- a word that was cleared isn't kept
off : (x y z : ℕ) → same x y 0 z ≡ kept → z ≡ kept
off x y z e = cases x y (λ k. absurd (omega (arith, sym (refl_same y 0 z), rw k at e))) (λ n. sym (no_same x y 0 z n) ∙ e)

module _ {m : Machine} (L : Legal m) (d : ℕ) where
  -- what n keeps, m kept
  abbrev D : Machine → Type 0
  D n = n.device d ≡ kept → m.device d ≡ kept

  abbrev O : Outcome → Type 0
  O o = D o.machine

  wakes : (r p : ℕ) (n : Machine) → D n → D (wake r p n)
  wakes r p n h e = h (off (suc d) (n.process p 8) (n.device d) e)

  answers : (b : ℕ) (ws : Words) (n : Machine) → D n → D (answer_with b ws n)
  answers b ws n h = either D (waiting b n) (λ t. wakes 1 (owner n b) n h) (λ t. h)

  cleans : (p b : ℕ) (n : Machine) → D n → D (clean_buffer p b n)
  unfolding clean_buffer
  cleans p b n h =
      let s : ℕ → Bool = eqb (standing n b) in
      either D (eqb (owner n b) p)
      (λ _. either D (s 1) (λ _. h) (λ _. either D (s 3) (λ _. h) (λ _. either D (s 2) (λ _. h) (λ _. h))))
      (λ _. either D (eqb (receiver n b) p)
      (λ _. either D (s 1) (λ _. answers b withdrawn (unlink p b n) h)
      (λ _. either D (s 2) (λ _. answers b withdrawn n h) (λ _. either D (s 4) (λ _. h) (λ _. h))))
      (λ _. h))

  ticks : D (ticked m)
  ticks =
      let w : D (woken m) = fold_keeps D (wake 2) (expiring m) (λ p i n h. wakes 2 p n h) (fallen m) (fold_keeps D fall _ (λ p i n h. h) m (λ e. e)) in
      fold_keeps D grow _ (λ b i n h. h) (requeue (current m) (woken m)) (either D (eqb (current m) 0) (λ t. w) (λ t. w))

  -- the caller is no device word
  caller : (q : ℕ) → (current m ≡ 0 → ⊥) → current m ≡ kept → ⊥
  caller q n e = let i = (L.running.only (current m) (first_in m.running n)).0 in omega (arith, i, L.fixed.P32)

  awaits : (a x : ℕ) → refusal m (WaitInterrupt a x) ≡ 0 → O (effect m (WaitInterrupt a x))
  unfolding effect refusal
  awaits a x e =
      either O (eqb (m.device a) kept) (λ t h. off d a (m.device d) h)
      (λ t h. cases d a (λ z. absurd
      (caller d (eqb-false (current m) 0 (passes _ (omega arith) e).0) (sym (refl_same a (current m) (m.device a)) ∙ (rw z at h))))
      (λ n. sym (no_same d a (current m) (m.device d) n) ∙ h))

  abbrev From : Request → Outcome → Type 0
  From q o = o.machine.device d ≡ kept → (m.device d ≡ kept) ⊎ IsUnheard d q o.answer

  interrupts : (a : ℕ) → From (Interrupt a) (effect m (Interrupt a))
  unfolding effect
  interrupts a =
      either (From (Interrupt a)) (eqb (waiter m a) 0)
      (λ t. either (λ (n : Machine). n.device d ≡ kept → (m.device d ≡ kept) ⊎ ((a ≡ d) × (◌≡◌ {A = ℕ} 0 0))) (eqb (edition m) 1)
      (λ t h. cases d a (λ z. inr (sym z, refl)) (λ n. inl (sym (no_same d a kept (m.device d) n) ∙ h)))
      (λ t h. inl h))
      (λ t h. inl (wakes 3 (waiter m a) m (λ e. e) h))

  pub kept_from : (q : Request) → refusal m q ≡ 0 → From q (effect m q)
  unfolding effect
  kept_from (Send a ws) e h = inl (either D (eqb (state m a) 2) (λ t. wakes 1 a m (λ e. e)) (λ t e. e) h)
  kept_from (WaitAnswer a) e h = inl (either O (eqb (standing m a) 3) (λ t e. e) (λ t e. e) h)
  kept_from (WaitEvent x) e h =
      let b = head (m.events (current m)) in
      inl (either O (eqb b 0) (λ t e. e) (λ t. either O (eqb (standing m b) 1) (λ t e. e) (λ t e. e)) h)
  kept_from (SendAnswer a ws) e h = inl (either D (eqb (standing m a) 2) (λ t. answers a ws m (λ e. e)) (λ t e. e) h)
  kept_from (WaitInterrupt a x) e h = inl (awaits a x e h)
  kept_from (Start a) e h = inl (wakes 0 a m (λ e. e) h)
  kept_from (Stop a) e h = inl (off (suc d) (m.process a 8) (m.device d) h)
  kept_from (Clean a) e h =
      inl (fold_keeps D (clean_buffer a) (buffers m) (λ b i n h. cleans a b n h) (halted a m)
      (either D (eqb (state m a) 0) (λ t e. e) (λ t e. off (suc d) (m.process a 8) (m.device d) e)) h)
  kept_from Tick e h = inl (ticks h)
  kept_from (Interrupt a) e h = interrupts a h
  kept_from (ListOpen a room) e h = inl h
  kept_from (Lower a) e h = inl (either D (below_zero (down (m.counter a))) (λ t e. e) (λ t e. e) h)
  kept_from (Raise a) e h = inl (either D (below_zero (m.counter a)) (λ t. wakes 5 (head (m.waiters a)) m (λ e. e)) (λ t e. e) h)
  kept_from Unknown e h = inl h

  -- an accepted 05 leaves none for its device
  pub none_left : (a x : ℕ) → refusal m (WaitInterrupt a x) ≡ 0 → a ≡ d → (effect m (WaitInterrupt a x)).machine.device d ≡ kept → ⊥
  unfolding effect refusal
  none_left a x e z =
      let some = eqb-false (current m) 0 (passes _ (omega arith) e).0 in
      either (λ (o : Outcome). o.machine.device d ≡ kept → ⊥) (eqb (m.device a) kept)
      (λ t h. absurd (omega (arith, sym (refl_same d 0 (m.device d)), rw z at h)))
      (λ t h. caller d some (sym (refl_same d (current m) (m.device d)) ∙ (rw z at h)))

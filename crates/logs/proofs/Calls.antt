-- Each call moves each buffer of a legal machine as the nine lines say. Assumes nothing.
use Prim.Native.Nat.{ℕ}
use native.Mathlib.Omega.{arith}
use mathlib.Core.Bool.{true, false, not, ◌&&◌}
use mathlib.Core.Path.{◌≡◌, refl, sym, ap, ◌∙◌}
use lib.Dec.{eqb}
use borrow.Author.Tests.{eq-eqb, ne_eqb, eqb-true, not-false}
use Rattle.machine.specs.Queue.{head, Range}
use Rattle.machine.specs.Machine.{Machine, state, owner, receiver, standing, age, edition, kept, waiter, below_zero, down, current}
use Rattle.machine.specs.Machine.{Words, zeros, processes, buffers}
use Rattle.machine.specs.Moves.{wake, requeue}
use Rattle.machine.specs.Request.{Request, Send, WaitAnswer, WaitEvent, SendAnswer, WaitInterrupt, Start, Stop, Clean, Tick, Interrupt, ListOpen}
use Rattle.machine.specs.Request.{Lower, Raise, Unknown}
use Rattle.machine.specs.Refusal.{outside, free_own, refusal}
use Rattle.machine.specs.Step.{Outcome, done, queued, fallen, expiring, woken, grow, effect}
use Rattle.machine.specs.Legal.{Legal}
use Rattle.machine.specs.Log.{move}
use Rattle.lists.proofs.Links.{cases}
use Rattle.lists.proofs.Tests.{either, tested, and_true, or_false, second, passes}
use Rattle.lists.proofs.Numbers.{fold_keeps}
use Rattle.laws.proofs.Calls.{own_free}
use Rattle.theorems.proofs.Ages.{tick_talks}
use Rattle.laws.specs.Talk.{talk}
use Rattle.logs.proofs.LeftAlone.{shape, Books, books, booked, may_wake, fold_books, put_both, put_freed, put_standing, answer_books, answer_talk}
use Rattle.logs.proofs.Cleaned.{Apart, clean_shape, clean_moves}

-- what the outcome of an accepted call has to be
pub record Told (m : Machine) (r : Request) (o : Outcome) : Type 0 where
  pub same_shape : shape o.machine ≡ shape m
  pub moves : (b : ℕ) → Range m.B b → talk o.machine b ≡ move b (talk m b) r o.answer

-- a call that changes no buffer
still : (m : Machine) (r : Request) (o : Outcome) → books o.machine ≡ books m → ((b : ℕ) → talk m b ≡ move b (talk m b) r o.answer) → Told m r o
still m r o e h = record { same_shape = ap (λ (x : Books). x.shaped) e; moves = λ k i. ap (λ (x : Books). booked x k) e ∙ h k }

module _ (m : Machine) where
  -- the buffer of a send was free, so its age is 0
  send : Legal m → (a : ℕ) (ws : Words) → refusal m (Send a ws) ≡ 0 → Told m (Send a ws) (effect m (Send a ws))
  unfolding effect move refusal
  send L a ws h =
      let b : ℕ = free_own m (current m) in
      let w : books (effect m (Send a ws)).machine ≡ books (queued a b ws m) = may_wake (eqb (state m a) 2) 1 a (queued a b ws m) in
      let own = own_free L (current m) (passes _ (omega arith) h).1.1.1.0 in
      let new : age m b ≡ 0 = ((L.buffer b own.0.0).free own.1).1 in
      record {
        same_shape = ap (λ (x : Books). x.shaped) w;
        moves = λ k i. ap (λ (x : Books). booked x k) w ∙ put_both k b a 1 (talk m k)
            ∙ cases k b (λ e. rw (e, new)) (λ n. simp (ne_eqb k b n));
      }

  wait_answer : (a : ℕ) → Told m (WaitAnswer a) (effect m (WaitAnswer a))
  unfolding effect move
  wait_answer a =
      either (Told m (WaitAnswer a)) (eqb (standing m a) 3)
      (λ e. record { same_shape = refl; moves = λ k i. put_freed k a (talk m k) })
      (λ e. record { same_shape = refl; moves = λ k i. refl })

  wait_event : (d : ℕ) → Told m (WaitEvent d) (effect m (WaitEvent d))
  unfolding effect move
  wait_event d =
      let b : ℕ = head (m.events (current m)) in
      either (Told m (WaitEvent d)) (eqb b 0)
      (λ e. record { same_shape = refl; moves = λ k i. refl })
      (λ e. either (Told m (WaitEvent d)) (eqb (standing m b) 1)
      (λ e. record { same_shape = refl; moves = λ k i. put_standing k b 2 (talk m k) })
      (λ e. record { same_shape = refl; moves = λ k i. put_freed k b (talk m k) }))

  -- answered from standing 2, or else orphaned
  pub orphaned : (a : ℕ) (ws : Words) → refusal m (SendAnswer a ws) ≡ 0 → eqb (standing m a) 2 ≡ false → eqb (standing m a) 4 ≡ true
  unfolding refusal
  orphaned a ws h e =
      let t = (or_false {a = outside a m.B} (passes _ (omega arith) h).1.0).1 in
      second {a = eqb (standing m a) 2} (not-false _ (or_false {a = not (eqb (receiver m a) (current m))} t).1) e

  send_answer : (a : ℕ) (ws : Words) → refusal m (SendAnswer a ws) ≡ 0 → Told m (SendAnswer a ws) (effect m (SendAnswer a ws))
  unfolding effect move
  send_answer a ws h =
      either (λ (w : Machine). Told m (SendAnswer a ws) (done 0 0 zeros w)) (eqb (standing m a) 2)
      (λ e. record {
        same_shape = ap (λ (x : Books). x.shaped) (answer_books a ws m);
        moves = λ k i. answer_talk a ws m k ∙ cases k a (λ u. rw u (simp (eq-eqb a a refl, e))) (λ n. simp (ne_eqb k a n));
      })
      (λ e. record {
        same_shape = refl;
        moves = λ k i. put_freed k a (talk m k) ∙ cases k a (λ u. rw u (simp (eq-eqb a a refl, e, orphaned a ws h e))) (λ n. simp (ne_eqb k a n));
      })

  -- a receiver isn't the owner
  pub apart : Legal m → (a b : ℕ) → Range m.B b → Apart a (talk m b)
  apart L a b i =
      tested (eqb (owner m b) a && (eqb (receiver m b) a && eqb (standing m b) 4))
      (λ t.
      let t₁ = and_true {a = eqb (owner m b) a} t in
      let t₂ = and_true {a = eqb (receiver m b) a} t₁.1 in
      let s₄ = eqb-true (standing m b) 4 t₂.1 in
      absurd (((L.buffer b i).taken (omega arith)).1 (eqb-true (receiver m b) a t₂.0 ∙ sym (eqb-true (owner m b) a t₁.0))))
      (λ t. t)

  clean : Legal m → (a : ℕ) → Told m (Clean a) (effect m (Clean a))
  unfolding effect
  clean L a = record { same_shape = clean_shape a m; moves = λ k i. clean_moves a m k i (apart L a k i) _ }

  tick : Told m Tick (effect m Tick)
  unfolding effect
  tick =
      let n = requeue (current m) (woken m) in
      let moved : shape n ≡ shape (woken m) = either (λ (w : Machine). shape w ≡ shape (woken m)) (eqb (current m) 0) (λ e. refl) (λ e. refl) in
      record {
        same_shape = fold_keeps (λ w. shape w ≡ shape m) grow (buffers n) (λ b i w e. e) n
            (moved ∙ ap (λ (x : Books). x.shaped) (fold_books (wake 2) (λ p n. refl) (expiring m) (fallen m) ∙ fold_books _ (λ p n. refl) (processes m) m));
        moves = λ k i. tick_talks m k _ i;
      }

  interrupt : (a : ℕ) → Told m (Interrupt a) (effect m (Interrupt a))
  unfolding effect move
  interrupt a =
      either (Told m (Interrupt a)) (eqb (waiter m a) 0)
      (λ e. either (λ (w : Machine). Told m (Interrupt a) (done 0 0 zeros w)) (eqb (edition m) 1) (λ u. still m _ _ refl (λ k. refl))
      (λ u. still m _ _ refl (λ k. refl)))
      (λ e. still m _ _ refl (λ k. refl))

  wait_interrupt : (a d : ℕ) → Told m (WaitInterrupt a d) (effect m (WaitInterrupt a d))
  unfolding effect move
  wait_interrupt a d =
      either (Told m (WaitInterrupt a d)) (eqb (m.device a) kept) (λ e. still m _ _ refl (λ k. refl)) (λ e. still m _ _ refl (λ k. refl))

pub told : {m : Machine} → Legal m → (r : Request) → refusal m r ≡ 0 → Told m r (effect m r)
unfolding effect move refusal
told {m} L (Send a ws) h = send m L a ws h
told {m} L (WaitAnswer a) h = wait_answer m a
told {m} L (WaitEvent d) h = wait_event m d
told {m} L (SendAnswer a ws) h = send_answer m a ws h
told {m} L (WaitInterrupt a d) h = wait_interrupt m a d
told {m} L (Start a) h = still m _ _ refl (λ k. refl)
told {m} L (Stop a) h = still m _ _ refl (λ k. refl)
told {m} L (Clean a) h = clean m L a
told {m} L Tick h = tick m
told {m} L (Interrupt a) h = interrupt m a
told {m} L (ListOpen a room) h = still m _ _ refl (λ k. refl)
told {m} L (Lower a) h =
    either (λ (w : Machine). Told m (Lower a) (done 0 0 zeros w)) (below_zero (down (m.counter a)))
    (λ e. still m _ _ refl (λ k. refl)) (λ e. still m _ _ refl (λ k. refl))
told {m} L (Raise a) h =
    either (λ (w : Machine). Told m (Raise a) (done 0 0 zeros w)) (below_zero (m.counter a))
    (λ e. still m _ _ refl (λ k. refl)) (λ e. still m _ _ refl (λ k. refl))
told {m} L Unknown h = absurd (omega (arith, h))

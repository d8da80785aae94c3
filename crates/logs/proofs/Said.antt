-- Each call leaves in each buffer of a legal machine the words that the log's reading says. Assumes nothing.
use Prim.Native.Nat.{ℕ}
use native.Mathlib.Omega.{arith}
use mathlib.Core.Bool.{Bool, true, false}
use mathlib.Core.List.{List, [], ◌∷◌}
use mathlib.Core.Logic.{inl, inr}
use mathlib.Core.Path.{◌≡◌, refl, sym, ap, ap₂, subst, ◌∙◌}
use lib.Dec.{eqb}
use borrow.Author.Tests.{eq-eqb, ne_eqb}
use Rattle.machine.specs.Queue.{if, same, head, Range, In, Distinct, fold}
use Rattle.machine.specs.Machine.{Machine, state, owner, receiver, standing, edition, kept, waiter, below_zero, down, current}
use Rattle.machine.specs.Machine.{Words, four, zeros, message, buffers}
use Rattle.machine.specs.Moves.{wake, requeue, unlink, answer_with, withdrawn, clean_buffer}
use Rattle.machine.specs.Request.{Request, Send, WaitAnswer, WaitEvent, SendAnswer, WaitInterrupt, Start, Stop, Clean, Tick, Interrupt, ListOpen}
use Rattle.machine.specs.Request.{Lower, Raise, Unknown}
use Rattle.machine.specs.Refusal.{free_own, refusal}
use Rattle.machine.specs.Step.{Answer, Outcome, done, queued, halted, cleaned, fall, fallen, expiring, woken, grow, effect}
use Rattle.machine.specs.Legal.{Legal}
use Rattle.machine.specs.Log.{Talk}
use Rattle.lists.proofs.Links.{decide, cases}
use Rattle.lists.proofs.Tests.{either, tested}
use Rattle.lists.proofs.Numbers.{fold_keeps, from_in, from_once}
use Rattle.laws.proofs.Cleaned.{clean_others}
use Rattle.laws.specs.Talk.{talk}
use Rattle.logs.specs.Said.{utter}
use Rattle.logs.proofs.LeftAlone.{Books, books, may_wake, answer_books}
use Rattle.logs.proofs.Cleaned.{Apart}
use Rattle.logs.proofs.Calls.{apart, orphaned}

-- what the outcome of an accepted call has to leave said
pub record Uttered (m : Machine) (q : Request) (o : Outcome) : Type 0 where
  pub says : (b : ℕ) → Range m.B b → message o.machine b ≡ utter b (talk m b) (message m b) q o.answer

-- what the books say in buffer b
abbrev spoken : Books → ℕ → Words
spoken x b = four (x.words b 6) (x.words b 7) (x.words b 8) (x.words b 9)

-- words put into b
put_words : (k b : ℕ) (ws w : Words)
    → four (same k b ws.w₀ w.w₀) (same k b ws.w₁ w.w₁) (same k b ws.w₂ w.w₂) (same k b ws.w₃ w.w₃) ≡ if (eqb k b) ws w
unfolding same
put_words k b ws w = go (eqb k b)
  where
    go : (x : Bool) → four (if x ws.w₀ w.w₀) (if x ws.w₁ w.w₁) (if x ws.w₂ w.w₂) (if x ws.w₃ w.w₃) ≡ if x ws w
    go true = refl
    go false = refl

-- a call that changes no buffer
quiet : (m : Machine) (q : Request) (o : Outcome) → books o.machine ≡ books m → ((b : ℕ) → message m b ≡ utter b (talk m b) (message m b) q o.answer)
    → Uttered m q o
quiet m q o e h = record { says = λ k i. ap (λ (x : Books). spoken x k) e ∙ h k }

answer_words : (b : ℕ) (ws : Words) (m : Machine) (k : ℕ) → message (answer_with b ws m) k ≡ if (eqb k b) ws (message m k)
answer_words b ws m k = ap (λ (x : Books). spoken x k) (answer_books b ws m) ∙ put_words k b ws (message m k)

-- ---- cleaning
module _ (p : ℕ) (r : Answer) where
  -- the buffer itself
  clean_words : (b : ℕ) (m : Machine) → Apart p (talk m b) → message (clean_buffer p b m) b ≡ utter b (talk m b) (message m b) (Clean p) r
  unfolding clean_buffer utter
  clean_words b m n =
      let C : Machine → Type 0 = λ w. message w b ≡ utter b (talk m b) (message m b) (Clean p) r in
      let s : ℕ → Bool = eqb (standing m b) in
      let here : eqb b b ≡ true = eq-eqb b b refl in
      either C (eqb (owner m b) p)
      (λ o. either C (s 1) (λ x. simp (decide, o, x))
      (λ x. either C (s 3) (λ y. simp (decide, o, x, y))
      (λ y. either C (s 2) (λ z. simp (o, x, y, z))
      (λ z. tested (eqb (receiver m b) p) (λ h. (let f : s 4 ≡ false = rw (o, h) at n in simp (o, x, y, z, h, f))) (λ h. simp (o, x, y, z, h))))))
      (λ o. either C (eqb (receiver m b) p)
      (λ h. either C (s 1) (λ x. answer_words b withdrawn (unlink p b m) b ∙ simp (here, o, h, x))
      (λ x. either C (s 2) (λ y. answer_words b withdrawn m b ∙ simp (here, o, h, x, y))
      (λ y. either C (s 4) (λ z. simp (decide, o, h, x, y, z)) (λ z. simp (o, h, x, y, z)))))
      (λ h. simp (o, h)))

  -- the others
  clean_words_others : (k b : ℕ) (m : Machine) → (k ≡ b → ⊥) → message (clean_buffer p b m) k ≡ message m k
  unfolding clean_buffer
  clean_words_others k b m n =
      let C : Machine → Type 0 = λ w. message w k ≡ message m k in
      let s : ℕ → Bool = eqb (standing m b) in
      let apart : eqb k b ≡ false = ne_eqb k b n in
      either C (eqb (owner m b) p)
      (λ _. either C (s 1) (λ _. simp decide) (λ _. either C (s 3) (λ _. simp decide) (λ _. either C (s 2) (λ _. refl) (λ _. refl))))
      (λ _. either C (eqb (receiver m b) p)
      (λ _. either C (s 1) (λ _. answer_words b withdrawn (unlink p b m) k ∙ simp apart)
      (λ _. either C (s 2) (λ _. answer_words b withdrawn m k ∙ simp apart) (λ _. either C (s 4) (λ _. simp decide) (λ _. refl))))
      (λ _. refl))

  clean_swept : (k : ℕ) (l : List ℕ) → Distinct l → In k l → (m : Machine) → Apart p (talk m k)
      → message (fold (clean_buffer p) l m) k ≡ utter k (talk m k) (message m k) (Clean p) r
  unfolding fold
  clean_swept k [] d i m n = absurd i
  clean_swept k (b ∷ l) d (inl e) m n =
      rw e (fold_keeps (λ w. message w b ≡ message (clean_buffer p b m) b) (clean_buffer p) l (λ c i w z. clean_words_others b c w (λ y. d.0 (rw y i)) ∙ z)
      (clean_buffer p b m) refl ∙ clean_words b m (rw e at n))
  clean_swept k (b ∷ l) d (inr i) m n =
      let ne : k ≡ b → ⊥ = λ z. d.0 (subst (λ (x : ℕ). In x l) z i) in
      let t = clean_others p b k ne m in
      clean_swept k l d.1 i (clean_buffer p b m) (subst (Apart p) (sym t) n)
      ∙ ap₂ (λ (t : Talk) (w : Words). utter k t w (Clean p) r) t (clean_words_others k b m ne)

module _ (m : Machine) where
  send : (a : ℕ) (ws : Words) → Uttered m (Send a ws) (effect m (Send a ws))
  unfolding effect utter
  send a ws =
      let b : ℕ = free_own m (current m) in
      let w : books (effect m (Send a ws)).machine ≡ books (queued a b ws m) = may_wake (eqb (state m a) 2) 1 a (queued a b ws m) in
      record { says = λ k i. ap (λ (x : Books). spoken x k) w ∙ put_words k b ws (message m k) }

  wait_answer : (a : ℕ) → Uttered m (WaitAnswer a) (effect m (WaitAnswer a))
  unfolding effect utter
  wait_answer a =
      either (Uttered m (WaitAnswer a)) (eqb (standing m a) 3)
      (λ e. record { says = λ k i. put_words k a zeros (message m k) })
      (λ e. record { says = λ k i. refl })

  wait_event : (d : ℕ) → Uttered m (WaitEvent d) (effect m (WaitEvent d))
  unfolding effect utter
  wait_event d =
      let b : ℕ = head (m.events (current m)) in
      either (Uttered m (WaitEvent d)) (eqb b 0)
      (λ e. record { says = λ k i. refl })
      (λ e. either (Uttered m (WaitEvent d)) (eqb (standing m b) 1)
      (λ e. record { says = λ k i. refl })
      (λ e. record { says = λ k i. put_words k b zeros (message m k) }))

  send_answer : (a : ℕ) (ws : Words) → refusal m (SendAnswer a ws) ≡ 0 → Uttered m (SendAnswer a ws) (effect m (SendAnswer a ws))
  unfolding effect utter
  send_answer a ws h =
      either (λ (w : Machine). Uttered m (SendAnswer a ws) (done 0 0 zeros w)) (eqb (standing m a) 2)
      (λ e. record { says = λ k i. answer_words a ws m k ∙ cases k a (λ u. rw u (simp (eq-eqb a a refl, e))) (λ n. simp (ne_eqb k a n)) })
      (λ e. record {
        says = λ k i. put_words k a zeros (message m k) ∙ cases k a (λ u. rw u (simp (eq-eqb a a refl, e, orphaned m a ws h e))) (λ n. simp (ne_eqb k a n));
      })

  clean : Legal m → (a : ℕ) → Uttered m (Clean a) (effect m (Clean a))
  unfolding effect
  clean L a = record { says = λ k i. swept k i (effect m (Clean a)).answer }
    where
      quietly : (k : ℕ) → (talk (halted a m) k ≡ talk m k) × (message (halted a m) k ≡ message m k)
      quietly k = either (λ (n : Machine). (talk n k ≡ talk m k) × (message n k ≡ message m k)) (eqb (state m a) 0) (λ t. (refl, refl)) (λ t. (refl, refl))

      swept : (k : ℕ) → Range m.B k → (r : Answer) → message (cleaned a m) k ≡ utter k (talk m k) (message m k) (Clean a) r
      swept k i r =
          let (t, w) = quietly k in
          clean_swept a r k (buffers m) (from_once 1 m.B) (from_in k 1 m.B i.0 (omega arith)) (halted a m) (subst (Apart a) (sym t) (apart m L a k i))
          ∙ ap₂ (λ (t : Talk) (w : Words). utter k t w (Clean a) r) t w

  tick : Uttered m Tick (effect m Tick)
  unfolding effect utter
  tick = record { says = λ k i. fold_keeps (Same k) grow (buffers (requeue (current m) (woken m))) (λ b j n e. e) (requeue (current m) (woken m)) (moved k) }
    where
      Same : ℕ → Machine → Type 0
      Same k n = message n k ≡ message m k

      moved : (k : ℕ) → Same k (requeue (current m) (woken m))
      moved k =
          let w : Same k (woken m) = fold_keeps (Same k) (wake 2) (expiring m) (λ x j n e. e) (fallen m) (fold_keeps (Same k) fall _ (λ x j n e. e) m refl) in
          either (Same k) (eqb (current m) 0) (λ t. w) (λ t. w)

pub uttered : {m : Machine} → Legal m → (q : Request) → refusal m q ≡ 0 → Uttered m q (effect m q)
unfolding effect utter refusal
uttered {m} L (Send a ws) h = send m a ws
uttered {m} L (WaitAnswer a) h = wait_answer m a
uttered {m} L (WaitEvent d) h = wait_event m d
uttered {m} L (SendAnswer a ws) h = send_answer m a ws h
uttered {m} L (WaitInterrupt a d) h =
    either (Uttered m (WaitInterrupt a d)) (eqb (m.device a) kept) (λ e. quiet m _ _ refl (λ k. refl)) (λ e. quiet m _ _ refl (λ k. refl))
uttered {m} L (Start a) h = quiet m _ _ refl (λ k. refl)
uttered {m} L (Stop a) h = quiet m _ _ refl (λ k. refl)
uttered {m} L (Clean a) h = clean m L a
uttered {m} L Tick h = tick m
uttered {m} L (Interrupt a) h =
    either (Uttered m (Interrupt a)) (eqb (waiter m a) 0)
    (λ e. either (λ (w : Machine). Uttered m (Interrupt a) (done 0 0 zeros w)) (eqb (edition m) 1)
    (λ u. quiet m _ _ refl (λ k. refl)) (λ u. quiet m _ _ refl (λ k. refl)))
    (λ e. quiet m _ _ refl (λ k. refl))
uttered {m} L (ListOpen a room) h = quiet m _ _ refl (λ k. refl)
uttered {m} L (Lower a) h =
    either (λ (w : Machine). Uttered m (Lower a) (done 0 0 zeros w)) (below_zero (down (m.counter a)))
    (λ e. quiet m _ _ refl (λ k. refl)) (λ e. quiet m _ _ refl (λ k. refl))
uttered {m} L (Raise a) h =
    either (λ (w : Machine). Uttered m (Raise a) (done 0 0 zeros w)) (below_zero (m.counter a))
    (λ e. quiet m _ _ refl (λ k. refl)) (λ e. quiet m _ _ refl (λ k. refl))
uttered {m} L Unknown h = absurd (omega (arith, h))

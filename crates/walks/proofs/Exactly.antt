-- The walk of every accepted call, exactly, of what `call_walked` promises on any words. Assumes nothing.
use Prim.Native.Nat.{ℕ, ◌+◌, ◌≤◌, ◌<◌}
use native.Mathlib.Omega.{arith}
use mathlib.Core.Bool.{Bool, true, false}
use mathlib.Core.List.{List, [], ◌∷◌}
use mathlib.Core.Logic.{inl, inr, ⊎_elim}
use mathlib.Core.Path.{◌≡◌, refl, sym, ap, ◌∙◌}
use lib.ListN.{length, get_or}
use lib.Dec.{eqb, leb}
use borrow.Author.Tests.{eq-eqb, ne_eqb, eqb-true, eqb-false}
use Rattle.machine.specs.Queue.{if, head, Range, In, keep, from}
use Rattle.machine.specs.Machine.{Machine, Words, state, priority, standing, waiter, kept, edition, below_zero, current, down}
use Rattle.machine.specs.Moves.{wake, waiting, requeue}
use Rattle.machine.specs.Request.{Request, request, Send, WaitAnswer, WaitEvent, SendAnswer, WaitInterrupt, Start, Stop, Clean, Tick, Interrupt, ListOpen}
use Rattle.machine.specs.Request.{Lower, Raise, Unknown}
use Rattle.machine.specs.Refusal.{refusal}
use Rattle.machine.specs.Step.{Answer as Reply, Outcome, effect, step, expiring, woken, fallen, fall, grow}
use Rattle.machine.specs.Walk.{Walk, effort, walk}
use Rattle.machine.specs.Words.{Shows}
use Rattle.machine.specs.Sound.{P_of, process_at}
use Rattle.machine.specs.Legal.{Legal}
use Rattle.lists.proofs.Tests.{either, tested}
use Rattle.lists.proofs.Numbers.{first_in, fold_keeps, keep_same, keep_alike, in_keep, in_from}
use Rattle.laws.proofs.Decoded.{shows_agree}
use Rattle.laws.proofs.Cleaned.{cleaned_size}
use Rattle.laws.proofs.Walks.{waking_entries}
use Rattle.monitor.specs.Promise.{Called, CalledWalked}
use Rattle.monitor.proofs.Accepted.{current_word, met}
use Rattle.walks.specs.Exactly.{entering, remaining, lowest, parts, moving_past, Exactly, WalksExactly}
use Rattle.walks.proofs.Calls.{waking_exactly, expiring_enter}
use Rattle.walks.proofs.Requests.{is_interrupt, at_tick, effort_exactly}

-- the numbers of a call tell which request
interrupt_is : (k a b : ℕ) (ws : Words) (n : ℕ) → is_interrupt (request k a b ws n) ≡ eqb k 10
unfolding request
interrupt_is k a b ws n =
    let C : Request → Type 0 = λ q. is_interrupt q ≡ eqb k 10 in
    let no : (x : ℕ) → (x ≡ 10 → ⊥) → eqb k x ≡ true → false ≡ eqb k 10 = λ x h t. sym (ne_eqb k 10 (λ e. h (sym (eqb-true k x t) ∙ e))) in
    either C (eqb k 1) (no 1 (omega arith))
    (λ t. either C (eqb k 2) (no 2 (omega arith)) (λ t. either C (eqb k 3) (no 3 (omega arith)) (λ t. either C (eqb k 4) (no 4 (omega arith))
    (λ t. either C (eqb k 5) (no 5 (omega arith))
    (λ t. either C (eqb k 6) (no 6 (omega arith)) (λ t. either C (eqb k 7) (no 7 (omega arith)) (λ t. either C (eqb k 8) (no 8 (omega arith))
    (λ t. either C (eqb k 9) (no 9 (omega arith))
    (λ t. either C (eqb k 10) (λ u. sym u) (λ u. either C (eqb k 11) (no 11 (omega arith)) (λ t. either C (eqb k 12) (no 12 (omega arith))
    (λ t. either C (eqb k 13) (no 13 (omega arith)) (λ t. sym u)))))))))))))

tick_is : (k a b : ℕ) (ws : Words) (n x : ℕ) → at_tick (request k a b ws n) x ≡ if (eqb k 9) x 0
unfolding request
tick_is k a b ws n x =
    let C : Request → Type 0 = λ q. at_tick q x ≡ if (eqb k 9) x 0 in
    let no : (y : ℕ) → (y ≡ 9 → ⊥) → eqb k y ≡ true → 0 ≡ if (eqb k 9) x 0 = λ y h t. rw (ne_eqb k 9 (λ e. h (sym (eqb-true k y t) ∙ e))) refl in
    either C (eqb k 1) (no 1 (omega arith))
    (λ t. either C (eqb k 2) (no 2 (omega arith)) (λ t. either C (eqb k 3) (no 3 (omega arith)) (λ t. either C (eqb k 4) (no 4 (omega arith))
    (λ t. either C (eqb k 5) (no 5 (omega arith))
    (λ t. either C (eqb k 6) (no 6 (omega arith)) (λ t. either C (eqb k 7) (no 7 (omega arith)) (λ t. either C (eqb k 8) (no 8 (omega arith))
    (λ t. either C (eqb k 9) (λ u. rw u refl)
    (λ u. either C (eqb k 10) (no 10 (omega arith)) (λ t. either C (eqb k 11) (no 11 (omega arith)) (λ t. either C (eqb k 12) (no 12 (omega arith))
    (λ t. either C (eqb k 13) (no 13 (omega arith)) (λ t. rw u refl)))))))))))))

-- what the words say of the processes that there are is enough
module _ {n : ℕ} {r r' s s' e e' : ℕ → ℕ} (ranks : (p : ℕ) → Range n p → r p ≡ r' p) (befores : (p : ℕ) → Range n p → s p ≡ s' p)
    (afters : (p : ℕ) → Range n p → e p ≡ e' p) where
  here : (p : ℕ) → 1 ≤ p → p < 1 + n → Range n p
  here p l h = omega arith

  entering_same : entering n s e ≡ entering n s' e'
  entering_same = keep_same _ _ 1 n (λ p l h. rw (befores p (here p l h), afters p (here p l h)) refl)

  remaining_same : remaining n s e ≡ remaining n s' e'
  remaining_same = keep_same _ _ 1 n (λ p l h. rw (befores p (here p l h), afters p (here p l h)) refl)

  parts_same : (interrupt : Bool) (ran l : List ℕ) → ((x : ℕ) → In x ran → Range n x) → ((x : ℕ) → In x l → Range n x) → parts interrupt r ran l
      ≡ parts interrupt r' ran l
  unfolding parts
  parts_same interrupt ran [] g h = refl
  parts_same interrupt ran (p ∷ l) g h =
      let i = h p (inl refl) in
      let a : keep (λ k. leb (lowest interrupt r p) (r k)) ran ≡ keep (λ k. leb (lowest interrupt r' p) (r' k)) ran
      = keep_alike _ _ ran (λ x j. rw (ranks p i, ranks x (g x j)) refl) in
      rw (a, parts_same interrupt (p ∷ ran) l (λ x. ⊎_elim (λ z. rw z i) (g x)) (λ x j. h x (inr j)))

  ranged : (f : ℕ → Bool) (x : ℕ) → In x (keep f (from 1 n)) → Range n x
  ranged f x i = let h = in_from x 1 n (in_keep x f (from 1 n) i).0 in omega arith

  moving_same : (c : ℕ) → ((c ≡ 0 → ⊥) → Range n c) → moving_past n c r e ≡ moving_past n c r' e'
  moving_same c h =
      tested {C = moving_past n c r e ≡ moving_past n c r' e'} (eqb c 0) (λ t. rw t refl)
      (λ t. (let i = h (eqb-false c 0 t) in rw t (ap length (keep_same _ _ 1 n (λ p l k. rw (afters p (here p l k), ranks c i, ranks p (here p l k)) refl)))))

  exactly_same : {interrupt : Bool} {x y : ℕ} {w : Walk} → x ≡ y → Exactly n r' s' e' interrupt x w → Exactly n r s e interrupt y w
  exactly_same {interrupt} q h =
      let p : parts interrupt r (remaining n s e) (entering n s e) ≡ parts interrupt r' (remaining n s' e') (entering n s' e')
      = parts_same interrupt (remaining n s e) (entering n s e) (ranged _) (ranged _) ∙ rw (entering_same, remaining_same) refl in
      record { entries = h.entries ∙ rw entering_same refl; passed = h.passed ∙ rw p refl; most = h.most ∙ rw p refl; moves = h.moves ∙ q }

-- ---- no call makes or ends a process
effect_size : (m : Machine) (r : Request) → (effect m r).machine.P ≡ m.P
unfolding effect
effect_size m r = go r
  where
    S : Machine → Type 0
    S n = n.P ≡ m.P

    O : Outcome → Type 0
    O o = o.machine.P ≡ m.P

    wakes : (woken m).P ≡ m.P
    wakes = fold_keeps S (wake 2) _ (λ p i n e. e) (fallen m) (fold_keeps S fall _ (λ p i n e. e) m refl)

    go : (r : Request) → (effect m r).machine.P ≡ m.P
    go (Send a ws) = either S (eqb (state m a) 2) (λ t. refl) (λ t. refl)
    go (WaitAnswer a) = either O (eqb (standing m a) 3) (λ t. refl) (λ t. refl)
    go (WaitEvent d) = either O (eqb (head (m.events (current m))) 0) (λ t. refl)
        (λ t. either O (eqb (standing m (head (m.events (current m)))) 1) (λ t. refl) (λ t. refl))
    go (SendAnswer a ws) = either S (eqb (standing m a) 2) (λ t. either S (waiting a m) (λ t. refl) (λ t. refl)) (λ t. refl)
    go (WaitInterrupt a d) = either O (eqb (m.device a) kept) (λ t. refl) (λ t. refl)
    go (Start a) = refl
    go (Stop a) = refl
    go (Clean a) = (cleaned_size a m).1
    go Tick = fold_keeps S grow _ (λ b i n e. e) (requeue (current m) (woken m)) (either S (eqb (current m) 0) (λ t. wakes) (λ t. wakes))
    go (Interrupt a) = either O (eqb (waiter m a) 0) (λ t. either S (eqb (edition m) 1) (λ t. refl) (λ t. refl)) (λ t. refl)
    go (ListOpen a room) = refl
    go (Lower a) = either S (below_zero (down (m.counter a))) (λ t. refl) (λ t. refl)
    go (Raise a) = either S (below_zero (m.counter a)) (λ t. refl) (λ t. refl)
    go Unknown = refl

-- ---- the call
module _ {t u : List ℕ} {m n : Machine} (h : Shows t m) (L : Legal m) (x : Shows u n) (size : n.P ≡ m.P) where
  -- what is told by machines is told by the words that show them
  words_exactly : {interrupt : Bool} (f : ℕ → ℕ) {w : Walk} → Exactly m.P (priority m) (state m) (state n) interrupt
      (f (moving_past m.P (current m) (priority m) (state n))) w
      → Exactly (P_of t) (λ p. process_at t p 9) (λ p. process_at t p 4) (λ p. process_at u p 4) interrupt
      (f (moving_past (P_of t) (get_or t 2 0) (λ p. process_at t p 9) (λ p. process_at u p 4))) w
  words_exactly f e =
      let g = shows_agree h in
      let y = shows_agree x in
      let r : (p : ℕ) → Range m.P p → process_at t p 9 ≡ priority m p = λ p i. g.process p 9 i (omega arith) (omega arith) in
      let b : (p : ℕ) → Range m.P p → process_at t p 4 ≡ state m p = λ p i. g.process p 4 i (omega arith) (omega arith) in
      let a : (p : ℕ) → Range m.P p → process_at u p 4 ≡ state n p = λ p i. y.process p 4 (rw size i) (omega arith) (omega arith) in
      let P : P_of t ≡ m.P = g.P in
      let c : (current m ≡ 0 → ⊥) → Range m.P (current m) = λ k. (L.running.only (current m) (first_in m.running k)).0 in
      rw (P, current_word h) (exactly_same r b a (ap f (sym (moving_same r b a (current m) c))) e)

module _ {t u s v : List ℕ} {a b : ℕ} {ws : Words} {r : Reply} where
  -- where it is accepted, the walk told is who entered, and each one's count of the running processes of equal or higher priority (0A: only of
  -- higher priority); and of a tick what the move passed
  pub walks_exactly : {k : ℕ} {w : Walk} → CalledWalked t u s v k a b ws r w → r.number ≡ 0 → WalksExactly k t u w
  unfolding walk
  walks_exactly {k} {w} c z =
      let o = met c.called z in
      let m = o.m in
      let q = request k a b ws (length s) in
      let y : w ≡ effort m q = c.sound m o.shows o.legal ∙ rw (eq-eqb (refusal m q) 0 o.passed) refl in
      rw (y, ← interrupt_is k a b ws (length s))
      (words_exactly o.shows o.legal o.words (effect_size m q) (λ n. if (eqb k 9) n 0)
      (rw (tick_is k a b ws (length s)) at (effort_exactly o.legal q o.passed)))

  -- an accepted 09 wakes those whose delay ends: they don't run before and do after
  pub tick_wakes : {m : Machine} → Shows t m → Legal m → Called t u s v 9 a b ws r → expiring m ≡ entering (P_of t) (λ p. process_at t p 4)
      (λ p. process_at u p 4)
  unfolding request effect step refusal
  tick_wakes {m} h L c =
      let x = (c.sound m h L).words in
      let g = shows_agree h in
      let y = shows_agree x in
      expiring_enter L ∙ rw g.P (sym (entering_same {r = priority m} {r' = priority m} (λ p i. refl) (λ p i. g.process p 4 i (omega arith) (omega arith))
      (λ p i. y.process p 4 (rw (effect_size m Tick) i) (omega arith) (omega arith))))

  -- the kind of an accepted 09 is the number of processes that don't run before and do after
  pub tick_kind : Called t u s v 9 a b ws r → r.number ≡ 0 → r.kind ≡ length (entering (P_of t) (λ p. process_at t p 4) (λ p. process_at u p 4))
  unfolding request effect effort
  tick_kind c z =
      let o = met c z in
      let m = o.m in
      let e = words_exactly o.shows o.legal o.words (effect_size m Tick) (λ n. 0) (waking_exactly o.legal) in
      ap (λ (x : Reply). x.kind) o.answer ∙ sym (waking_entries o.legal) ∙ e.entries

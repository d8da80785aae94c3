-- A call answers and lists the same on two legal machines that agree as far as there are records, and leaves two that do. Assumes nothing.
use Prim.Native.Nat.{ℕ, zero, suc, ◌<◌}
use native.Mathlib.Omega.{arith}
use mathlib.Core.Bool.{Bool, true, false, not, ◌&&◌}
use mathlib.Core.List.{List, [], ◌∷◌, ◌++◌}
use mathlib.Core.Logic.{inl, inr}
use mathlib.Core.Path.{◌≡◌, refl, sym, ap, ap₂, subst, ◌∙◌}
use lib.Dec.{eqb, ltb}
use lib.ListN.{length}
use borrow.Author.Tests.{eqb-false, leb-true, ltb-false}
use Rattle.machine.specs.Queue.{if, head, Range, In, from, keep}
use Rattle.machine.specs.Machine.{Machine, owner, standing, semaphores, kept, waiter, below_zero, up, down, current}
use Rattle.machine.specs.Machine.{Words, zeros, message}
use Rattle.machine.specs.Moves.{wake}
use Rattle.machine.specs.Request.{Request, Send, WaitAnswer, WaitEvent, SendAnswer, WaitInterrupt, Start, Stop, Clean, Tick, Interrupt, ListOpen}
use Rattle.machine.specs.Request.{Lower, Raise, Unknown}
use Rattle.machine.specs.Refusal.{Row, ◌when◌, first, outside, free_own, is_shown, shown, refusal}
use Rattle.machine.specs.Step.{Outcome, done, queued, sent, collected, held, waits_event, waits_answer, waits_interrupt, interrupted, unawaited, lowered}
use Rattle.machine.specs.Step.{relieved, changes, rows, effect, judge, step}
use Rattle.machine.specs.Legal.{Legal}
use Rattle.lists.proofs.Tests.{tested, or_false, inside, passes}
use Rattle.lists.proofs.Numbers.{first_in, in_from, in_keep, keep_same}
use Rattle.laws.proofs.States.{some_waiter, longest}
use Rattle.laws.proofs.Agree.{Agree}
use Rattle.logs.proofs.Respect.{Ran, choose, put_process_a, put_device_a, put_buffer_a, put_semaphore_a, pw, bw}
use Rattle.logs.proofs.Respect.{wake_a, pause_a, free_a, unlink_a, append_a, write_a}
use Rattle.logs.proofs.Respect.{off_semaphore_a, answer_with_a, stop_a, current_a, cleaned_a, expiring_a, ticked_a}

-- what stands behind a row that applies plays no part
cut : (x : Bool) (k j : ℕ) (l l' : List Row) → first ((k when x) ∷ (j when true) ∷ l) ≡ first ((k when x) ∷ (j when true) ∷ l')
unfolding first
cut true k j l l' = refl
cut false k j l l' = refl

module _ {m n : Machine} (L : Legal m) (a : Agree m n) where
  now : current n ≡ current m
  now = current_a L a

  -- the caller is a process
  caller : (current m ≡ 0 → ⊥) → Range m.P (current m)
  caller h = (L.running.only (current m) (first_in m.running h)).0

  free_own_a : (p : ℕ) → free_own n p ≡ free_own m p
  free_own_a p =
      ap head (ap (λ (k : ℕ). keep (λ b. eqb (owner n b) p && eqb (standing n b) 0) (from 1 k)) a.B
      ∙ keep_same _ _ 1 m.B (λ k l u. ap₂ (λ (x y : ℕ). eqb x p && eqb y 0)
      (bw a k 2 (l, omega arith) (omega arith)) (bw a k 4 (l, omega arith) (omega arith))))

  shown_a : (p : ℕ) → shown n p ≡ shown m p
  shown_a p =
      ap (λ (k : ℕ). keep (is_shown n p) (from 1 k)) a.B
      ∙ keep_same _ _ 1 m.B (λ k l u. told k (l, omega arith))
    where
      told : (k : ℕ) → Range m.B k → is_shown n p k ≡ is_shown m p k
      told k r = rw (bw a k 2 r (omega arith), bw a k 3 r (omega arith), bw a k 4 r (omega arith))

  -- ---- refusals
  refusal_a : (q : Request) → refusal n q ≡ refusal m q
  unfolding refusal first
  refusal_a (Send p ws) = let f = free_own_a (current m) in rw (now, a.P, f)
  refusal_a (WaitAnswer b) =
      tested (outside b m.B) (λ t. rw (now, a.B) (simp t))
      (λ t. (let r = inside m.B b t in rw (now, a.B, bw a b 2 r (omega arith), bw a b 4 r (omega arith))))
  refusal_a (WaitEvent d) = rw now
  refusal_a (SendAnswer b ws) =
      tested (outside b m.B) (λ t. rw (now, a.B) (simp t))
      (λ t. (let r = inside m.B b t in rw (now, a.B, bw a b 3 r (omega arith), bw a b 4 r (omega arith))))
  refusal_a (WaitInterrupt d t) =
      tested (ltb 63 d)
      (λ t. rw now (simp t (cut (eqb (current m) 0) 2 3 ((9 when not (eqb (waiter n d) 0)) ∷ []) ((9 when not (eqb (waiter m d) 0)) ∷ []))))
      (λ t. rw (now, a.device d (omega (arith, ltb-false 63 d t))))
  refusal_a (Start p) = tested (outside p m.P) (λ t. rw a.P (simp t)) (λ t. rw (a.P, pw a p 4 (inside m.P p t) (omega arith)))
  refusal_a (Stop p) = tested (outside p m.P) (λ t. rw a.P (simp t)) (λ t. rw (a.P, pw a p 4 (inside m.P p t) (omega arith)))
  refusal_a (Clean p) = rw a.P
  refusal_a Tick = refl
  refusal_a (Interrupt d) = refl
  refusal_a (ListOpen p room) = rw (a.P, shown_a p)
  refusal_a (Lower s) = rw (now, a.header.1)
  refusal_a (Raise s) =
      let full : ℕ → List Row = λ c. ((20 when eqb c 32767) ∷ []) in
      tested (outside s (semaphores m))
      (λ t. rw (now, a.header.1) (simp t (cut (eqb (current m) 0) 2 19 (full (n.counter s)) (full (m.counter s)))))
      (λ t. rw (now, a.header.1, a.counter s (inside (semaphores m) s t)))
  refusal_a Unknown = refl

-- ---- what comes of a request
-- the same answer and listing, and machines that agree
pub record Alike (o o' : Outcome) : Type 0 where
  pub answer : o'.answer ≡ o.answer
  pub listing : o'.listing ≡ o.listing
  pub machine : Agree o.machine o'.machine

done_a : {m n : Machine} {k k' b b' : ℕ} {ws ws' : Words} → k' ≡ k → b' ≡ b → ws' ≡ ws → Agree m n → Alike (done k b ws m) (done k' b' ws' n)
done_a {m} {n} e f g a = let h : current n ≡ current m = ap head a.running in record { answer = rw (e, f, g, h); listing = refl; machine = a }

chosen : {t t' : Bool} {o₁ o₂ u₁ u₂ : Outcome} → t' ≡ t → (t ≡ true → Alike o₁ u₁) → (t ≡ false → Alike o₂ u₂) → Alike (if t o₁ o₂) (if t' u₁ u₂)
chosen {t} {t'} {o₁} {o₂} {u₁} {u₂} e f g = subst (λ (x : Bool). Alike (if t o₁ o₂) (if x u₁ u₂)) (sym e) (go t f g)
  where
    go : (t : Bool) → (t ≡ true → Alike o₁ u₁) → (t ≡ false → Alike o₂ u₂) → Alike (if t o₁ o₂) (if t u₁ u₂)
    go true f g = f refl
    go false f g = g refl

module _ {m n : Machine} (L : Legal m) (a : Agree m n) where
  here : Ran m
  here x i = (L.running.only x i).0

  words_a : (b : ℕ) → Range m.B b → message n b ≡ message m b
  words_a b r = rw (bw a b 6 r (omega arith), bw a b 7 r (omega arith), bw a b 8 r (omega arith), bw a b 9 r (omega arith))

  queued_a : (p b : ℕ) (ws : Words) → Agree (queued p b ws m) (queued p b ws n)
  queued_a p b ws = append_a (write_a (put_buffer_a (put_buffer_a a b 3 refl) b 4 refl) b ws) p b

  send : (p : ℕ) (ws : Words) → refusal m (Send p ws) ≡ 0 → Alike (effect m (Send p ws)) (effect n (Send p ws))
  unfolding effect refusal
  send p ws e =
      let k = passes _ (omega arith) e in
      let r = inside m.P p k.1.0 in
      let b = free_own m (current m) in
      let f : free_own n (current n) ≡ b = ap (free_own n) (now L a) ∙ free_own_a L a (current m) in
      let w = queued_a p b ws in
      let s = choose (ap (λ (x : ℕ). eqb x 2) (pw a p 4 r (omega arith))) (λ _. wake_a w 1 p r here) (λ _. w) in
      subst (λ (x : ℕ). Alike (done 0 b zeros (sent p b ws m)) (done 0 x zeros (sent p x ws n))) (sym f) (done_a refl refl refl s)

  -- the same of the caller
  by_current : (F : ℕ → Machine → Machine) → ((p : ℕ) → Agree (F p m) (F p n)) → Agree (F (current m) m) (F (current n) n)
  by_current F h = subst (λ (x : ℕ). Agree (F (current m) m) (F x n)) (sym (now L a)) (h (current m))

  collected_a : (b : ℕ) → Agree (collected (current m) b m) (collected (current n) b n)
  collected_a b = by_current (λ p. collected p b) (λ p. put_process_a (free_a (unlink_a a p b) b) p 5 refl)

  wait_answer : (b : ℕ) → refusal m (WaitAnswer b) ≡ 0 → Alike (effect m (WaitAnswer b)) (effect n (WaitAnswer b))
  unfolding effect refusal
  wait_answer b e =
      let r = inside m.B b (or_false {a = outside b m.B} (passes _ (omega arith) e).1.0).0 in
      chosen (ap (λ (x : ℕ). eqb x 3) (bw a b 4 r (omega arith)))
      (λ _. done_a refl refl (words_a b r) (collected_a b))
      (λ _. done_a refl refl refl (by_current (waits_answer b) (λ p. put_process_a (pause_a a 3 p) p 7 refl)))

  wait_event : (d : ℕ) → refusal m (WaitEvent d) ≡ 0 → Alike (effect m (WaitEvent d)) (effect n (WaitEvent d))
  unfolding effect refusal
  wait_event d e =
      let c = caller L a (eqb-false (current m) 0 (passes _ (omega arith) e).0) in
      let b = head (m.events (current m)) in
      let f : head (n.events (current n)) ≡ b = ap (λ (x : ℕ). head (n.events x)) (now L a) ∙ ap head (a.events (current m) c) in
      subst (λ (x : ℕ). Alike (effect m (WaitEvent d)) (if (eqb x 0) (done 0 0 zeros (waits_event d (current n) n))
      (if (eqb (standing n x) 1) (done 1 x (message n x) (held (current n) x n)) (done 2 x (message n x) (collected (current n) x n))))) (sym f)
      (chosen refl (λ _. done_a refl refl refl (by_current (waits_event d) (λ p. put_process_a (pause_a a 2 p) p 6 refl)))
      (λ t. (let r = ((L.events (current m) c).only b (first_in (m.events (current m)) (eqb-false b 0 t))).0 in
      chosen (ap (λ (x : ℕ). eqb x 1) (bw a b 4 r (omega arith)))
      (λ _. done_a refl refl (words_a b r) (by_current (λ p. held p b) (λ p. put_process_a (put_buffer_a (unlink_a a p b) b 4 refl) p 5 refl)))
      (λ _. done_a refl refl (words_a b r) (collected_a b)))))

  send_answer : (b : ℕ) (ws : Words) → refusal m (SendAnswer b ws) ≡ 0 → Alike (effect m (SendAnswer b ws)) (effect n (SendAnswer b ws))
  unfolding effect refusal
  send_answer b ws e =
      let r = inside m.B b (or_false {a = outside b m.B} (passes _ (omega arith) e).1.0).0 in
      done_a refl refl refl (choose (ap (λ (x : ℕ). eqb x 2) (bw a b 4 r (omega arith)))
      (λ _. answer_with_a a b r (L.fixed.owned b r) here ws) (λ _. free_a a b))

  wait_interrupt : (d t : ℕ) → refusal m (WaitInterrupt d t) ≡ 0 → Alike (effect m (WaitInterrupt d t)) (effect n (WaitInterrupt d t))
  unfolding effect refusal
  wait_interrupt d t e =
      let h : d < 64 = omega (arith, ltb-false 63 d (passes _ (omega arith) e).1.0) in
      chosen (ap (λ (x : ℕ). eqb x kept) (a.device d h))
      (λ _. done_a refl refl refl (by_current (interrupted d) (λ p. put_device_a (put_process_a a p 5 refl) d 0)))
      (λ _. done_a refl refl refl (by_current (waits_interrupt d t) (λ p. put_device_a (put_process_a (put_process_a (pause_a a 4 p) p 8 refl) p 6 refl) d p)))

  clean : (p : ℕ) → refusal m (Clean p) ≡ 0 → Alike (effect m (Clean p)) (effect n (Clean p))
  unfolding effect refusal
  clean p e =
      let r = inside m.P p (passes _ (omega arith) e).0 in
      let kind = ap (λ (k : ℕ). keep (changes n p) (from 1 k)) a.B ∙ keep_same _ _ 1 m.B (λ k l u. told k (l, omega arith)) in
      done_a (ap length kind) refl refl (cleaned_a L a p r)
    where
      told : (k : ℕ) → Range m.B k → changes n p k ≡ changes m p k
      told k r = rw (bw a k 2 r (omega arith), bw a k 3 r (omega arith), bw a k 4 r (omega arith))

  interrupt : (d : ℕ) → refusal m (Interrupt d) ≡ 0 → Alike (effect m (Interrupt d)) (effect n (Interrupt d))
  unfolding effect refusal
  interrupt d e =
      let h : d < 64 = omega (arith, ltb-false 63 d (passes _ (omega arith) e).0) in
      let p = waiter m d in
      let f : waiter n d ≡ p = rw (a.device d h) in
      subst (λ (x : ℕ). Alike (effect m (Interrupt d)) (if (eqb x 0) (done 0 0 zeros (unawaited d n)) (done x 0 zeros (wake 3 x n)))) (sym f)
      (chosen refl (λ _. done_a refl refl refl (choose (ap (λ (x : ℕ). eqb x 1) a.header.0) (λ _. put_device_a a d kept) (λ _. a)))
      (λ t. done_a refl refl refl (wake_a a 3 p (some_waiter m d L h t).0 here)))

  rows_a : (l : List ℕ) → ((b : ℕ) → In b l → Range m.B b) → rows n l ≡ rows m l
  unfolding rows
  rows_a [] h = refl
  rows_a (b ∷ l) h =
      let r = h b (inl refl) in
      rw (bw a b 2 r (omega arith), bw a b 3 r (omega arith), bw a b 4 r (omega arith), bw a b 5 r (omega arith), rows_a l (λ x i. h x (inr i)))

  list : (p room : ℕ) → Alike (effect m (ListOpen p room)) (effect n (ListOpen p room))
  unfolding effect
  list p room =
      let e = shown_a L a p in
      let f = rows_a (shown m p) (λ b i. (let k = in_from b 1 m.B (in_keep b _ _ i).0 in (k.0, omega arith))) in
      record { answer = rw (e, now L a); listing = rw e f; machine = a }

  lower : (s : ℕ) → refusal m (Lower s) ≡ 0 → Alike (effect m (Lower s)) (effect n (Lower s))
  unfolding effect refusal
  lower s e =
      let r = inside (semaphores m) s (passes _ (omega arith) e).1.0 in
      let c = a.counter s r in
      let w = a.waiters s r in
      done_a refl refl refl (by_current (lowered s) (λ p. choose (ap (λ (x : ℕ). below_zero (down x)) c)
      (λ _. put_semaphore_a (put_process_a (pause_a a 5 p) p 15 refl) s (λ _. (ap down c, ap (λ (q : List ℕ). q ++ (p ∷ [])) w)))
      (λ _. put_semaphore_a (put_process_a a p 5 refl) s (λ _. (ap down c, w)))))

  raise : (s : ℕ) → refusal m (Raise s) ≡ 0 → Alike (effect m (Raise s)) (effect n (Raise s))
  unfolding effect refusal
  raise s e =
      let r = inside (semaphores m) s (passes _ (omega arith) e).1.0 in
      let c = a.counter s r in
      let w = a.waiters s r in
      let p = head (m.waiters s) in
      done_a refl refl refl (choose (ap below_zero c)
      (λ t. (let i = (longest L s r (leb-true 32768 _ t)).0 in
      subst (λ (x : ℕ). Agree (relieved p m) (relieved x n)) (sym (ap head w)) (wake_a (off_semaphore_a a p i) 5 p i here)))
      (λ _. put_semaphore_a a s (λ _. (ap up c, w))))

  effect_a : (q : Request) → refusal m q ≡ 0 → Alike (effect m q) (effect n q)
  unfolding effect refusal
  effect_a (Send p ws) e = send p ws e
  effect_a (WaitAnswer b) e = wait_answer b e
  effect_a (WaitEvent d) e = wait_event d e
  effect_a (SendAnswer b ws) e = send_answer b ws e
  effect_a (WaitInterrupt d t) e = wait_interrupt d t e
  effect_a (Start p) e = done_a refl refl refl (wake_a a 0 p (inside m.P p (passes _ (omega arith) e).0) here)
  effect_a (Stop p) e = done_a refl refl refl (stop_a a p (inside m.P p (passes _ (omega arith) e).0))
  effect_a (Clean p) e = clean p e
  effect_a Tick e = done_a (ap length (expiring_a L a)) refl refl (ticked_a L a)
  effect_a (Interrupt d) e = interrupt d e
  effect_a (ListOpen p room) e = list p room
  effect_a (Lower s) e = lower s e
  effect_a (Raise s) e = raise s e
  effect_a Unknown e = absurd (omega (arith, e))

  pub step_alike : (q : Request) → Alike (step m q) (step n q)
  unfolding step
  step_alike q = subst (λ (k : ℕ). Alike (judge (refusal m q) (effect m q) m) (judge k (effect n q) n)) (sym (refusal_a L a q)) (go (refusal m q) refl)
    where
      go : (k : ℕ) → refusal m q ≡ k → Alike (judge k (effect m q) m) (judge k (effect n q) n)
      go zero e = effect_a q e
      go (suc k) e = record { answer = refl; listing = refl; machine = a }

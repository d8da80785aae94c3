-- The law of rings, further: every accepted call but a stop or a clean of a member leaves a ring as it is. Assumes nothing.
use mathlib.Core.Path.{◌≡◌, refl, sym, ap, subst, ◌∙◌}
use mathlib.Core.Bool.{Bool, true, not}
use mathlib.Core.Logic.{⊎_elim}
use Prim.Native.Nat.{ℕ, zero, suc, ◌≤◌}
use native.Mathlib.Omega.{arith}
use lib.Dec.{eqb}
use borrow.Author.Tests.{eqb-true, eqb-false, leb-true, ltb-false, not-false}
use Rattle.machine.specs.Queue.{same, head, Range}
use Rattle.machine.specs.Machine.{Machine, Words, state, delay, awaited, owner, receiver, standing, waiter}
use Rattle.machine.specs.Machine.{kept, edition, semaphores, below_zero, down, current, buffers, put_buffer}
use Rattle.machine.specs.Moves.{wake, requeue, unlink, waiting, answered, answer_with, free, withdrawn, clean_buffer, off_semaphore}
use Rattle.machine.specs.Request.{Request, Send, WaitAnswer, WaitEvent, SendAnswer, WaitInterrupt, Start, Stop, Clean, Tick, Interrupt, ListOpen}
use Rattle.machine.specs.Request.{Lower, Raise, Unknown}
use Rattle.machine.specs.Refusal.{outside, free_own, refusal}
use Rattle.machine.specs.Step.{Outcome, effect, queued, halted, fallen, fall, expiring, woken, grow, ticked}
use Rattle.machine.specs.Legal.{Legal}
use Rattle.lists.proofs.Links.{no_same}
use Rattle.lists.proofs.Tests.{either, or_false, inside, passes}
use Rattle.lists.proofs.Numbers.{first_in, fold_keeps, in_keep}
use Rattle.laws.proofs.States.{some_waiter, longest}
use Rattle.laws.proofs.Calls.{own_free}
use Rattle.stuck.specs.Waiting.{Waiting, of_machine, Links, Reached, WaitsThrough, Ends}
use Rattle.stuck.proofs.Fits.{legal_fits}
use Rattle.stuck.proofs.Links.{links_more, Goes, goes_ever, links_among}

-- ---- p waits for the answer in buffer b, which h has as receiver
record Keeps (p b h : ℕ) (n : Machine) : Type 0 where
  waits : state n p ≡ 3
  for_it : awaited n p ≡ b
  holder : receiver n b ≡ h
  own : owner n b ≡ p

module _ {p b h : ℕ} where
  -- another process is woken, or goes into another state
  wake_keeps : (r x : ℕ) (n : Machine) → (p ≡ x → ⊥) → Keeps p b h n → Keeps p b h (wake r x n)
  wake_keeps r x n ne k =
      record { waits = no_same p x 1 (state n p) ne ∙ k.waits; for_it = no_same p x 0 (awaited n p) ne ∙ k.for_it; holder = k.holder; own = k.own }

  -- another buffer is freed
  free_keeps : (c : ℕ) (n : Machine) → (b ≡ c → ⊥) → Keeps p b h n → Keeps p b h (free c n)
  free_keeps c n ne k = record { waits = k.waits; for_it = k.for_it; holder = no_same b c 0 (receiver n b) ne ∙ k.holder; own = k.own }

  as_was : {m n : Machine} → n.process ≡ m.process → ((c : ℕ) → receiver n c ≡ receiver m c) → ((c : ℕ) → owner n c ≡ owner m c)
      → Keeps p b h m → Keeps p b h n
  as_was e r o k =
      record {
        waits = ap (λ (f : ℕ → ℕ → ℕ). f p 4) e ∙ k.waits;
        for_it = ap (λ (f : ℕ → ℕ → ℕ). f p 7) e ∙ k.for_it;
        holder = r b ∙ k.holder;
        own = o b ∙ k.own;
      }

  -- another process goes into a state s, with or without a buffer to wait for
  leaves : (x s v : ℕ) {m n : Machine} → (p ≡ x → ⊥) → state n p ≡ same p x s (state m p) → awaited n p ≡ same p x v (awaited m p)
      → ((c : ℕ) → receiver n c ≡ receiver m c) → ((c : ℕ) → owner n c ≡ owner m c) → Keeps p b h m → Keeps p b h n
  leaves x s v ne e f r o k =
      record { waits = e ∙ no_same p x s _ ne ∙ k.waits; for_it = f ∙ no_same p x v _ ne ∙ k.for_it; holder = r b ∙ k.holder; own = o b ∙ k.own }

  -- another buffer is answered: its owner may wake, and that isn't p
  answer_keeps : (c : ℕ) (ws : Words) (n : Machine) → (b ≡ c → ⊥) → Keeps p b h n → Keeps p b h (answer_with c ws n)
  answer_keeps c ws n ne k =
      let j : Keeps p b h (answered c ws n) = as_was refl (λ d. refl) (λ d. refl) k in
      either (Keeps p b h) (waiting c n) (λ t. wake_keeps 1 (owner n c) (answered c ws n) (λ e. other e t) j) (λ t. j)
    where
      other : p ≡ owner n c → waiting c n ≡ true → ⊥
      other e t = ne (sym k.for_it ∙ eqb-true (awaited n p) c (rw (sym e, k.waits) at t))

  -- a clean of another process than p and h
  clean_keeps : (x c : ℕ) (n : Machine) → (x ≡ p → ⊥) → (x ≡ h → ⊥) → Keeps p b h n → Keeps p b h (clean_buffer x c n)
  unfolding clean_buffer
  clean_keeps x c n np nh k =
      let K = Keeps p b h in
      let s : ℕ → Bool = eqb (standing n c) in
      either K (eqb (owner n c) x)
      (λ t. (let ne : b ≡ c → ⊥ = λ e. np (sym (eqb-true (owner n c) x t) ∙ sym (ap (owner n) e) ∙ k.own) in
      either K (s 1) (λ _. free_keeps c (unlink (receiver n c) c n) ne (as_was refl (λ d. refl) (λ d. refl) k))
      (λ _. either K (s 3) (λ _. free_keeps c (unlink x c n) ne (as_was refl (λ d. refl) (λ d. refl) k))
      (λ _. either K (s 2) (λ _. as_was {m = n} {n = put_buffer c 4 4 n} refl (λ d. refl) (λ d. refl) k) (λ _. k)))))
      (λ _. either K (eqb (receiver n c) x)
      (λ t. (let ne : b ≡ c → ⊥ = λ e. nh (sym (eqb-true (receiver n c) x t) ∙ sym (ap (receiver n) e) ∙ k.holder) in
      either K (s 1) (λ _. answer_keeps c withdrawn (unlink x c n) ne (as_was refl (λ d. refl) (λ d. refl) k))
      (λ _. either K (s 2) (λ _. answer_keeps c withdrawn n ne k) (λ _. either K (s 4) (λ _. free_keeps c n ne k) (λ _. k)))))
      (λ _. k))

-- ---- each accepted call
module _ {m : Machine} (L : Legal m) {p : ℕ} (i : Range m.P p) (three : state m p ≡ 3) where
  abbrev b : ℕ
  b = awaited m p

  abbrev h : ℕ
  h = receiver m b

  abbrev K : Machine → Type 0
  K = Keeps p b h

  abbrev O : Outcome → Type 0
  O o = K o.machine

  now : K m
  now = record { waits = three; for_it = refl; holder = refl; own = (L.awaits p i three).own }

  standing_12 : (1 ≤ standing m b) × (standing m b ≤ 2)
  standing_12 = (L.awaits p i three).queued_or_held

  -- the caller runs, and so isn't p
  caller : (current m ≡ 0 → ⊥) → p ≡ current m → ⊥
  caller n e = let r = (L.running.only (current m) (first_in m.running n)).1 in omega (arith, r, three, ap (state m) e)

  in_state : (x s : ℕ) → state m x ≡ s → (s ≡ 3 → ⊥) → p ≡ x → ⊥
  in_state x s e n z = n (sym e ∙ sym (ap (state m) z) ∙ three)

  not_3 : (c : ℕ) → (standing m c ≡ 0) → b ≡ c → ⊥
  not_3 c e z = omega (arith, standing_12, ap (standing m) z, e)

  ticks : K (ticked m)
  ticks =
      let d = (L.process p i).no_delay (λ e. omega (arith, e, three)) (λ e. omega (arith, e, three)) in
      let w : K (woken m) = fold_keeps K (wake 2) (expiring m)
      (λ x j n k. wake_keeps 2 x n (λ e. (let o = eqb-true (delay m x) 1 (in_keep x _ _ j).1 in omega (arith, d, o, ap (delay m) e))) k)
      (fallen m) (fold_keeps K fall _ (λ x j n k. record { waits = k.waits; for_it = k.for_it; holder = k.holder; own = k.own }) m now) in
      fold_keeps K grow _ (λ c j n k. record { waits = k.waits; for_it = k.for_it; holder = k.holder; own = k.own }) (requeue (current m) (woken m))
      (either K (eqb (current m) 0) (λ t. w) (λ t. record { waits = w.waits; for_it = w.for_it; holder = w.holder; own = w.own }))

  sends : (a : ℕ) (ws : Words) → refusal m (Send a ws) ≡ 0 → O (effect m (Send a ws))
  unfolding effect refusal
  sends a ws e =
      let r = passes _ (omega arith) e in
      let c = free_own m (current m) in
      let f = (own_free L (current m) r.1.1.1.0).1 in
      let k : K (queued a c ws m) = record { waits = three; for_it = refl; holder = no_same b c a (receiver m b) (not_3 c f); own = now.own } in
      either K (eqb (state m a) 2) (λ t. wake_keeps 1 a (queued a c ws m) (in_state a 2 (eqb-true (state m a) 2 t) (omega arith)) k) (λ t. k)

  waits_answer_stays : (a : ℕ) → refusal m (WaitAnswer a) ≡ 0 → O (effect m (WaitAnswer a))
  unfolding effect refusal
  waits_answer_stays a e =
      let n = caller (eqb-false (current m) 0 (passes _ (omega arith) e).0) in
      either O (eqb (standing m a) 3)
      (λ t. (let f = free_keeps a (unlink (current m) a m) (λ z. omega (arith, standing_12, ap (standing m) z, eqb-true (standing m a) 3 t))
      (as_was refl (λ d. refl) (λ d. refl) now) in
      record { waits = f.waits; for_it = f.for_it; holder = f.holder; own = f.own }))
      (λ t. leaves (current m) 3 a n refl refl (λ d. refl) (λ d. refl) now)

  waits_event_stays : (d : ℕ) → refusal m (WaitEvent d) ≡ 0 → O (effect m (WaitEvent d))
  unfolding effect refusal
  waits_event_stays d e =
      let some = eqb-false (current m) 0 (passes _ (omega arith) e).0 in
      let n = caller some in
      let c = head (m.events (current m)) in
      let r = (L.running.only (current m) (first_in m.running some)).0 in
      either O (eqb c 0)
      (λ t. record { waits = no_same p (current m) 2 (state m p) n ∙ three; for_it = refl; holder = refl; own = now.own })
      (λ t. either O (eqb (standing m c) 1)
      (λ u. record { waits = three; for_it = refl; holder = refl; own = now.own })
      (λ u. (let s = ((L.events (current m) r).only c (first_in (m.events (current m)) (eqb-false c 0 t))).1 in
      let three-c : standing m c ≡ 3 = ⊎_elim (λ q. absurd (eqb-false (standing m c) 1 u q.0)) (λ q. q.0) s in
      let f = free_keeps c (unlink (current m) c m) (λ z. omega (arith, standing_12, ap (standing m) z, three-c)) (as_was refl (λ d. refl) (λ d. refl) now) in
      record { waits = f.waits; for_it = f.for_it; holder = f.holder; own = f.own })))

  -- whoever answers b runs
  answers_stay : (a : ℕ) (ws : Words) → (state m h ≡ 1 → ⊥) → refusal m (SendAnswer a ws) ≡ 0 → O (effect m (SendAnswer a ws))
  unfolding effect refusal
  answers_stay a ws idle e =
      let r = passes _ (omega arith) e in
      let some = eqb-false (current m) 0 r.0 in
      let o = or_false {a = outside a m.B} r.1.0 in
      let mine = eqb-true (receiver m a) (current m) (not-false _ (or_false {a = not (eqb (receiver m a) (current m))} o.1).0) in
      let ne : b ≡ a → ⊥ = λ z. idle (ap (state m) (ap (receiver m) z ∙ mine) ∙ (L.running.only (current m) (first_in m.running some)).1) in
      either K (eqb (standing m a) 2) (λ t. answer_keeps a ws m ne now) (λ t. free_keeps a m ne now)

  stays : (q : Request) → refusal m q ≡ 0 → (state m h ≡ 1 → ⊥) → (Ends p q → ⊥) → (Ends h q → ⊥) → O (effect m q)
  unfolding effect refusal
  stays (Send a ws) e idle np nh = sends a ws e
  stays (WaitAnswer a) e idle np nh = waits_answer_stays a e
  stays (WaitEvent d) e idle np nh = waits_event_stays d e
  stays (SendAnswer a ws) e idle np nh = answers_stay a ws idle e
  stays (WaitInterrupt a d) e idle np nh =
      let n = caller (eqb-false (current m) 0 (passes _ (omega arith) e).0) in
      either O (eqb (m.device a) kept)
      (λ t. record { waits = three; for_it = refl; holder = refl; own = now.own })
      (λ t. record { waits = no_same p (current m) 4 (state m p) n ∙ three; for_it = refl; holder = refl; own = now.own })
  stays (Start a) e idle np nh =
      wake_keeps 0 a m (in_state a 0 (eqb-true (state m a) 0 (not-false _ (passes _ (omega arith) e).1.0)) (omega arith)) now
  stays (Stop a) e idle np nh = leaves a 0 0 (λ z. np (sym z)) refl refl (λ d. refl) (λ d. refl) now
  stays (Clean a) e idle np nh =
      fold_keeps K (clean_buffer a) (buffers m) (λ c j n k. clean_keeps a c n np nh k) (halted a m)
      (either K (eqb (state m a) 0) (λ t. record { waits = three; for_it = refl; holder = refl; own = now.own })
      (λ t. leaves a 0 0 (λ z. np (sym z)) refl refl (λ d. refl) (λ d. refl) now))
  stays Tick e idle np nh = ticks
  stays (Interrupt a) e idle np nh =
      either O (eqb (waiter m a) 0)
      (λ t. either K (eqb (edition m) 1) (λ u. record { waits = three; for_it = refl; holder = refl; own = now.own }) (λ u. now))
      (λ t. wake_keeps 3 (waiter m a) m
      (in_state (waiter m a) 4 (some_waiter m a L (omega (arith, ltb-false 63 a (passes _ (omega arith) e).0)) t).1 (omega arith)) now)
  stays (ListOpen a room) e idle np nh = now
  stays (Lower a) e idle np nh =
      let n = caller (eqb-false (current m) 0 (passes _ (omega arith) e).0) in
      either K (below_zero (down (m.counter a)))
      (λ t. record { waits = no_same p (current m) 5 (state m p) n ∙ three; for_it = refl; holder = refl; own = now.own })
      (λ t. record { waits = three; for_it = refl; holder = refl; own = now.own })
  stays (Raise a) e idle np nh =
      either K (below_zero (m.counter a))
      (λ t. (let w = longest L a (inside (semaphores m) a (passes _ (omega arith) e).1.0) (leb-true 32768 _ t) in
      wake_keeps 5 (head (m.waiters a)) (off_semaphore (head (m.waiters a)) m) (in_state (head (m.waiters a)) 5 w.1 (omega arith))
      (record { waits = three; for_it = refl; holder = refl; own = now.own })))
      (λ t. record { waits = three; for_it = refl; holder = refl; own = now.own })
  stays Unknown e idle np nh = now

-- ---- the ring
module _ (w : Waiting) where
  -- who is reached by one that waits for ever waits
  pub waits_on : (n y x : ℕ) → Links w n y x → Goes w (suc n) y → w.state x ≡ 3
  unfolding Links
  waits_on zero y x l g = rw (← l) g.0
  waits_on (suc n) y x l g = waits_on n (w.holder y) x l.1 g.1

module _ {m : Machine} (L : Legal m) (q : Request) (e : refusal m q ≡ 0) {y : ℕ} (i : Range m.P y) (ring : WaitsThrough (of_machine m) y y)
    (spared : (x : ℕ) → Reached (of_machine m) y x → Ends x q → ⊥) where
  abbrev v : Waiting
  v = of_machine (effect m q).machine

  ever : (n : ℕ) → Goes (of_machine m) n y
  unfolding Links
  ever n = goes_ever (of_machine m) y ring.more ring.by n 0 y refl

  -- each member waits on, for the same process
  pub member_stays : (n x : ℕ) → Links (of_machine m) n y x → (v.state x ≡ 3) × (v.holder x ≡ (of_machine m).holder x)
  member_stays n x l =
      let w = of_machine m in
      let s = waits_on w n y x l (ever (suc n)) in
      let l' = links_more w n y x l s in
      let s' = waits_on w (suc n) y (w.holder x) l' (ever (suc (suc n))) in
      let k = stays L (links_among (legal_fits L) n y x i l) s q e (λ z. omega (arith, z, s')) (spared x (record { links = n; by = l }))
      (spared (w.holder x) (record { links = suc n; by = l' })) in
      (k.waits, ap (receiver (effect m q).machine) k.for_it ∙ k.holder)

  -- from any member on the links are what they were
  links_stay : (k n x z : ℕ) → Links (of_machine m) n y x → Links (of_machine m) k x z → Links v k x z
  unfolding Links
  links_stay zero n x z l r = r
  links_stay (suc k) n x z l r =
      let s = member_stays n x l in
      (s.0, subst (λ (t : ℕ). Links v k t z) (sym s.1) (links_stay k (suc n) ((of_machine m).holder x) z (links_more (of_machine m) n y x l r.0) r.1))

  -- and y waits for itself as before, by as many links
  pub ring_stays : Links v (suc ring.more) y y
  unfolding Links
  ring_stays = links_stay (suc ring.more) 0 y y refl ring.by

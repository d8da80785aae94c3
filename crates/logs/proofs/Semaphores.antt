-- (xii) Each call moves a semaphore of a legal machine as the log says: what it has to spare, and who waits. Assumes nothing.
use Prim.Native.Nat.{ℕ, zero, suc, ◌+◌, ◌-◌, ◌≤◌, ◌<◌}
use native.Mathlib.Omega.{arith}
use native.Mathlib.Decide.{dec_le}
use mathlib.Core.Bool.{true, false}
use mathlib.Core.List.{List, [], ◌∷◌, ◌++◌}
use mathlib.Core.Logic.{inl, inr, ⊎_elim}
use mathlib.Core.Path.{◌≡◌, refl, sym, ap, ap₂, ◌∙◌}
use lib.Dec.{eqb, eqb-suc-zero}
use lib.ListN.{length}
use borrow.Author.Tests.{eq-eqb, ne_eqb, eqb-false, le-leb, lt-leb, leb-true, leb-false}
use Rattle.machine.specs.Queue.{if, at, head, without, Range, In, Out, Distinct}
use Rattle.machine.specs.Machine.{Machine, state, standing, edition, kept, waiter, semaphores, below_zero, up, down, current}
use Rattle.machine.specs.Moves.{answer_with}
use Rattle.machine.specs.Request.{Request, Send, WaitAnswer, WaitEvent, SendAnswer, WaitInterrupt, Start, Stop, Clean, Tick, Interrupt, ListOpen}
use Rattle.machine.specs.Request.{Lower, Raise, Unknown}
use Rattle.machine.specs.Refusal.{among, refusal}
use Rattle.machine.specs.Step.{Outcome, ticked, effect, judge, step}
use Rattle.machine.specs.Legal.{LegalCounter, Legal}
use Rattle.lists.proofs.Links.{cases, yes_same, no_same}
use Rattle.lists.proofs.Tests.{either, tested, differ, or_false, inside, passes}
use Rattle.lists.proofs.Lists.{without_out}
use Rattle.laws.proofs.States.{longest}
use Rattle.laws.proofs.Dispatch.{accepted}
use Rattle.theorems.proofs.Semaphores.{Semaphores, Still, answer_still, cleaned_still, ticked_still, Off, few_waiters, waiter_off, halted_off}
use Rattle.logs.specs.Semaphores.{Waiters, waiters_of, lowered, raised, dropped, waiters_move}

-- ---- who waits
pub among_in : (p : ℕ) (q : List ℕ) → among p q ≡ true → In p q
among_in p [] t = absurd (differ (sym t))
among_in p (x ∷ q) t = cases p x inl (λ n. inr (among_in p q (rw (ne_eqb p x n) at t)))

pub among_out : (p : ℕ) (q : List ℕ) → among p q ≡ false → Out p q
among_out p [] t i = i
among_out p (x ∷ q) t i = let h = or_false {a = eqb p x} t in ⊎_elim (eqb-false p x h.0) (among_out p q h.1) i

someone : (p : ℕ) (q : List ℕ) → In p q → length q ≡ 0 → ⊥
someone p [] i e = i
someone p (x ∷ q) i e = omega arith

-- ---- a counter and those who wait
-- what a counter's word has to spare
abbrev pub spare_of : ℕ → ℕ
spare_of c = if (below_zero c) 0 c

pub below : (c : ℕ) → 32768 ≤ c → below_zero c ≡ true
below c h = le-leb 32768 c h

pub above : (c : ℕ) → c < 32768 → below_zero c ≡ false
above c h = lt-leb 32768 c h

pub spare_below : (c : ℕ) → 32768 ≤ c → spare_of c ≡ 0
spare_below c h = rw (below c h)

pub spare_above : (c : ℕ) → c < 32768 → spare_of c ≡ c
spare_above c h = rw (above c h)

module _ {c n : ℕ} (l : LegalCounter c n) where
  -- below zero or not
  pub signed : {C : Type 0} → (32768 ≤ c → c + n ≡ 65536 → C) → (c < 32768 → n ≡ 0 → C) → C
  signed {C} f g = go (dec_le 32768 c)
    where
      go : Dec (32768 ≤ c) → C
      go (yes h) = f h (l.below h)
      go (no h) = g (omega arith) (l.above (omega arith))

  -- one off is below zero exactly where nothing is to spare
  spent : n ≤ 32 → below_zero (down c) ≡ eqb (spare_of c) 0
  spent f =
      let w = l.word in
      signed (λ h e. below (down c) (omega arith) ∙ sym (eq-eqb _ 0 (spare_below c h)))
      (λ h e. cases c 0 (λ z. below (down c) (omega arith) ∙ sym (eq-eqb _ 0 (spare_above c h ∙ z)))
      (λ z. above (down c) (omega arith) ∙ sym (ne_eqb _ 0 (λ k. z (sym (spare_above c h) ∙ k)))))

  module _ (q : List ℕ) (p : ℕ) (f : n ≤ 32) where
    -- LOWER by p, which waits or doesn't
    lower_waits : below_zero (down c) ≡ true → waiters_of (spare_of (down c)) (q ++ (p ∷ [])) ≡ lowered p (waiters_of (spare_of c) q)
    lower_waits t =
        rw (sym (spent f) ∙ t) (ap (λ (x : ℕ). waiters_of x (q ++ (p ∷ []))) (spare_below (down c) (leb-true 32768 _ t)))

    lower_passes : below_zero (down c) ≡ false → waiters_of (spare_of (down c)) q ≡ lowered p (waiters_of (spare_of c) q)
    lower_passes t =
        let z = eqb-false (spare_of c) 0 (sym (spent f) ∙ t) in
        let less : spare_of (down c) ≡ spare_of c - 1 = signed (λ h e. absurd (z (spare_below c h)))
        (λ h e. spare_above (down c) (leb-false 32768 _ t) ∙ omega (arith, spare_above c h, z)) in
        rw (sym (spent f) ∙ t) (ap (λ (x : ℕ). waiters_of x q) less)

-- RAISE where nobody waits
raise_more : {c : ℕ} (q : List ℕ) → LegalCounter c (length q) → c < 32768 → (c ≡ 32767 → ⊥)
    → waiters_of (spare_of (up c)) q ≡ raised (waiters_of (spare_of c) q)
raise_more {c} [] l h n = ap (λ (x : ℕ). waiters_of x []) (spare_above (up c) (omega arith) ∙ omega (arith, spare_above c h))
raise_more (x ∷ q) l h n = absurd (omega (arith, l.above h))

-- one that waited leaves nothing to spare
still_short : (c : ℕ) → 32768 ≤ c → c < 65536 → spare_of (up c) ≡ spare_of c
still_short c h w = cases c 65535 (λ e. rw e) (λ n. spare_below (up c) (omega arith) ∙ sym (spare_below c h))

module _ {c c' : ℕ} where
  -- RAISE where the first, p, waits
  raise_first : {p : ℕ} (q : List ℕ) {q' : List ℕ} → p ≡ head q → LegalCounter c (length q) → 32768 ≤ c → Distinct q → Off p c q c' q'
      → waiters_of (spare_of c') q' ≡ raised (waiters_of (spare_of c) q)
  unfolding without
  raise_first [] e l h d o = absurd (omega (arith, l.word, l.below h))
  raise_first {p} (x ∷ q) e l h d o =
      let k : without p (x ∷ q) ≡ q = rw (eq-eqb p x e) (without_out p q (rw e d.0)) in
      ap₂ waiters_of (ap spare_of (o.counted (inl e)) ∙ still_short c h l.word) (o.waiters ∙ k)

  -- who is stopped
  drop_waiter : {p : ℕ} (q : List ℕ) {q' : List ℕ} → LegalCounter c (length q) → Off p c q c' q'
      → waiters_of (spare_of c') q' ≡ dropped p (waiters_of (spare_of c) q)
  drop_waiter {p} q l o =
      ap₂ waiters_of
      (tested (among p q)
      (λ t. ap spare_of (o.counted (among_in p q t))
      ∙ signed l (λ h e. still_short c h l.word) (λ h e. absurd (someone p q (among_in p q t) e)))
      (λ t. ap spare_of (o.uncounted (among_out p q t))))
      o.waiters

-- ---- each call
-- what a legal machine says of semaphore s
abbrev pub waiters_at : Machine → ℕ → Waiters
waiters_at m s = waiters_of (spare_of (m.counter s)) (m.waiters s)

module _ {m : Machine} (L : Legal m) {s : ℕ} (j : Range (semaphores m) s) where
  abbrev Moves : Request → Machine → Type 0
  Moves r n = waiters_at n s ≡ waiters_move s (current m) (waiters_at m s) r

  -- the semaphores stay
  stays : (n : Machine) → Still m n → waiters_at n s ≡ waiters_at m s
  stays n e = ap (λ (x : Semaphores). waiters_of (spare_of (x.counter s)) (x.waiters s)) e

  -- another than s is changed
  elsewhere : (a c : ℕ) (q : List ℕ) → (s ≡ a → ⊥) → waiters_of (spare_of (at m.counter a c s)) (at m.waiters a q s) ≡ waiters_at m s
  elsewhere a c q n = ap₂ (λ (x : ℕ) (y : List ℕ). waiters_of (spare_of x) y) (no_same s a c _ n) (no_same s a q _ n)

  here : (a c : ℕ) (q : List ℕ) → s ≡ a → waiters_of (spare_of (at m.counter a c s)) (at m.waiters a q s) ≡ waiters_of (spare_of c) q
  here a c q e = ap₂ (λ (x : ℕ) (y : List ℕ). waiters_of (spare_of x) y) (yes_same s a c _ e) (yes_same s a q _ e)

  lower : (a : ℕ) → Moves (Lower a) (effect m (Lower a)).machine
  unfolding effect waiters_move
  lower a =
      cases s a
      (λ e.
      let l = L.counters s j in
      let f = few_waiters L j in
      rw (eq-eqb a s (sym e)) (either (λ (n : Machine). waiters_at n s ≡ lowered (current m) (waiters_at m s)) (below_zero (down (m.counter a)))
      (λ t. here a _ _ e ∙ rw (← e) (lower_waits l (m.waiters s) (current m) f (rw (← e) at t)))
      (λ t. here a _ _ e ∙ rw (← e) (lower_passes l (m.waiters s) (current m) f (rw (← e) at t)))))
      (λ n. rw (ne_eqb a s (λ e. n (sym e))) (either (λ (w : Machine). waiters_at w s ≡ waiters_at m s) (below_zero (down (m.counter a)))
      (λ t. elsewhere a _ _ n) (λ t. elsewhere a _ _ n)))

  raise : (a : ℕ) → refusal m (Raise a) ≡ 0 → Moves (Raise a) (effect m (Raise a)).machine
  unfolding effect waiters_move refusal
  raise a r =
      let h = passes _ (omega arith) r in
      let k = inside (semaphores m) a h.1.0 in
      let p : ℕ = head (m.waiters a) in
      let full = eqb-false (m.counter a) 32767 h.1.1.0 in
      cases s a
      (λ e.
      let l = L.counters s j in
      rw (eq-eqb a s (sym e)) (either (λ (n : Machine). waiters_at n s ≡ raised (waiters_at m s)) (below_zero (m.counter a))
      (λ t. (let b : 32768 ≤ m.counter a = leb-true 32768 _ t in
      raise_first (m.waiters s) (ap (λ (x : ℕ). head (m.waiters x)) (sym e)) l (rw (← e) at b) (L.semaphore_queues s j).once
      (waiter_off L j (longest L a k b).0)))
      (λ t. here a _ _ e ∙ rw (← e) (raise_more (m.waiters s) l (rw (← e) at (leb-false 32768 (m.counter a) t)) (rw (← e) at full)))))
      (λ n. rw (ne_eqb a s (λ e. n (sym e))) (either (λ (w : Machine). waiters_at w s ≡ waiters_at m s) (below_zero (m.counter a))
      (λ t. (let c = longest L a k (leb-true 32768 _ t) in
      let o = waiter_off L j c.0 in
      let out : Out p (m.waiters s) = λ i. n (sym ((L.semaphore_queues s j).only p i).2 ∙ c.2) in
      ap₂ (λ (x : ℕ) (y : List ℕ). waiters_of (spare_of x) y) (o.uncounted out) (o.waiters ∙ without_out p (m.waiters s) out)))
      (λ t. elsewhere a _ _ n)))

  stop : (a : ℕ) → refusal m (Stop a) ≡ 0 → Moves (Stop a) (effect m (Stop a)).machine
  unfolding effect waiters_move refusal
  stop a r = drop_waiter (m.waiters s) (L.counters s j) (waiter_off L j (inside m.P a (passes _ (omega arith) r).0))

  clean : (a : ℕ) → refusal m (Clean a) ≡ 0 → Moves (Clean a) (effect m (Clean a)).machine
  unfolding effect waiters_move refusal
  clean a r =
      ap (λ (x : Semaphores). waiters_of (spare_of (x.counter s)) (x.waiters s)) (cleaned_still a m)
      ∙ drop_waiter (m.waiters s) (L.counters s j) (halted_off L j (inside m.P a (passes _ (omega arith) r).0))

  -- any accepted request
  abbrev On : Request → Outcome → Type 0
  On r o = Moves r o.machine

  moves : (r : Request) → refusal m r ≡ 0 → On r (effect m r)
  unfolding effect waiters_move
  moves (Send a ws) h = either (Moves (Send a ws)) (eqb (state m a) 2) (λ t. refl) (λ t. refl)
  moves (WaitAnswer a) h = either (On (WaitAnswer a)) (eqb (standing m a) 3) (λ t. refl) (λ t. refl)
  moves (WaitEvent d) h =
      let b : ℕ = head (m.events (current m)) in
      either (On (WaitEvent d)) (eqb b 0) (λ t. refl) (λ t. either (On (WaitEvent d)) (eqb (standing m b) 1) (λ u. refl) (λ u. refl))
  moves (SendAnswer a ws) h = either (Moves (SendAnswer a ws)) (eqb (standing m a) 2) (λ t. stays (answer_with a ws m) (answer_still a ws m m refl)) (λ t. refl)
  moves (WaitInterrupt a d) h = either (On (WaitInterrupt a d)) (eqb (m.device a) kept) (λ t. refl) (λ t. refl)
  moves (Start a) h = refl
  moves (Stop a) h = stop a h
  moves (Clean a) h = clean a h
  moves Tick h = stays (ticked m) (ticked_still m)
  moves (Interrupt a) h =
      either (On (Interrupt a)) (eqb (waiter m a) 0) (λ t. either (Moves (Interrupt a)) (eqb (edition m) 1) (λ u. refl) (λ u. refl)) (λ t. refl)
  moves (ListOpen a room) h = refl
  moves (Lower a) h = lower a
  moves (Raise a) h = raise a h
  moves Unknown h = refl

  -- and any request, by its answer: "Only accepted calls count"
  pub waiters_moves : (r : Request)
      → waiters_at (step m r).machine s ≡ if (eqb (step m r).answer.number 0) (waiters_move s (current m) (waiters_at m s) r) (waiters_at m s)
  unfolding step
  waiters_moves r = go (refusal m r) refl
    where
      go : (n : ℕ) → refusal m r ≡ n
          → waiters_at (judge n (effect m r) m).machine s ≡ if (eqb (judge n (effect m r) m).answer.number 0)
          (waiters_move s (current m) (waiters_at m s) r) (waiters_at m s)
      go zero e = rw (eq-eqb _ 0 (accepted m r e).number) (moves r e)
      go (suc n) e = rw (eqb-suc-zero n)

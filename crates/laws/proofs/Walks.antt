-- docs/MONITOR.md, 13, the walks of whole calls: no entry passes more than 31, the wakes of a tick together at most 496, of a clean 465. Assumes nothing.
use Prim.Native.Nat.{ℕ, zero, suc, ◌+◌, ◌-◌, ◌≤◌, ◌<◌}
use native.Mathlib.Omega.{arith}
use native.Mathlib.Nat.{add-zero, add-suc}
use mathlib.Core.Bool.{Bool, true, not, ◌&&◌}
use mathlib.Core.List.{List, [], ◌∷◌}
use mathlib.Core.Logic.{inl, inr, ⊎_elim}
use mathlib.Core.Path.{◌≡◌, refl, sym, ◌∙◌}
use lib.ListN.{length}
use lib.Dec.{eqb, leb}
use borrow.Author.Tests.{eq-eqb, ne_eqb, eqb-true, eqb-false, leb-true, ltb-false, not-true, not-false}
use Rattle.machine.specs.Queue.{Range, In, Distinct, without, keep, fold}
use Rattle.machine.specs.Machine.{Machine, state, priority, owner, receiver, standing, waiter, semaphores, below_zero, current, processes, buffers}
use Rattle.machine.specs.Moves.{bar, wake, unlink, waiting, answer_with, withdrawn, clean_buffer}
use Rattle.machine.specs.Request.{Request, Send, WaitAnswer, WaitEvent, SendAnswer, WaitInterrupt, Start, Stop, Clean, Tick, Interrupt, ListOpen}
use Rattle.machine.specs.Request.{Lower, Raise, Unknown}
use Rattle.machine.specs.Refusal.{outside, refusal}
use Rattle.machine.specs.Step.{effect, halted, cleaned, expiring, fallen, woken}
use Rattle.machine.specs.Walk.{Walk, nowhere, entered, walked, WalkSoFar, begin, walk_on, waking, cleaning, moving, effort, walk}
use Rattle.machine.specs.Legal.{Legal}
use Rattle.lists.proofs.Tests.{either, and_true, or_false, inside, passes}
use Rattle.lists.proofs.Links.{cases, no_same, refl_same, decide}
use Rattle.lists.proofs.Numbers.{fold_keeps, in_from}
use Rattle.lists.proofs.Lists.{put_enter, put_length, no_longer, without_less}
use Rattle.laws.proofs.States.{some_waiter, longest}
use Rattle.laws.proofs.Sweeps.{walk_machine}
use Rattle.laws.proofs.Passing.{passed_length, passing_exactly, few_32, few_run, walked_31}
use Rattle.laws.proofs.Ticks.{expiring_once, expiring_sleep, legal_woken, still_runs}
use Rattle.laws.proofs.Cleans.{Cleaning, clean_one, halted_cleaning}

-- ---- the walk through a call: the machine is the call's
pub waking_woken : (m : Machine) → (waking m).machine ≡ woken m
waking_woken m = walk_machine 2 _ (wake 2) (expiring m) (begin (fallen m))

pub cleaning_cleaned : (p : ℕ) (m : Machine) → (cleaning p m).machine ≡ cleaned p m
cleaning_cleaned p m = walk_machine 1 _ (clean_buffer p) _ _

-- ---- what entries pass together
-- 0 + 1 + .. + (n - 1)
unfoldable triangle : ℕ → ℕ
triangle zero = 0
triangle (suc n) = triangle n + n

rises : (n k : ℕ) → n ≤ k → triangle n ≤ triangle k
unfolding triangle
rises n k h = let e : n + (k - n) ≡ k = omega arith in rw e at (more (k - n))
  where
    more : (j : ℕ) → triangle n ≤ triangle (n + j)
    more zero = rw (add-zero n) (omega arith)
    more (suc j) = rw (add-suc n j) (omega (arith, more j))

-- by how many run now
record Bounds (s : WalkSoFar) : Type 0 where
  passed : s.walk.passed ≤ triangle (length s.machine.running)
  most : s.walk.most ≤ length s.machine.running - 1

begins : (m : Machine) → Bounds (begin m)
begins m = record { passed = omega arith; most = omega arith }

-- p may enter from m to n: if it does, one more runs, and nobody fewer if not
bound : (reason p : ℕ) {m n : Machine} {w : Walk} → (entered p m n ≡ true → length m.running < length n.running)
    → length m.running ≤ length n.running
    → Bounds (record { machine = m; walk = w }) → Bounds (record { machine = n; walk = walked reason p m n w })
unfolding triangle
bound reason p {m} {n} {w} more kept b =
    let q = m.running in
    let h = passed_length (priority m) (bar reason p m) q in
    either (λ (v : Walk). Bounds (record { machine = n; walk = v })) (entered p m n)
    (λ t.
    (let l = more t in
    record { passed = omega (arith, b.passed, h, rises (suc (length q)) (length n.running) (omega arith)); most = omega (arith, b.most, h) }))
    (λ t. record { passed = omega (arith, b.passed, rises (length q) (length n.running) kept); most = omega (arith, b.most) })

-- ---- a tick
bound_wake : (p : ℕ) (s : WalkSoFar) → Bounds s → Bounds (walk_on 2 (λ p n. p) (wake 2) p s)
bound_wake p s =
    let m = s.machine in
    let k = put_length (put_enter (priority m) (bar 2 p m) p m.running) in
    bound 2 p (λ t. omega arith) (omega arith)

-- each wake is an entry
wake_entries : (l : List ℕ) (s : WalkSoFar) → Distinct l → ((x : ℕ) → In x l → state s.machine x ≡ 1 → ⊥)
    → (fold (walk_on 2 (λ p n. p) (wake 2)) l s).walk.entries ≡ s.walk.entries + length l
unfolding fold
wake_entries [] s d h = omega arith
wake_entries (x ∷ l) s d h =
    let e : entered x s.machine (wake 2 x s.machine) ≡ true = simp (ne_eqb (state s.machine x) 1 (h x (inl refl)), decide) in
    let k = wake_entries l (walk_on 2 (λ p n. p) (wake 2) x s) d.1 (λ y j k. h y (inr j) (sym (no_same y x 1 _ (λ z. d.0 (rw z at j))) ∙ k)) in
    let z : (walked 2 x s.machine (wake 2 x s.machine) s.walk).entries ≡ s.walk.entries + 1 = rw e in
    omega arith

-- ---- a clean
-- who runs runs on, whatever buffer is cleaned
module _ (p b x : ℕ) (m : Machine) where
  abbrev On : Machine → Type 0
  On w = (w.P ≡ m.P) × (state m x ≡ 1 → state w x ≡ 1)

  answers_on : (k : Machine) → On k → On (answer_with b withdrawn k)
  answers_on k e =
      either On (waiting b k)
      (λ t. (e.0, λ h. cases x (owner k b) (λ o. rw o (refl_same (owner k b) 1 _)) (λ n. no_same x (owner k b) 1 _ n ∙ e.1 h)))
      (λ t. e)

  cleans_on : On (clean_buffer p b m)
  unfolding clean_buffer
  cleans_on =
      let s : ℕ → Bool = eqb (standing m b) in
      let on : On m = (refl, λ h. h) in
      either On (eqb (owner m b) p)
      (λ _. either On (s 1) (λ _. on) (λ _. either On (s 3) (λ _. on) (λ _. either On (s 2) (λ _. on) (λ _. on))))
      (λ _. either On (eqb (receiver m b) p)
      (λ _. either On (s 1) (λ _. answers_on (unlink p b m) on) (λ _. either On (s 2) (λ _. answers_on m on) (λ _. either On (s 4) (λ _. on) (λ _. on))))
      (λ _. on))

module _ {p B b : ℕ} {m : Machine} (c : Cleaning p B m) (i : Range m.B b) where
  runs_on : (x : ℕ) → In x m.running → In x (clean_buffer p b m).running
  runs_on x j =
      let r = c.legal.running.only x j in
      let on = cleans_on p b x m in
      (clean_one c i).legal.running.every x (rw on.0 r.0, on.1 r.1)

  -- and who enters is new among them
  enters_new : {k : ℕ} → Range m.P k → entered k m (clean_buffer p b m) ≡ true → length m.running < length (clean_buffer p b m).running
  enters_new {k} r t =
      let e = and_true {a = not (eqb (state m k) 1)} t in
      let runs = (clean_one c i).legal.running.every k (rw (cleans_on p b k m).0 r, eqb-true _ 1 e.1) in
      let not_yet = eqb-false (state m k) 1 (not-true _ e.0) in
      no_longer (k ∷ m.running) (clean_buffer p b m).running (λ j. not_yet (c.legal.running.only k j).1, c.legal.running.once)
      (λ x. ⊎_elim (λ z. rw z runs) (runs_on x))

  bound_clean : {w : Walk} → Bounds (record { machine = m; walk = w })
      → Bounds (walk_on 1 (λ b n. owner n b) (clean_buffer p) b (record { machine = m; walk = w }))
  bound_clean =
      bound 1 (owner m b) (enters_new (c.legal.fixed.owned b i)) (no_longer m.running (clean_buffer p b m).running c.legal.running.once runs_on)

module _ {m : Machine} (L : Legal m) where
  -- as many as the kind says
  pub waking_entries : (waking m).walk.entries ≡ length (expiring m)
  waking_entries = wake_entries (expiring m) (begin (fallen m)) (expiring_once L) (λ x i. (expiring_sleep L x i).1.0) ∙ omega arith

  tick_bounds : ((waking m).walk.passed ≤ 496) × ((waking m).walk.most ≤ 31)
  unfolding triangle
  tick_bounds =
      let b = fold_keeps Bounds _ (expiring m) (λ p i s c. bound_wake p s c) (begin (fallen m)) (begins (fallen m)) in
      let h : length (waking m).machine.running ≤ 32 = rw (waking_woken m) (few_run (legal_woken L)) in
      (omega (arith, b.passed, rises _ 32 h), omega (arith, b.most, h))

  -- who is cleaned doesn't run, so one fewer can
  clean_bounds : {a : ℕ} → Range m.P a → ((cleaning a m).walk.passed ≤ 465) × ((cleaning a m).walk.most ≤ 30)
  unfolding triangle
  clean_bounds {a} r =
      let k = fold_keeps (λ s. Cleaning a m.B s.machine × (Range s.machine.P a × Bounds s)) (walk_on 1 (λ b n. owner n b) (clean_buffer a))
      (buffers m)
      (λ b j s c. (let d = in_from b 1 m.B j in let i : Range s.machine.B b = omega (arith, c.0.size) in
      (clean_one c.0 i, (rw (cleans_on a b 0 s.machine).0 c.1.0, bound_clean c.0 i c.1.1))))
      (begin (halted a m)) (halted_cleaning L r, (either (λ (n : Machine). Range n.P a) (eqb (state m a) 0) (λ t. r) (λ t. r), begins (halted a m))) in
      let n = (cleaning a m).machine in
      let K = k.0.legal in
      let h : length (a ∷ n.running) ≤ 32 = few_32 K (a ∷ n.running) (λ j. omega (arith, (K.running.only a j).1, k.0.stopped), K.running.once)
      (λ x. ⊎_elim (λ e. rw e k.1.0) (λ j. (K.running.only x j).0)) in
      (omega (arith, k.1.1.passed, rises (length n.running) 31 (omega arith)), omega (arith, k.1.1.most))

  moving_31 : moving m ≤ 31
  moving_31 =
      let q = (woken m).running in
      either (λ (n : ℕ). n ≤ 31) (eqb (current m) 0) (λ t. omega arith)
      (λ t. omega (
        arith,
        passed_length (priority (woken m)) (priority (woken m) (current m)) (without (current m) q),
        without_less (current m) q (still_runs L (eqb-false _ 0 t)),
        few_run (legal_woken L),
      ))

  -- ---- any call
  effort_31 : (r : Request) → refusal m r ≡ 0 → (effort m r).most ≤ 31
  unfolding effort refusal
  effort_31 (Send a ws) e = walked_31 L 1 (inside m.P a (passes _ (omega arith) e).1.0) (effect m (Send a ws)).machine nowhere (omega arith)
  effort_31 (WaitAnswer a) e = omega arith
  effort_31 (WaitEvent d) e = omega arith
  effort_31 (SendAnswer a ws) e =
      walked_31 L 1 (L.fixed.owned a (inside m.B a (or_false {a = outside a m.B} (passes _ (omega arith) e).1.0).0))
      (effect m (SendAnswer a ws)).machine nowhere (omega arith)
  effort_31 (WaitInterrupt a d) e = omega arith
  effort_31 (Start a) e = walked_31 L 0 (inside m.P a (passes _ (omega arith) e).0) (effect m (Start a)).machine nowhere (omega arith)
  effort_31 (Stop a) e = omega arith
  effort_31 (Clean a) e = omega (arith, (clean_bounds (inside m.P a (passes _ (omega arith) e).0)).1)
  effort_31 Tick e = tick_bounds.1
  effort_31 (Interrupt a) e =
      either (λ (w : Walk). w.most ≤ 31) (eqb (waiter m a) 0) (λ t. omega arith)
      (λ t. walked_31 L 3 (some_waiter m a L (omega (arith, ltb-false 63 a (passes _ (omega arith) e).0)) t).0
      (effect m (Interrupt a)).machine nowhere (omega arith))
  effort_31 (ListOpen a room) e = omega arith
  effort_31 (Lower a) e = omega arith
  effort_31 (Raise a) e =
      either (λ (w : Walk). w.most ≤ 31) (below_zero (m.counter a))
      (λ t. walked_31 L 5 (longest L a (inside (semaphores m) a (passes _ (omega arith) e).1.0) (leb-true 32768 _ t)).0 (effect m (Raise a)).machine nowhere
      (omega arith))
      (λ t. omega arith)
  effort_31 Unknown e = omega arith

  -- the most that one of a call's entries passes
  pub walk_31 : (r : Request) → (walk m r).most ≤ 31
  unfolding walk
  walk_31 r = either (λ (w : Walk). w.most ≤ 31) (eqb (refusal m r) 0) (λ t. effort_31 r (eqb-true _ 0 t)) (λ t. omega arith)

  -- the wakes of a tick together, as many as the kind says, and its move
  pub tick_496 : (walk m Tick).passed ≤ 496
  unfolding walk refusal effort
  tick_496 = tick_bounds.0

  pub tick_entries : (walk m Tick).entries ≡ (effect m Tick).answer.kind
  unfolding walk refusal effort effect
  tick_entries = waking_entries

  pub tick_moves_31 : (walk m Tick).moved ≤ 31
  unfolding walk refusal effort
  tick_moves_31 = moving_31

  -- the wakes of a clean together
  pub clean_465 : (a : ℕ) → (walk m (Clean a)).passed ≤ 465
  unfolding walk refusal effort
  clean_465 a =
      either (λ (w : Walk). w.passed ≤ 465) (eqb (refusal m (Clean a)) 0)
      (λ t. (clean_bounds (inside m.P a (passes _ (omega arith) (eqb-true _ 0 t)).0)).0) (λ t. omega arith)

  -- ---- exactly
  -- one that doesn't run wakes
  woken_exactly : (reason : ℕ) {p : ℕ} → (state m p ≡ 1 → ⊥)
      → (walked reason p m (wake reason p m) nowhere).passed ≡ length (keep (λ k. eqb (state m k) 1 && leb (bar reason p m) (priority m k)) (processes m))
  woken_exactly reason {p} n =
      let e : entered p m (wake reason p m) ≡ true = simp (ne_eqb (state m p) 1 n, decide) in
      rw e (omega (arith, passing_exactly L reason p))

  -- a start passes the running processes of equal or higher priority
  pub start_exactly : (a : ℕ) → refusal m (Start a) ≡ 0
      → (walk m (Start a)).passed ≡ length (keep (λ k. eqb (state m k) 1 && leb (priority m a) (priority m k)) (processes m))
  unfolding walk effort effect refusal
  start_exactly a e =
      let stopped = eqb-true (state m a) 0 (not-false _ (passes _ (omega arith) e).1.0) in
      rw (eq-eqb (refusal m (Start a)) 0 e) (woken_exactly 0 (omega arith))

  -- an interrupt's wake only those of higher priority
  pub interrupt_exactly : (a : ℕ) → refusal m (Interrupt a) ≡ 0 → (waiter m a ≡ 0 → ⊥)
      → (walk m (Interrupt a)).passed ≡ length (keep (λ k. eqb (state m k) 1 && leb (priority m (waiter m a) + 1) (priority m k)) (processes m))
  unfolding walk effort effect refusal
  interrupt_exactly a e some =
      let waits = some_waiter m a L (omega (arith, ltb-false 63 a (passes _ (omega arith) e).0)) (ne_eqb (waiter m a) 0 some) in
      rw (eq-eqb (refusal m (Interrupt a)) 0 e, ne_eqb (waiter m a) 0 some) (woken_exactly 3 (omega (arith, waits.1)))

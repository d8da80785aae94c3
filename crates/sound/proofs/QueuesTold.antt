-- Following the queues of a table tells whether it has those that Sound asks. Assumes nothing.
use mathlib.Core.Path.{◌≡◌, refl, sym}
use mathlib.Core.Logic.{inl, inr, ⊎_elim}
use mathlib.Core.List.{List, [], ◌∷◌}
use mathlib.Core.Bool.{Bool, true, false, ◌||◌, and-eq-true_iff}
use Prim.Native.Nat.{ℕ, ◌+◌, ◌-◌, ◌≤◌, ◌<◌}
use native.Mathlib.Omega.{arith}
use lib.ListN.{length, get_or}
use lib.Dec.{eqb, leb}
use borrow.Author.Tests.{eqb-true, eqb-false, eq-eqb, ne_eqb, leb-true}
use Rattle.machine.specs.Queue.{Range, In, Falls}
use Rattle.machine.specs.Machine.{given}
use Rattle.machine.specs.Legal.{Queued}
use Rattle.machine.specs.Sound.{P_of, B_of, process_at, buffer_at, RunningQueue, EventQueue}
use Rattle.lists.proofs.Links.{cases}
use Rattle.lists.proofs.Tells.{Tells, eq, le, both, said}
use Rattle.lists.specs.Counts.{bit, count}
use Rattle.sound.specs.Buffers.{queued}
use Rattle.sound.specs.Queues.{failed, belongs, event_step, event_queue, sweep, limit, running_step, running, follow_running}
use Rattle.sound.specs.Records.{base_of, queued_of, runs}
use Rattle.sound.proofs.Choices.{chosen, untold}
use Rattle.sound.proofs.Following.{Chain, Ordered, follow_found, chain_follows, chain_most, chain_queue, queue_chain}
use Rattle.sound.proofs.Sums.{bound, sweep_tells, given_counts, given_each, given_single, given_some, given_one, given_nobody}

belongs_tells : (s r o p : ℕ) → Tells (belongs s r o p) (Queued o r s p)
unfolding belongs
belongs_tells s r o p =
    said (chosen (eq s 1) (eq r p) (both (eq s 3) (eq o p)))
    (λ h. cases s 1 (λ e. inl (e, h.0 e)) (λ n. inr (h.1 n)))
    (λ q. ((λ e. ⊎_elim (λ x. x.1) (λ x. absurd (omega (arith, x.0))) q), (λ n. ⊎_elim (λ x. absurd (n x.0)) (λ x. x) q)))

module _ (w : List ℕ) where
  -- ---- event queues
  abbrev In-queue : ℕ → ℕ → Type 0
  In-queue p b = Queued (buffer_at w b 2) (buffer_at w b 3) (buffer_at w b 4) p

  abbrev in_queue : ℕ → ℕ → Bool
  in_queue p b = belongs (buffer_at w b 4) (buffer_at w b 3) (buffer_at w b 2) p

  -- in any order
  abbrev pub Any : ℕ → ℕ → Type 0
  Any b at = Unit {0}

  in_queue_tells : (p b : ℕ) → Tells (in_queue p b) (In-queue p b)
  in_queue_tells p b = belongs_tells (buffer_at w b 4) (buffer_at w b 3) (buffer_at w b 2) p

  event_tells : (p b at : ℕ) → (at ≡ 0 → ⊥) → Tells (event_step w (base_of w) p b at) ((at ≤ B_of w) × ((buffer_at w at 1 ≡ b) × (In-queue p at × Any b at)))
  unfolding event_step
  event_tells p b at n =
      said (both (le _ _) (both (eq _ _) (in_queue_tells p at))) (λ h. (h.0, (h.1.0, (h.1.1, tt)))) (λ h. (h.0, (h.1.0, h.1.1.0)))

  pub event_range : (base p b at : ℕ) → event_step w base p b at ≡ true → at ≤ B_of w
  unfolding event_step
  event_range base p b at t = leb-true at (B_of w) ((and-eq-true_iff (leb at (B_of w)) _).0 t).0

  pub any_order : (b : ℕ) (q : List ℕ) → Ordered Any b q
  unfolding Ordered
  any_order b [] = tt
  any_order b (x ∷ q) = (tt, any_order x q)

  abbrev Events : ℕ → List ℕ → Type 0
  Events p q = Chain (B_of w) (λ b. buffer_at w b 0) (λ b. buffer_at w b 1) (process_at w p 3) (In-queue p) Any (process_at w p 2) 0 q

  abbrev belonging : ℕ → ℕ
  belonging p = count (in_queue p) (B_of w)

  followed_to : (p k r : ℕ) → event_queue w (base_of w) p k ≡ r → (r ≡ failed → ⊥) → (q : List ℕ) × (length q + r ≡ k) × Events p q
  followed_to p k r t n = follow_found (B_of w) (λ b. buffer_at w b 0) (λ b. buffer_at w b 1) (process_at w p 3) (In-queue p) Any
      (event_step w (base_of w) p) (event_tells p) k (process_at w p 2) 0 r t n

  goes : (p : ℕ) (q : List ℕ) (k : ℕ) → Events p q → length q ≤ k → event_queue w (base_of w) p k ≡ k - length q
  goes p q k h l = chain_follows (B_of w) (λ b. buffer_at w b 0) (λ b. buffer_at w b 1) (process_at w p 3) (In-queue p) Any
      (event_step w (base_of w) p) (event_tells p) q k (process_at w p 2) 0 h l

  most : (p : ℕ) (q : List ℕ) → Events p q → length q ≤ belonging p
  most p q h = chain_most (B_of w) (λ b. buffer_at w b 0) (λ b. buffer_at w b 1) (process_at w p 3) (In-queue p) Any (in_queue p)
      (in_queue_tells p) (process_at w p 2) q h

  -- a buffer queued at a process, which is one of the processes
  abbrev pub Received : ℕ → Type 0
  Received b = buffer_at w b 4 ≡ 1 → Range (P_of w) (buffer_at w b 3)

  -- each buffer in a queue belongs to one process
  record Homed (b : ℕ) : Type 0 where
    owner : Range (P_of w) (buffer_at w b 2)
    receiver : Received b

  -- no other process than its receiver, or its owner, has a buffer of that standing in its queue
  not_received : (b p : ℕ) → buffer_at w b 4 ≡ 1 → (p ≡ buffer_at w b 3 → ⊥) → in_queue p b ≡ false
  not_received b p s n = untold _ (in_queue_tells p b) (λ v. ⊎_elim (λ a. n (sym a.1)) (λ a. omega (arith, a.0)) v)

  not_owned : (b p : ℕ) → buffer_at w b 4 ≡ 3 → (p ≡ buffer_at w b 2 → ⊥) → in_queue p b ≡ false
  not_owned b p s n = untold _ (in_queue_tells p b) (λ v. ⊎_elim (λ a. omega (arith, a.0)) (λ a. n (sym a.1)) v)

  not_queued : (b p : ℕ) → (buffer_at w b 4 ≡ 1 → ⊥) → (buffer_at w b 4 ≡ 3 → ⊥) → in_queue p b ≡ false
  not_queued b p n m = untold _ (in_queue_tells p b) (λ v. ⊎_elim (λ a. n a.0) (λ a. m a.0) v)

  home_most : (b : ℕ) → given (λ p. bit (in_queue p b)) (P_of w) ≤ bit (queued (buffer_at w b 4))
  home_most b = by (eqb (buffer_at w b 4) 1) (eqb (buffer_at w b 4) 3) refl refl
    where
      by : (x y : Bool) → eqb (buffer_at w b 4) 1 ≡ x → eqb (buffer_at w b 4) 3 ≡ y → given (λ p. bit (in_queue p b)) (P_of w) ≤ bit (x || y)
      by true y e f = given_single (λ p. in_queue p b) (buffer_at w b 3) (P_of w) (λ p n. not_received b p (eqb-true _ 1 e) n)
      by false true e f = given_single (λ p. in_queue p b) (buffer_at w b 2) (P_of w) (λ p n. not_owned b p (eqb-true _ 3 f) n)
      by false false e f = let z = given_nobody (λ p. in_queue p b) (P_of w) (λ p. not_queued b p (eqb-false _ 1 e) (eqb-false _ 3 f)) in omega arith

  home : (b : ℕ) → Homed b → given (λ p. bit (in_queue p b)) (P_of w) ≡ bit (queued (buffer_at w b 4))
  home b h = by (eqb (buffer_at w b 4) 1) (eqb (buffer_at w b 4) 3) refl refl
    where
      by : (x y : Bool) → eqb (buffer_at w b 4) 1 ≡ x → eqb (buffer_at w b 4) 3 ≡ y → given (λ p. bit (in_queue p b)) (P_of w) ≡ bit (x || y)
      by true y e f =
          let s = eqb-true (buffer_at w b 4) 1 e in
          given_one (λ p. in_queue p b) (buffer_at w b 3) (P_of w) (h.receiver s) (λ p n. not_received b p s n)
          ((in_queue_tells (buffer_at w b 3) b).back (inl (s, refl)))
      by false true e f =
          let s = eqb-true (buffer_at w b 4) 3 f in
          given_one (λ p. in_queue p b) (buffer_at w b 2) (P_of w) h.owner (λ p n. not_owned b p s n)
          ((in_queue_tells (buffer_at w b 2) b).back (inr (s, refl)))
      by false false e f = given_nobody (λ p. in_queue p b) (P_of w) (λ p. not_queued b p (eqb-false _ 1 e) (eqb-false _ 3 f))

  -- where all buffers that are queued are found in the queues, each of them has its receiver among the processes
  received : sweep (event_queue w (base_of w)) (P_of w) (queued_of w (base_of w) (B_of w)) ≡ 0 → (b : ℕ) → Range (B_of w) b → Received b
  received t b r s =
      let l = bound (event_queue w (base_of w)) Events belonging followed_to goes most (P_of w) (queued_of w (base_of w) (B_of w)) 0 t (λ z. omega arith) in
      let q : bit (queued (buffer_at w b 4)) ≡ 1 = rw (eq-eqb (buffer_at w b 4) 1 s) refl in
      let m = given_each in_queue (λ x. queued (buffer_at w x 4)) (P_of w) (B_of w) (λ x k. home_most x) (omega arith) b r in
      let f = given_some (λ p. in_queue p b) (P_of w) (omega arith) in
      ⊎_elim (λ a. rw a.1 f.1) (λ a. absurd (omega (arith, a.0))) ((in_queue_tells f.0 b).holds f.2)

  -- all event queues by one sweep
  swept : ((b : ℕ) → Range (B_of w) b → Homed b) → queued_of w (base_of w) (B_of w) < failed
      → Tells (eqb (sweep (event_queue w (base_of w)) (P_of w) (queued_of w (base_of w) (B_of w))) 0) ((p : ℕ) → Range (P_of w) p → EventQueue w p)
  swept H s =
      let e : given belonging (P_of w) ≡ queued_of w (base_of w) (B_of w) =
      given_counts in_queue (λ b. queued (buffer_at w b 4)) (P_of w) (B_of w) (λ b r. home b (H b r)) in
      rw (← e) (said (sweep_tells (event_queue w (base_of w)) Events belonging followed_to goes most (P_of w) (omega arith))
      (λ h p r. let f = h p r in record {
        q = f.0;
        is = chain_queue (B_of w) (λ b. buffer_at w b 0) (λ b. buffer_at w b 1) (process_at w p 3) (In-queue p) Any (in_queue p)
            (in_queue_tells p) (process_at w p 2) f.0 f.1 f.2;
      })
      (λ h p r. let f = h p r in let g =
      queue_chain (B_of w) (λ b. buffer_at w b 0) (λ b. buffer_at w b 1) (process_at w p 3) (In-queue p) Any (in_queue p)
      (in_queue_tells p) (process_at w p 2) f.q f.is (any_order 0 f.q) in
      (f.q, g.0, g.1)))

  pub events_tell : ((b : ℕ) → Range (B_of w) b → Range (P_of w) (buffer_at w b 2)) → queued_of w (base_of w) (B_of w) < failed
      → Tells (eqb (sweep (event_queue w (base_of w)) (P_of w) (queued_of w (base_of w) (B_of w))) 0)
      (((b : ℕ) → Range (B_of w) b → Received b) × ((p : ℕ) → Range (P_of w) p → EventQueue w p))
  events_tell own s =
      record {
        holds = λ t. (let R = received (eqb-true _ 0 t) in (R, (swept (homed R) s).holds t));
        back = λ h. (swept (homed h.0) s).back h.1;
      }
    where
      homed : ((b : ℕ) → Range (B_of w) b → Received b) → (b : ℕ) → Range (B_of w) b → Homed b
      homed R b r = record { owner = own b r; receiver = R b r }

  -- ---- the running queue
  abbrev Runs : ℕ → Type 0
  Runs p = process_at w p 4 ≡ 1

  abbrev Below : ℕ → ℕ → Type 0
  Below b at = process_at w at 9 ≤ limit w b

  running_tells : (b at : ℕ) → (at ≡ 0 → ⊥) → Tells (running_step w b at) ((at ≤ P_of w) × ((process_at w at 1 ≡ b) × (Runs at × Below b at)))
  unfolding running_step
  running_tells b at n = both (le _ _) (both (eq _ _) (both (eq _ _) (le _ _)))

  pub running_range : (b at : ℕ) → running_step w b at ≡ true → at ≤ P_of w
  unfolding running_step
  running_range b at t = leb-true at (P_of w) ((and-eq-true_iff (leb at (P_of w)) _).0 t).0

  pub limit_of : (p : ℕ) → (p ≡ 0 → ⊥) → process_at w p 9 ≡ limit w p
  unfolding limit
  limit_of p n = rw (ne_eqb p 0 n) refl

  pub limit_none : 255 ≡ limit w 0
  unfolding limit
  limit_none = refl

  -- the order of neighbours is that of all
  falls_holds : (q : List ℕ) (b : ℕ) → ((x : ℕ) → In x q → 1 ≤ x) → Ordered Below b q → Falls (λ p. process_at w p 9) q
  unfolding Ordered
  falls_holds [] b p o = tt
  falls_holds (x ∷ q) b p o = let k = falls_holds q x (λ z m. p z (inr m)) o.1 in (first q (p x (inl refl)) o.1 k, k)
    where
      first : (r : List ℕ) → 1 ≤ x → Ordered Below x r → Falls (λ p. process_at w p 9) r → (y : ℕ) → In y r → process_at w y 9 ≤ process_at w x 9
      first [] pos o k y i = absurd i
      first (z ∷ r) pos o k y i =
          let e = limit_of x (λ v. omega arith) in
          let h = o.0 in
          ⊎_elim (λ v. rw v (omega arith)) (λ j. omega (arith, k.0 y j)) i

  falls_behind : (x : ℕ) (q : List ℕ) → 1 ≤ x → ((y : ℕ) → In y q → 1 ≤ y) → Falls (λ p. process_at w p 9) (x ∷ q) → Ordered Below x q
  unfolding Ordered
  falls_behind x [] l p o = tt
  falls_behind x (y ∷ q) l p o = (
    (let e = limit_of x (λ v. omega arith) in omega (arith, o.0 y (inl refl))),
    falls_behind y q (p y (inl refl)) (λ z i. p z (inr i)) o.1,
  )

  falls_true : (q : List ℕ) → ((x : ℕ) → In x q → (1 ≤ x) × (process_at w x 9 ≤ 255)) → Falls (λ p. process_at w p 9) q → Ordered Below 0 q
  unfolding Ordered
  falls_true [] p o = tt
  falls_true (x ∷ q) p o = (
    (let h = p x (inl refl) in omega (arith, limit_none)),
    falls_behind x q (p x (inl refl)).0 (λ y i. (p y (inr i)).0) o,
  )

  pub runs_tell : ((p : ℕ) → Range (P_of w) p → process_at w p 9 ≤ 255) → Tells (runs w) (RunningQueue w)
  unfolding runs
  runs_tell low =
      record {
        holds = λ t. (
            let f = follow_found (P_of w) (λ p. process_at w p 0) (λ p. process_at w p 1) (get_or w 3 0) Runs Below (running_step w) running_tells
            (running w (P_of w)) (get_or w 2 0) 0 0 (eqb-true _ 0 t) (λ z. omega arith) in
            record {
              q = f.0;
              is = chain_queue (P_of w) (λ p. process_at w p 0) (λ p. process_at w p 1) (get_or w 3 0) Runs Below (λ p. eqb (process_at w p 4) 1)
                  (λ p. eq _ _) (get_or w 2 0) f.0 f.2 (omega (arith, f.1));
              falls = falls_holds f.0 0 (λ x i. (f.2.only x i).0.0) f.2.ordered;
            });
        back = λ s. (
            let g = queue_chain (P_of w) (λ p. process_at w p 0) (λ p. process_at w p 1) (get_or w 3 0) Runs Below (λ p. eqb (process_at w p 4) 1)
            (λ p. eq _ _) (get_or w 2 0) s.q s.is
            (falls_true s.q (λ x i. (let r = (s.is.exact.only x i).0 in (r.0, low x r))) s.falls) in
            let e = chain_follows (P_of w) (λ p. process_at w p 0) (λ p. process_at w p 1) (get_or w 3 0) Runs Below (running_step w) running_tells
            s.q (running w (P_of w)) (get_or w 2 0) 0 g.0 (omega (arith, g.1)) in
            eq-eqb (follow_running w (running w (P_of w)) (get_or w 2 0) 0) 0 (omega (arith, g.1, e)));
      }

-- Following the semaphores' queues, and reading their counters, tells whether each is as Sound asks. Assumes nothing.
use mathlib.Core.Path.{◌≡◌, refl, sym}
use mathlib.Core.Bool.{Bool, true, false, ◌&&◌, and-eq-true_iff}
use mathlib.Core.List.{List}
use Prim.Native.Nat.{ℕ, ◌+◌, ◌-◌, ◌≤◌, ◌<◌}
use native.Mathlib.Omega.{arith}
use lib.ListN.{length}
use lib.Dec.{eqb, leb}
use borrow.Author.Tests.{eqb-true, eqb-false, eq-eqb, leb-true}
use Rattle.machine.specs.Queue.{if, Range, IsQueue}
use Rattle.machine.specs.Machine.{given}
use Rattle.machine.specs.Legal.{LegalCounter}
use Rattle.machine.specs.Sound.{P_of, S_of, process_at, semaphore_at, SemaphoreQueue}
use Rattle.lists.proofs.Links.{exact_same}
use Rattle.lists.proofs.Tells.{Tells, eq, le, both, nay, unless, said}
use Rattle.lists.specs.Counts.{bit, count}
use Rattle.lists.proofs.Counting.{count_most}
use Rattle.sound.specs.Queues.{failed, sweep}
use Rattle.sound.specs.Semaphores.{waiter_step, follow_waiters, counts_waiting, counted_left, semaphore_queue, lowering, queue_of_semaphore}
use Rattle.sound.specs.Semaphores.{semaphore_queues}
use Rattle.sound.proofs.Choices.{chosen, untold}
use Rattle.sound.proofs.Following.{Chain, follow_found, chain_follows, chain_most, chain_queue, queue_chain}
use Rattle.sound.proofs.Sums.{sweep_tells, given_counts, given_one, given_nobody}
use Rattle.sound.proofs.QueuesTold.{Any, any_order}

-- ---- a counter
counts_tell : (c n : ℕ) → n < 32768 → Tells (counts_waiting c n) (LegalCounter c n)
unfolding counts_waiting
counts_tell c n l =
    said (both (le c 65535) (chosen (le 32768 c) (both (nay (eq c 32768)) (eq (c + n) 65536)) (eq n 0)))
    (λ h. record { word = omega (arith, h.0); below = λ k. (h.1.0 k).1; above = λ k. h.1.1 (λ z. omega arith) })
    (λ k. (omega (arith, k.word), ((λ b. ((λ e. omega (arith, k.below b)), k.below b)), λ m. k.above (omega arith))))

pub left_counts : (c left after : ℕ) → counts_waiting c (left - after) ≡ true → counted_left c left after ≡ after
unfolding counted_left
left_counts c left after t = go (eqb after failed) refl
  where
    go : (x : Bool) → eqb after failed ≡ x → if x failed (if (counts_waiting c (left - after)) after failed) ≡ after
    go true e = sym (eqb-true after failed e)
    go false e = rw t refl

-- a queue of the same records, said otherwise
said_queue : {next previous : ℕ → ℕ} {C D : ℕ → Type 0} {first last : ℕ} {q : List ℕ} → ((x : ℕ) → C x → D x) → ((x : ℕ) → D x → C x)
    → IsQueue next previous C first last q → IsQueue next previous D first last q
said_queue f g i = record { linked = i.linked; exact = exact_same f g i.exact }

module _ (w : List ℕ) where
  pub waiter_range : (s b at : ℕ) → waiter_step w s b at ≡ true → at ≤ P_of w
  unfolding waiter_step
  waiter_range s b at t = leb-true at (P_of w) ((and-eq-true_iff (leb at (P_of w)) _).0 t).0

  -- ---- one queue
  abbrev At-semaphore : ℕ → ℕ → Type 0
  At-semaphore s p = (process_at w p 4 ≡ 5) × (process_at w p 15 ≡ s)

  abbrev at_semaphore : ℕ → ℕ → Bool
  at_semaphore s p = eqb (process_at w p 4) 5 && eqb (process_at w p 15) s

  at_semaphore_tells : (s p : ℕ) → Tells (at_semaphore s p) (At-semaphore s p)
  at_semaphore_tells s p = both (eq _ _) (eq _ _)

  waiter_tells : (s b at : ℕ) → (at ≡ 0 → ⊥) → Tells (waiter_step w s b at) ((at ≤ P_of w) × ((process_at w at 1 ≡ b) × (At-semaphore s at × Any w b at)))
  unfolding waiter_step
  waiter_tells s b at n =
      said (both (le _ _) (both (eq _ _) (at_semaphore_tells s at))) (λ h. (h.0, (h.1.0, (h.1.1, tt)))) (λ h. (h.0, (h.1.0, h.1.1.0)))

  -- no link is found that was not left
  pub waiters_within : (s last left at b r : ℕ) → r ≡ follow_waiters w s last left at b → (r ≡ failed → ⊥) → r ≤ left
  waiters_within s last left at b r e n =
      let h = follow_found (P_of w) (λ p. process_at w p 0) (λ p. process_at w p 1) last (At-semaphore s) (Any w) (waiter_step w s) (waiter_tells s)
      left at b r (sym e) n in
      omega (arith, h.1)

  abbrev Waiters : ℕ → List ℕ → Type 0
  Waiters s q = Chain (P_of w) (λ p. process_at w p 0) (λ p. process_at w p 1) (semaphore_at w s 2) (At-semaphore s) (Any w) (semaphore_at w s 1) 0 q

  record SemaphoreHas (s : ℕ) (q : List ℕ) : Type 0 where
    zero_word : semaphore_at w s 3 ≡ 0
    counter : LegalCounter (semaphore_at w s 0) (length q)
    waiters : Waiters s q

  abbrev belonging : ℕ → ℕ
  belonging s = count (at_semaphore s) (P_of w)

  most : (s : ℕ) (q : List ℕ) → SemaphoreHas s q → length q ≤ belonging s
  most s q h =
      chain_most (P_of w) (λ p. process_at w p 0) (λ p. process_at w p 1) (semaphore_at w s 2) (At-semaphore s) (Any w) (at_semaphore s) (at_semaphore_tells s)
      (semaphore_at w s 1) q h.waiters

  module _ (few : P_of w ≤ 32) where
    few_wait : (s : ℕ) (q : List ℕ) → Waiters s q → length q ≤ 32
    few_wait s q h =
        let m : belonging s ≤ P_of w = count_most (at_semaphore s) (P_of w) in
        let k = chain_most (P_of w) (λ p. process_at w p 0) (λ p. process_at w p 1) (semaphore_at w s 2) (At-semaphore s) (Any w)
        (at_semaphore s) (at_semaphore_tells s)
        (semaphore_at w s 1) q h in
        omega arith

    followed_to : (s k r : ℕ) → queue_of_semaphore w s k ≡ r → (r ≡ failed → ⊥) → (q : List ℕ) × (length q + r ≡ k) × SemaphoreHas s q
    unfolding semaphore_queue counted_left
    followed_to s k r t n = by (eqb (semaphore_at w s 3) 0) (eqb after failed) (counts_waiting (semaphore_at w s 0) (k - after)) refl refl refl t
      where
        after : ℕ
        after = follow_waiters w s (semaphore_at w s 2) k (semaphore_at w s 1) 0

        by : (x y z : Bool) → eqb (semaphore_at w s 3) 0 ≡ x → eqb after failed ≡ y → counts_waiting (semaphore_at w s 0) (k - after) ≡ z
            → if x (if y failed (if z after failed)) failed ≡ r → (q : List ℕ) × (length q + r ≡ k) × SemaphoreHas s q
        by true false true e f g h =
            let c = follow_found (P_of w) (λ p. process_at w p 0) (λ p. process_at w p 1) (semaphore_at w s 2) (At-semaphore s)
            (Any w) (waiter_step w s) (waiter_tells s)
            k (semaphore_at w s 1) 0 r h n in
            let m = few_wait s c.0 c.2 in
            let d : k - after ≡ length c.0 = omega (arith, c.1) in (
              c.0,
              c.1,
              record {
                zero_word = eqb-true _ 0 e;
                counter = (counts_tell (semaphore_at w s 0) (length c.0) (omega arith)).holds (rw d at g);
                waiters = c.2;
              },
            )
        by true false false e f g h = absurd (n (sym h))
        by true true z e f g h = absurd (n (sym h))
        by false y z e f g h = absurd (n (sym h))

    followed : (s : ℕ) (q : List ℕ) (k : ℕ) → Waiters s q → length q ≤ k → follow_waiters w s (semaphore_at w s 2) k (semaphore_at w s 1) 0 ≡ k - length q
    followed s q k h l =
        chain_follows (P_of w) (λ p. process_at w p 0) (λ p. process_at w p 1) (semaphore_at w s 2) (At-semaphore s) (Any w) (waiter_step w s) (waiter_tells s)
        q k (semaphore_at w s 1) 0 h l

    goes : (s : ℕ) (q : List ℕ) (k : ℕ) → SemaphoreHas s q → length q ≤ k → queue_of_semaphore w s k ≡ k - length q
    unfolding semaphore_queue
    goes s q k h l =
        let d : k - (k - length q) ≡ length q = omega arith in
        let m = few_wait s q h.waiters in
        let t : counts_waiting (semaphore_at w s 0) (k - (k - length q)) ≡ true =
        rw d ((counts_tell (semaphore_at w s 0) (length q) (omega arith)).back h.counter) in
        rw (eq-eqb (semaphore_at w s 3) 0 h.zero_word, followed s q k h.waiters l) (left_counts (semaphore_at w s 0) k (k - length q) t)

    -- ---- all of them
    -- who waits stands in the queue of the one semaphore that it names
    home : (p : ℕ) → (process_at w p 4 ≡ 5 → Range (S_of w) (process_at w p 15)) → given (λ s. bit (at_semaphore s p)) (S_of w) ≡ bit (eqb (process_at w p 4) 5)
    home p named = by (eqb (process_at w p 4) 5) refl
      where
        by : (x : Bool) → eqb (process_at w p 4) 5 ≡ x → given (λ s. bit (at_semaphore s p)) (S_of w) ≡ bit x
        by true e =
            let five = eqb-true (process_at w p 4) 5 e in
            given_one (λ s. at_semaphore s p) (process_at w p 15) (S_of w) (named five) (λ s n. untold _ (at_semaphore_tells s p) (λ h. n (sym h.1)))
            ((at_semaphore_tells (process_at w p 15) p).back (five, refl))
        by false e = given_nobody (λ s. at_semaphore s p) (S_of w) (λ s. untold _ (at_semaphore_tells s p) (λ h. eqb-false _ 5 e h.0))

    pub semaphore_queues_tell : ((p : ℕ) → Range (P_of w) p → process_at w p 4 ≡ 5 → Range (S_of w) (process_at w p 15))
        → Tells (semaphore_queues w) ((s : ℕ) → Range (S_of w) s → (semaphore_at w s 3 ≡ 0) × SemaphoreQueue w s)
    unfolding semaphore_queues
    semaphore_queues_tell named =
        said (unless (eq (S_of w) 0) swept)
        (λ h s r. let f = h (λ z. omega arith) s r in (
          f.1.zero_word,
          record {
            q = f.0;
            is = said_queue (λ x k. (k.0, k.1.0, k.1.1)) (λ x k. (k.0, (k.1, k.2)))
                (chain_queue (P_of w) (λ p. process_at w p 0) (λ p. process_at w p 1) (semaphore_at w s 2) (At-semaphore s) (Any w)
                (at_semaphore s) (at_semaphore_tells s)
                (semaphore_at w s 1) f.0 f.1.waiters f.2);
            counter = f.1.counter;
          },
        ))
        (λ h n s r. let f = h s r in
        let g = queue_chain (P_of w) (λ p. process_at w p 0) (λ p. process_at w p 1) (semaphore_at w s 2) (At-semaphore s) (Any w)
        (at_semaphore s) (at_semaphore_tells s)
        (semaphore_at w s 1) f.1.q (said_queue (λ x k. (k.0, (k.1, k.2))) (λ x k. (k.0, k.1.0, k.1.1)) f.1.is) (any_order w 0 f.1.q) in
        (f.1.q, record { zero_word = f.0; counter = f.1.counter; waiters = g.0 }, g.1))
      where
        each : given belonging (S_of w) ≡ lowering w (P_of w)
        each = given_counts at_semaphore (λ p. eqb (process_at w p 4) 5) (S_of w) (P_of w) (λ p r. home p (named p r))

        swept : Tells (eqb (sweep (queue_of_semaphore w) (S_of w) (lowering w (P_of w))) 0)
            ((s : ℕ) → Range (S_of w) s → (q : List ℕ) × SemaphoreHas s q × (length q ≡ belonging s))
        swept =
            let m : lowering w (P_of w) ≤ P_of w = count_most (λ p. eqb (process_at w p 4) 5) (P_of w) in
            rw (← each) (sweep_tells (queue_of_semaphore w) SemaphoreHas belonging followed_to goes most (S_of w) (omega (arith, each)))

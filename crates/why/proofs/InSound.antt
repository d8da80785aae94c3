-- The queues of the three kinds are those of `Sound`. Assumes nothing.
use mathlib.Core.Path.{◌≡◌, refl, ap, ◌∙◌}
use mathlib.Core.Logic.{inl, inr, ⊎_elim}
use mathlib.Core.List.{List, [], ◌∷◌}
use Prim.Native.Nat.{ℕ, ◌≤◌}
use native.Mathlib.Omega.{arith}
use lib.ListN.{length, get_or}
use lib.Dec.{eqb}
use borrow.Author.Tests.{eqb-true, eq-eqb, ne_eqb}
use Rattle.machine.specs.Queue.{Range, In, Exact, Falls, Linked, IsQueue, from, keep}
use Rattle.machine.specs.Legal.{Queued as QueuedAt, LegalCounter}
use Rattle.machine.specs.Sound.{P_of, S_of, process_at, buffer_at, semaphore_at, RunningQueue, EventQueue, SemaphoreQueue}
use Rattle.lists.proofs.Links.{cases, exact_same}
use Rattle.lists.proofs.Lists.{no_longer}
use Rattle.lists.proofs.Numbers.{in_from, from_in, in_keep, keep_in, from_once, keep_once}
use Rattle.why.specs.QueueParts.{running, events, waiting_queues}
use Rattle.why.specs.Asked.{waiting}
use Rattle.why.proofs.Followed.{Queued, Of}

-- ---- priorities that never rise from a record to the one behind it, and along the queue
module _ (next previous rank : ℕ → ℕ) where
  falls_along : (at b : ℕ) (l : List ℕ) (z : ℕ) → Linked next previous at b l z → ((x : ℕ) → In x l → In (next x) l → rank (next x) ≤ rank x) → Falls rank l
  unfolding Linked
  falls_along at b [] z k f = tt
  falls_along at b (x ∷ []) z k f = ((λ y i. absurd i), tt)
  falls_along at b (x ∷ (v ∷ l)) z k f =
      let r = falls_along (next x) x (v ∷ l) z k.2 (λ y i j. f y (inr i) (inr j)) in
      let g : rank v ≤ rank x = rw k.2.0 at (f x (inl refl) (inr (inl k.2.0))) in
      ((λ y i. ⊎_elim (λ e. rw e g) (λ j. omega (arith, r.0 y j)) i), r)

  falls_next : (at b : ℕ) (l : List ℕ) (z x : ℕ) → Linked next previous at b l z → Falls rank l → In x l → (next x ≡ 0 → ⊥) → rank (next x) ≤ rank x
  unfolding Linked
  falls_next at b [] z x k f i n = absurd i
  falls_next at b (y ∷ []) z x k f i n = ⊎_elim (λ e. absurd (n (ap next e ∙ k.2.0))) (λ j. absurd j) i
  falls_next at b (y ∷ (v ∷ l)) z x k f i n =
      ⊎_elim (λ e. rw e (rw k.2.0 (f.0 v (inl refl)))) (λ j. falls_next (next y) y (v ∷ l) z x k.2 f.1 j n) i

-- the same queue, of records said in other words
again : {next previous : ℕ → ℕ} {C D : ℕ → Type 0} {f l : ℕ} {q : List ℕ} → ((x : ℕ) → C x → D x) → ((x : ℕ) → D x → C x)
    → IsQueue next previous C f l q → IsQueue next previous D f l q
again f g i = record { linked = i.linked; exact = exact_same f g i.exact }

module _ (w : List ℕ) where
  -- ---- where a record belongs
  runs_home : (p : ℕ) → ((running w).home p ≡ 1 → process_at w p 4 ≡ 1) × (process_at w p 4 ≡ 1 → (running w).home p ≡ 1)
  runs_home p = (
    (λ h. cases (process_at w p 4) 1 (λ e. e) (λ n. absurd (no (rw (ne_eqb (process_at w p 4) 1 n) at h)))),
    (λ e. rw (eq-eqb (process_at w p 4) 1 e) refl),
  )
    where
      no : ◌≡◌ {A = ℕ} 0 1 → ⊥
      no e = omega arith

  semaphore_home : (s p : ℕ) → 1 ≤ s → ((waiting_queues w).home p ≡ s → (process_at w p 4 ≡ 5) × (process_at w p 15 ≡ s))
      × ((process_at w p 4 ≡ 5) × (process_at w p 15 ≡ s) → (waiting_queues w).home p ≡ s)
  semaphore_home s p l = (
    (λ h. cases (process_at w p 4) 5 (λ e. (e, rw (eq-eqb (process_at w p 4) 5 e) at h)) (λ n. absurd (no (rw (ne_eqb (process_at w p 4) 5 n) at h)))),
    (λ h. rw (eq-eqb (process_at w p 4) 5 h.0) h.1),
  )
    where
      no : 0 ≡ s → ⊥
      no e = omega arith

  event_home : (p b : ℕ) → 1 ≤ p → ((events w).home b ≡ p → QueuedAt (buffer_at w b 2) (buffer_at w b 3) (buffer_at w b 4) p)
      × (QueuedAt (buffer_at w b 2) (buffer_at w b 3) (buffer_at w b 4) p → (events w).home b ≡ p)
  event_home p b l = (
    (λ h. cases (buffer_at w b 4) 1 (λ e. inl (e, rw (eq-eqb (buffer_at w b 4) 1 e) at h))
        (λ n. cases (buffer_at w b 4) 3 (λ e. inr (e, rw (eq-eqb (buffer_at w b 4) 3 e) at (rw (ne_eqb (buffer_at w b 4) 1 n) at h)))
        (λ m. absurd (no (rw (ne_eqb (buffer_at w b 4) 3 m) at (rw (ne_eqb (buffer_at w b 4) 1 n) at h)))))),
    (λ h. ⊎_elim (λ a. rw (eq-eqb (buffer_at w b 4) 1 a.0) a.1)
        (λ a. rw (ne_eqb (buffer_at w b 4) 1 (λ e. omega (arith, a.0)), eq-eqb (buffer_at w b 4) 3 a.0) a.1) h),
  )
    where
      no : 0 ≡ p → ⊥
      no e = omega arith

  -- ---- the running queue
  pub running_of : Queued (running w) 1 → ((p : ℕ) → Range (P_of w) p → process_at w p 4 ≡ 1 → Range (P_of w) (process_at w p 0)
      → process_at w (process_at w p 0) 9 ≤ process_at w p 9) → RunningQueue w
  running_of g f =
      record {
        q = g.list;
        is = again (λ x o. (o.0, (runs_home x).0 o.1)) (λ x o. (o.0, (runs_home x).1 o.1)) g.is;
        falls = falls_along (λ p. process_at w p 0) (λ p. process_at w p 1) (λ p. process_at w p 9) (get_or w 2 0) 0 g.list (get_or w 3 0) g.is.linked
            (λ x i j. (let o = g.is.exact.only x i in f x o.0 ((runs_home x).0 o.1) (g.is.exact.only (process_at w x 0) j).0));
      }

  pub of_running : RunningQueue w → (h : ℕ) → Range 1 h → Queued (running w) h
  of_running g h r =
      let e : h ≡ 1 = omega arith in
      rw e (record { list = g.q; is = again (λ x o. (o.0, (runs_home x).1 o.1)) (λ x o. (o.0, (runs_home x).0 o.1)) g.is })

  pub of_falls : RunningQueue w → (p : ℕ) → Range (P_of w) p → process_at w p 4 ≡ 1 → Range (P_of w) (process_at w p 0)
      → process_at w (process_at w p 0) 9 ≤ process_at w p 9
  of_falls g p r e n =
      falls_next (λ x. process_at w x 0) (λ x. process_at w x 1) (λ x. process_at w x 9) (get_or w 2 0) 0 g.q (get_or w 3 0) p g.is.linked g.falls
      (g.is.exact.every p (r, e)) (λ z. omega arith)

  -- ---- event queues
  pub events_of : (p : ℕ) → Range (P_of w) p → Queued (events w) p → EventQueue w p
  events_of p r g =
      record { q = g.list; is = again (λ x o. (o.0, (event_home p x r.0).0 o.1)) (λ x o. (o.0, (event_home p x r.0).1 o.1)) g.is }

  pub of_events : (p : ℕ) → Range (P_of w) p → EventQueue w p → Queued (events w) p
  of_events p r g =
      record { list = g.q; is = again (λ x o. (o.0, (event_home p x r.0).1 o.1)) (λ x o. (o.0, (event_home p x r.0).0 o.1)) g.is }

  -- ---- semaphores
  -- as many wait as are in the queue
  waiting_is : (s : ℕ) (q : List ℕ) → Exact (Of (waiting_queues w) s) q → length q ≡ waiting w s
  waiting_is s q e =
      let a = no_longer q (keep (λ p. eqb ((waiting_queues w).home p) s) (from 1 (P_of w))) e.once
      (λ x i.
      (let o = e.only x i in keep_in x (λ p. eqb ((waiting_queues w).home p) s) (from 1 (P_of w)) (from_in x 1 (P_of w) o.0.0 (omega (arith, o.0.1)))
      (eq-eqb _ s o.1))) in
      let b = no_longer (keep (λ p. eqb ((waiting_queues w).home p) s) (from 1 (P_of w))) q
      (keep_once (λ p. eqb ((waiting_queues w).home p) s) (from 1 (P_of w)) (from_once 1 (P_of w)))
      (λ x i. (let k = in_keep x (λ p. eqb ((waiting_queues w).home p) s) (from 1 (P_of w)) i in let l = in_from x 1 (P_of w) k.0 in
      e.every x (omega arith, eqb-true _ s k.1))) in
      omega arith

  pub semaphore_queue_of : (s : ℕ) → Range (S_of w) s → Queued (waiting_queues w) s → LegalCounter (semaphore_at w s 0) (waiting w s) → SemaphoreQueue w s
  semaphore_queue_of s r g c =
      record {
        q = g.list;
        is = again (λ x o. (let h = (semaphore_home s x r.0).0 o.1 in (o.0, h.0, h.1))) (λ x o. (o.0, (semaphore_home s x r.0).1 (o.1, o.2)))
            g.is;
        counter = rw (waiting_is s g.list g.is.exact) c;
      }

  pub of_semaphore_queue : (s : ℕ) → Range (S_of w) s → SemaphoreQueue w s → Queued (waiting_queues w) s
  of_semaphore_queue s r g =
      record {
        list = g.q;
        is = again (λ x o. (o.0, (semaphore_home s x r.0).1 (o.1, o.2))) (λ x o. (let h = (semaphore_home s x r.0).0 o.1 in (o.0, h.0, h.1)))
            g.is;
      }

  pub of_counter : (s : ℕ) → Range (S_of w) s → SemaphoreQueue w s → LegalCounter (semaphore_at w s 0) (waiting w s)
  unfolding of_semaphore_queue
  of_counter s r g = let k = of_semaphore_queue s r g in rw (← (waiting_is s k.list k.is.exact)) g.counter

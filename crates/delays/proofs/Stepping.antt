-- What a step does to the delays of a legal machine is what the events that its request stands for do to them. Assumes nothing.
use mathlib.Core.Path.{◌≡◌, refl, sym, ap, subst, ◌∙◌}
use mathlib.Core.Bool.{Bool, true, false, not, ◌&&◌, ◌||◌}
use mathlib.Core.List.{List, [], ◌∷◌, ◌++◌}
use mathlib.Core.Logic.{inl, inr}
use Prim.Native.Nat.{ℕ, zero, suc, ◌+◌, ◌-◌, ◌<◌}
use native.Mathlib.Numerals.{add-one}
use native.Mathlib.Omega.{arith}
use lib.Dec.{eqb, leb}
use borrow.Author.Tests.{eqb-true, le-leb}
use Rattle.machine.specs.Queue.{if, same, head, Out, Range, from, fold}
use Rattle.machine.specs.Machine.{Machine, state, owner, receiver, standing, edition, kept, waiter, below_zero, down, current, delay, processes, buffers}
use Rattle.machine.specs.Moves.{wake, requeue, waiting, clean_buffer}
use Rattle.machine.specs.Request.{Request, Send, WaitAnswer, WaitEvent, SendAnswer, WaitInterrupt, Start, Stop, Clean, Tick, Interrupt, ListOpen}
use Rattle.machine.specs.Request.{Lower, Raise, Unknown}
use Rattle.machine.specs.Refusal.{refusal}
use Rattle.machine.specs.Step.{Outcome, halted, fall, fallen, expiring, woken, grow, ticked, effect, judge, step}
use Rattle.machine.specs.Legal.{Legal}
use Rattle.lists.proofs.Links.{cases, yes_same, no_same}
use Rattle.lists.proofs.Tests.{either, differ}
use Rattle.lists.proofs.Numbers.{fold_keeps, in_keep, fold_none, fold_more}
use Rattle.delays.specs.Words.{unless}
use Rattle.delays.specs.Delays.{Event, at_member, fed, fed_all}
use Rattle.delays.specs.Calls.{wakes_if, wakes_owner, clean_wakes, meant, events_of}
use Rattle.delays.specs.Delays as clock

-- ---- the plain clock: only the delays of the processes count
module _ (P : ℕ) where
  member_at : (d : ℕ → ℕ) (a v p : ℕ) → Range P p → same p a v (d p) ≡ at_member P d a v p
  member_at d a v p r =
      cases p a
      (λ e. (let u : (leb 1 a && leb a P) ≡ true = rw (le-leb 1 a (omega (arith, e, r.0)), le-leb a P (omega (arith, e, r.1))) in
      yes_same p a v (d p) e ∙ sym (either (λ (f : ℕ → ℕ). f p ≡ v) (leb 1 a && leb a P) (λ t. yes_same p a v (d p) e) (λ t. absurd (differ (sym u ∙ t))))))
      (λ n. no_same p a v (d p) n ∙ sym (either (λ (f : ℕ → ℕ). f p ≡ d p) (leb 1 a && leb a P) (λ t. no_same p a v (d p) n) (λ t. refl)))

  at_same : (d d' : ℕ → ℕ) → ((p : ℕ) → Range P p → d p ≡ d' p) → (a v p : ℕ) → Range P p → at_member P d a v p ≡ at_member P d' a v p
  at_same d d' h a v p r = sym (member_at d a v p r) ∙ ap (same p a v) (h p r) ∙ member_at d' a v p r

  fed_same : (d d' : ℕ → ℕ) → ((p : ℕ) → Range P p → d p ≡ d' p) → (e : Event) (p : ℕ) → Range P p → fed P d e p ≡ fed P d' e p
  unfolding fed
  fed_same d d' h (clock.Wait a v) = at_same d d' h a v
  fed_same d d' h (clock.Wake a) = at_same d d' h a 0
  fed_same d d' h (clock.Stop a) = at_same d d' h a 0
  fed_same d d' h (clock.Clean a) = at_same d d' h a 0
  fed_same d d' h clock.Tick = λ p r. ap (λ (x : ℕ). x - 1) (h p r)

  fed_all_same : (d d' : ℕ → ℕ) → ((p : ℕ) → Range P p → d p ≡ d' p) → (l : List Event) (p : ℕ) → Range P p → fed_all P d l p ≡ fed_all P d' l p
  unfolding fed_all
  fed_all_same d d' h [] = h
  fed_all_same d d' h (e ∷ l) = fed_all_same (fed P d e) (fed P d' e) (fed_same d d' h e) l

  fed_append : (d : ℕ → ℕ) (l r : List Event) → fed_all P d (l ++ r) ≡ fed_all P (fed_all P d l) r
  unfolding fed_all
  fed_append d [] r = refl
  fed_append d (e ∷ l) r = fed_append (fed P d e) l r

-- ---- from the machine m to n the delays of P processes went as the events l say
pub record Does (P : ℕ) (m n : Machine) (l : List Event) : Type 0 where
  pub size : n.P ≡ m.P
  pub delays : (p : ℕ) → Range P p → delay n p ≡ fed_all P (delay m) l p

module _ {P : ℕ} {m : Machine} where
  nothing : {n : Machine} → n.P ≡ m.P → ((p : ℕ) → delay n p ≡ delay m p) → Does P m n []
  unfolding fed_all
  nothing e h = record { size = e; delays = λ p r. h p }

  -- one delay is set
  waits : {n : Machine} (a v : ℕ) → n.P ≡ m.P → ((p : ℕ) → delay n p ≡ same p a v (delay m p)) → Does P m n (clock.Wait a v ∷ [])
  unfolding fed_all fed
  waits a v e h = record { size = e; delays = λ p r. h p ∙ member_at P (delay m) a v p r }

  wakes : {n : Machine} (a : ℕ) → n.P ≡ m.P → ((p : ℕ) → delay n p ≡ same p a 0 (delay m p)) → Does P m n (clock.Wake a ∷ [])
  unfolding fed_all fed
  wakes a e h = record { size = e; delays = λ p r. h p ∙ member_at P (delay m) a 0 p r }

  -- one after the other
  trans : {n k : Machine} {l r : List Event} → Does P m n l → Does P n k r → Does P m k (l ++ r)
  trans {n} {k} {l} {r} f g =
      record {
        size = g.size ∙ f.size;
        delays = λ p i. g.delays p i ∙ fed_all_same P (delay n) (fed_all P (delay m) l) f.delays r p i
            ∙ sym (ap (λ (d : ℕ → ℕ). d p) (fed_append P (delay m) l r));
      }

  -- by a test, or by two
  by_test : (t : Bool) {x y : Machine} {l r : List Event} → Does P m x l → Does P m y r → Does P m (if t x y) (if t l r)
  by_test true f g = f
  by_test false f g = g

  outcome : (t : Bool) (x y : Outcome) {l r : List Event} → Does P m x.machine l → Does P m y.machine r → Does P m (if t x y).machine (if t l r)
  outcome true x y f g = f
  outcome false x y f g = g

  by_both : (t u : Bool) {x y z : Machine} (a : ℕ) → Does P m x (clock.Wake a ∷ []) → Does P m y [] → Does P m z []
      → Does P m (if t (if u x y) z) (wakes_if (t && u) a)
  by_both true true a f g h = f
  by_both true false a f g h = g
  by_both false u a f g h = h

  -- by the tests of a clean: its own buffer, one sent to it, queued or held, with an owner that waits
  by_clean : (own to queued held asleep : Bool) {x y z u v w k : Machine} (a : ℕ) → Does P m x [] → Does P m y (clock.Wake a ∷ []) → Does P m z []
      → Does P m u (clock.Wake a ∷ []) → Does P m v [] → Does P m w [] → Does P m k []
      → Does P m (if own x (if to (if queued (if asleep y z) (if held (if asleep u v) w)) k)) (wakes_if (not own && (to && ((queued || held) && asleep))) a)
  by_clean true to queued held asleep a x y z u v w k = x
  by_clean false false queued held asleep a x y z u v w k = k
  by_clean false true true held true a x y z u v w k = y
  by_clean false true true held false a x y z u v w k = z
  by_clean false true false true true a x y z u v w k = u
  by_clean false true false true false a x y z u v w k = v
  by_clean false true false false asleep a x y z u v w k = w

-- ---- a clean
clean_one : (P p b : ℕ) (m : Machine) → Does P m (clean_buffer p b m) (wakes_if (wakes_owner p b m) (owner m b))
unfolding clean_buffer
clean_one P p b m =
    let s : ℕ → Bool = eqb (standing m b) in
    by_clean (eqb (owner m b) p) (eqb (receiver m b) p) (s 1) (s 2) (waiting b m) (owner m b)
    (either (λ (n : Machine). Does P m n []) (s 1) (λ _. nothing refl (λ q. refl))
    (λ _. either (λ (n : Machine). Does P m n []) (s 3) (λ _. nothing refl (λ q. refl))
    (λ _. either (λ (n : Machine). Does P m n []) (s 2) (λ _. nothing refl (λ q. refl)) (λ _. nothing refl (λ q. refl)))))
    (wakes (owner m b) refl (λ q. refl))
    (nothing refl (λ q. refl))
    (wakes (owner m b) refl (λ q. refl))
    (nothing refl (λ q. refl))
    (either (λ (n : Machine). Does P m n []) (s 4) (λ _. nothing refl (λ q. refl)) (λ _. nothing refl (λ q. refl)))
    (nothing refl (λ q. refl))

clean_all : (P p : ℕ) (l : List ℕ) (m : Machine) → Does P m (fold (clean_buffer p) l m) (clean_wakes p l m)
unfolding fold clean_wakes
clean_all P p [] m = nothing refl (λ q. refl)
clean_all P p (b ∷ l) m = trans (clean_one P p b m) (clean_all P p l (clean_buffer p b m))

-- a stopped process has no delay
halts : {m : Machine} → Legal m → (a : ℕ) → Does m.P m (halted a m) (clock.Clean a ∷ [])
unfolding fed_all fed
halts {m} L a =
    either (λ (n : Machine). Does m.P m n (clock.Clean a ∷ [])) (eqb (state m a) 0)
    (λ t. record {
      size = refl;
      delays = λ p r. cases p a
          (λ e. (let s : state m p ≡ 0 = ap (state m) e ∙ eqb-true (state m a) 0 t in
          (L.process p r).no_delay (λ k. omega (arith, s, k)) (λ k. omega (arith, s, k)) ∙ sym (yes_same p a 0 (delay m p) e)))
          (λ n. sym (no_same p a 0 (delay m p) n))
          ∙ member_at m.P (delay m) a 0 p r;
    })
    (λ t. record { size = refl; delays = λ p r. member_at m.P (delay m) a 0 p r })

-- ---- a tick
fallen_above : (k : ℕ) (m : Machine) (q : ℕ) → k < q → delay (fold fall (from 1 k) m) q ≡ delay m q
fallen_above zero m q h = ap (λ (n : Machine). delay n q) (fold_none fall m)
fallen_above (suc k) m q h =
    subst (λ (j : ℕ). delay (fold fall (from 1 j) m) q ≡ delay m q) (add-one k)
    (ap (λ (n : Machine). delay n q) (fold_more fall k m) ∙ no_same q (k + 1) _ _ (λ e. omega (arith, e)) ∙ fallen_above k m q (omega arith))

fallen_among : (k : ℕ) (m : Machine) (q : ℕ) → Range k q → delay (fold fall (from 1 k) m) q ≡ delay m q - 1
fallen_among zero m q r = absurd (omega arith)
fallen_among (suc k) m q r =
    subst (λ (j : ℕ). delay (fold fall (from 1 j) m) q ≡ delay m q - 1) (add-one k)
    (ap (λ (n : Machine). delay n q) (fold_more fall k m) ∙ cases q (k + 1)
    (λ e. yes_same q (k + 1) _ _ e ∙ ap (λ (x : ℕ). x - 1) (fallen_above k m (k + 1) (omega arith)) ∙ ap (λ (x : ℕ). delay m x - 1) (sym e))
    (λ n. no_same q (k + 1) _ _ n ∙ fallen_among k m q (omega (arith, n))))

woken_zero : (l : List ℕ) (m : Machine) (q : ℕ) → delay m q ≡ 0 → delay (fold (wake 2) l m) q ≡ 0
unfolding fold
woken_zero [] m q e = e
woken_zero (x ∷ l) m q e = woken_zero l (wake 2 x m) q (cases q x (λ k. yes_same q x _ _ k) (λ k. no_same q x _ _ k ∙ e))

woken_out : (l : List ℕ) (m : Machine) (q : ℕ) → Out q l → delay (fold (wake 2) l m) q ≡ delay m q
unfolding fold
woken_out [] m q o = refl
woken_out (x ∷ l) m q o = woken_out l (wake 2 x m) q (λ i. o (inr i)) ∙ no_same q x _ _ (λ e. o (inl e))

woken_delay : (m : Machine) (q : ℕ) → Range m.P q → delay (woken m) q ≡ delay m q - 1
woken_delay m q r =
    let f = fallen_among m.P m q r in
    cases (delay m q) 1
    (λ e. woken_zero (expiring m) (fallen m) q (f ∙ omega (arith, e)) ∙ omega (arith, e))
    (λ n. woken_out (expiring m) (fallen m) q (λ i. n (eqb-true (delay m q) 1 (in_keep q (λ p. eqb (delay m p) 1) (from 1 m.P) i).1)) ∙ f)

ticks : (m : Machine) → Does m.P m (ticked m) (clock.Tick ∷ [])
unfolding fed_all fed
ticks m =
    let n = requeue (current m) (woken m) in
    fold_keeps (λ w. Does m.P m w (clock.Tick ∷ [])) grow (buffers n) (λ b i w d. record { size = d.size; delays = d.delays }) n
    (either (λ (w : Machine). Does m.P m w (clock.Tick ∷ [])) (eqb (current m) 0)
    (λ _. record { size = woken_size; delays = woken_delay m }) (λ _. record { size = woken_size; delays = woken_delay m }))
  where
    woken_size : (woken m).P ≡ m.P
    woken_size = fold_keeps (λ n. n.P ≡ m.P) (wake 2) (expiring m)
        (λ x i n e. e) (fallen m) (fold_keeps (λ n. n.P ≡ m.P) fall (processes m) (λ x i n e. e) m refl)

-- ---- each request
module _ {m : Machine} (L : Legal m) where
  effect_does : (r : Request) → Does m.P m (effect m r).machine (meant m r)
  unfolding effect meant fed_all fed
  effect_does (Send a ws) = by_test (eqb (state m a) 2) (wakes a refl (λ p. refl)) (nothing refl (λ p. refl))
  effect_does (WaitAnswer a) =
      either (λ (o : Outcome). Does m.P m o.machine []) (eqb (standing m a) 3) (λ _. nothing refl (λ p. refl)) (λ _. nothing refl (λ p. refl))
  effect_does (WaitEvent d) =
      let b : ℕ = head (m.events (current m)) in
      outcome (eqb b 0) _ _ (waits (current m) d refl (λ p. refl))
      (either (λ (o : Outcome). Does m.P m o.machine []) (eqb (standing m b) 1) (λ _. nothing refl (λ p. refl)) (λ _. nothing refl (λ p. refl)))
  effect_does (SendAnswer a ws) = by_both (eqb (standing m a) 2) (waiting a m) (owner m a) (wakes (owner m a) refl (λ p. refl))
      (nothing refl (λ p. refl)) (nothing refl (λ p. refl))
  effect_does (WaitInterrupt a d) = outcome (eqb (m.device a) kept) _ _ (nothing refl (λ p. refl)) (waits (current m) d refl (λ p. refl))
  effect_does (Start a) = wakes a refl (λ p. refl)
  effect_does (Stop a) = record { size = refl; delays = λ p r. member_at m.P (delay m) a 0 p r }
  effect_does (Clean a) = trans (halts L a) (clean_all m.P a (buffers m) (halted a m))
  effect_does Tick = ticks m
  effect_does (Interrupt a) = outcome (eqb (waiter m a) 0) _ _
      (either (λ (n : Machine). Does m.P m n []) (eqb (edition m) 1) (λ _. nothing refl (λ p. refl)) (λ _. nothing refl (λ p. refl)))
      (wakes (waiter m a) refl (λ p. refl))
  effect_does (ListOpen a room) = nothing refl (λ p. refl)
  effect_does (Lower a) =
      either (λ (n : Machine). Does m.P m n []) (below_zero (down (m.counter a))) (λ _. nothing refl (λ p. refl)) (λ _. nothing refl (λ p. refl))
  effect_does (Raise a) = by_test (below_zero (m.counter a)) (wakes (head (m.waiters a)) refl (λ p. refl)) (nothing refl (λ p. refl))
  effect_does Unknown = nothing refl (λ p. refl)

  pub step_does : (r : Request) → Does m.P m (step m r).machine (events_of m r)
  unfolding step events_of
  step_does r = go (refusal m r)
    where
      go : (k : ℕ) → Does m.P m (judge k (effect m r) m).machine (unless k (meant m r) [])
      go zero = effect_does r
      go (suc k) = nothing refl (λ p. refl)

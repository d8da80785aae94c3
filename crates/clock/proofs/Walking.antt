-- The walk of a tick for one process after the other is that of the wakes after all delays have fallen: an entry looks at no delay. Assumes nothing.
use mathlib.Core.Bool.{Bool, true, false, not, ◌&&◌}
use mathlib.Core.List.{List}
use mathlib.Core.Path.{◌≡◌, refl, sym, ap, subst, ◌∙◌}
use Prim.Native.Nat.{ℕ, zero, suc, ◌+◌}
use native.Mathlib.Numerals.{add-one}
use native.Mathlib.Omega.{arith}
use lib.Dec.{eqb}
use Rattle.machine.specs.Queue.{if, same, enter, passed, from, keep, fold}
use Rattle.machine.specs.Machine.{Machine, state, delay, priority, processes}
use Rattle.machine.specs.Moves.{wake}
use Rattle.machine.specs.Step.{fall, fallen}
use Rattle.machine.specs.Walk.{Walk, further, passing, walked, WalkSoFar, begin, walk_on, waking}
use Rattle.lists.proofs.Tests.{tested}
use Rattle.lists.proofs.Numbers.{fold_keeps, fold_last, fold_more, keep_yes, keep_no}
use Rattle.laws.proofs.Sweeps.{walk_through, walk_through_more}
use Rattle.clock.specs.Clock.{tick_one}
use Rattle.clock.proofs.Ticking.{ticked_to, expiring_to, delay_later}

-- ---- machines whose processes have the same states and priorities, and run in the same order
record Alike (a b : Machine) : Type 0 where
  running : a.running ≡ b.running
  priorities : (k : ℕ) → priority a k ≡ priority b k
  states : (k : ℕ) → state a k ≡ state b k

alike_wake : (x : ℕ) {a b : Machine} → Alike a b → Alike (wake 2 x a) (wake 2 x b)
alike_wake x h =
    record {
      running = λ i. enter (λ k. h.priorities k i) (h.priorities x i) x (h.running i);
      priorities = h.priorities;
      states = λ k. ap (same k x 1) (h.states k);
    }

-- delays apart
alike_fall : (x : ℕ) {a b : Machine} → Alike a b → Alike (fall x a) b
alike_fall x h = record { running = h.running; priorities = h.priorities; states = h.states }

alike_fallen : (m : Machine) → Alike m (fallen m)
alike_fallen m =
    fold_keeps (Alike m) fall (processes m) (λ p i n h. record { running = h.running; priorities = h.priorities; states = h.states }) m
    (record { running = refl; priorities = λ k. refl; states = λ k. refl })

-- entries from a to c and from b to d walk alike
alike_walked : (p : ℕ) {a b c d : Machine} (w : Walk) → Alike a b → Alike c d → walked 2 p a c w ≡ walked 2 p b d w
alike_walked p w h k i =
    if (not (eqb (h.states p i) 1) && eqb (k.states p i) 1) (further (passed (λ x. h.priorities x i) (h.priorities p i) (h.running i)) w) w

-- and from one to itself nobody enters
stays : (p : ℕ) (m : Machine) (w : Walk) → walked 2 p m m w ≡ w
stays p m w = go (eqb (state m p) 1)
  where
    go : (t : Bool) → if (not t && t) (further (passing 2 p m) w) w ≡ w
    go true = refl
    go false = refl

-- ---- the first k processes
abbrev wakes : ℕ → Machine → WalkSoFar
wakes k m = fold (walk_on 2 (λ p n. p) (wake 2)) (expiring_to k m) (begin (fallen m))

record Beside (k : ℕ) (m : Machine) : Type 0 where
  machines : Alike (ticked_to k m) (wakes k m).machine
  walk : walk_through 2 (λ p n. p) tick_one k m ≡ (wakes k m).walk

-- one more
module _ (k : ℕ) (m : Machine) (h : Beside k m) where
  abbrev next : ℕ
  next = k + 1

  abbrev here : Machine
  here = ticked_to k m

  onward : {s : WalkSoFar} → wakes next m ≡ s → Alike (tick_one next here) s.machine
      → walked 2 next here (tick_one next here) (wakes k m).walk ≡ s.walk → Beside next m
  onward {s} e a w =
      record {
        machines =
            subst (λ (x : WalkSoFar). Alike (ticked_to next m) x.machine) (sym e)
            (subst (λ (n : Machine). Alike n s.machine) (sym (fold_more tick_one k m)) a);
        walk = walk_through_more 2 (λ p n. p) tick_one k m ∙ ap (walked 2 next here (tick_one next here)) h.walk ∙ w
            ∙ sym (ap (λ (x : WalkSoFar). x.walk) e);
      }

  -- its delay here is that of m
  ticks : {t : Bool} {n : Machine} → eqb (delay m next) 1 ≡ t → Alike (if t (wake 2 next (fall next here)) (fall next here)) n → Alike (tick_one next here) n
  ticks {n = n} e =
      subst (λ (t : Bool). Alike (if t (wake 2 next (fall next here)) (fall next here)) n)
      (sym (ap (λ (d : ℕ). eqb d 1) (delay_later k next m (omega arith)) ∙ e))

  abbrev through : List ℕ → WalkSoFar
  through l = fold (walk_on 2 (λ p n. p) (wake 2)) l (begin (fallen m))

  beside_next : Beside next m
  beside_next =
      let s = wakes k m in
      let last = fold_last (walk_on 2 (λ p n. p) (wake 2)) (expiring_to k m) next (begin (fallen m)) in
      tested (eqb (delay m next) 1)
      (λ t. (let a = ticks t (alike_wake next (alike_fall next h.machines)) in
      onward (ap through (keep_yes (λ p. eqb (delay m p) 1) k t) ∙ last) a (alike_walked next s.walk h.machines a)))
      (λ t. (let a = ticks t (alike_fall next h.machines) in
      onward (ap through (keep_no (λ p. eqb (delay m p) 1) k t)) a (alike_walked next s.walk h.machines a ∙ stays next s.machine s.walk)))

beside : (k : ℕ) (m : Machine) → Beside k m
unfolding fold from keep
beside zero m = record { machines = alike_fallen m; walk = refl }
beside (suc k) m = subst (λ (j : ℕ). Beside j m) (add-one k) (beside_next k m (beside k m))

pub ticks_walk : (m : Machine) → walk_through 2 (λ p n. p) tick_one m.P m ≡ (waking m).walk
ticks_walk m = (beside m.P m).walk

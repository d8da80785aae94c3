-- docs/MONITOR.md, 13, of what `call_walked` promises on any words: "never more than 31"; "for one tick the wakes together pass at most 496"; a clean's at most
-- 465; and tables on which it is so many. Assumes nothing.
use mathlib.Core.Path.{◌≡◌, refl, sym, ap, ◌∙◌}
use mathlib.Core.List.{List, []}
use mathlib.Core.Bool.{◌&&◌}
use Prim.Native.Nat.{ℕ, ◌+◌, ◌≤◌}
use native.Mathlib.Omega.{arith}
use lib.Dec.{eqb, leb}
use lib.ListN.{length}
use borrow.Author.Tests.{ne_eqb}
use Rattle.machine.specs.Queue.{same, without, enter, from, keep, fold}
use Rattle.machine.specs.Machine.{Machine, Words, given, state, waiter, priority, processes}
use Rattle.machine.specs.Request.{request, Start, Interrupt}
use Rattle.machine.specs.Refusal.{first, refusal}
use Rattle.machine.specs.Step.{Answer as Reply, effect, step, after}
use Rattle.machine.specs.Walk.{Walk, nowhere, walk}
use Rattle.machine.specs.Words.{Shows, image}
use Rattle.machine.specs.Legal.{Legal}
use Rattle.machine.specs.Sound.{Sound}
use Rattle.machine.specs.Layout.{laid_over, laid, sum, owner_of, each, apart}
use Rattle.machine.specs.WorkedOrder.{far}
use Rattle.machine.specs.WorstWalks.{alike, to_sleep, asleep, worst_tick, to_ask, asking, worst_clean}
use Rattle.sound.proofs.CheckTold.{decided}
use Rattle.laws.proofs.Bridge.{sound_shows}
use Rattle.laws.proofs.Laid.{plain_setting, legal_laid, tells_layout}
use Rattle.laws.proofs.Step.{legal_after}
use Rattle.laws.proofs.Unique.{image_alone}
use Rattle.laws.proofs.Dispatch.{step_number}
use Rattle.laws.proofs.Walks.{walk_31, tick_496, tick_entries, tick_moves_31, clean_465, start_exactly, interrupt_exactly}
use Rattle.monitor.specs.Promise.{CalledWalked}

-- what holds of every legal machine's walk and of no walk holds of the walk told
told : {t u s v : List ℕ} {k a b : ℕ} {ws : Words} {r : Reply} {w : Walk} (C : Walk → Type 0) → CalledWalked t u s v k a b ws r w
    → C nowhere → ((m : Machine) → Legal m → C (walk m (request k a b ws (length s)))) → C w
told {t} {w = w} C c none some = go (decided t)
  where
    go : Dec (Sound t) → C w
    go (yes S) = let (m, h, L) = sound_shows S in rw (c.sound m h L) (some m L)
    go (no n) = rw (c.unsound n) none

-- ---- worst cases
module _ {t u s v : List ℕ} {a b : ℕ} {ws : Words} {r : Reply} {w : Walk} where
  pub called_31 : {k : ℕ} → CalledWalked t u s v k a b ws r w → w.most ≤ 31
  called_31 {k} c = told (λ x. x.most ≤ 31) c (omega arith) (λ m L. walk_31 L (request k a b ws (length s)))

  pub called_tick_496 : CalledWalked t u s v 9 a b ws r w → w.passed ≤ 496
  unfolding request
  called_tick_496 c = told (λ x. x.passed ≤ 496) c (omega arith) (λ m L. tick_496 L)

  pub called_tick_moved_31 : CalledWalked t u s v 9 a b ws r w → w.moved ≤ 31
  unfolding request
  called_tick_moved_31 c = told (λ x. x.moved ≤ 31) c (omega arith) (λ m L. tick_moves_31 L)

  pub called_clean_465 : CalledWalked t u s v 8 a b ws r w → w.passed ≤ 465
  unfolding request
  called_clean_465 c = told (λ x. x.passed ≤ 465) c (omega arith) (λ m L. clean_465 L a)

  -- a tick's entries are its kind
  pub called_tick_entries : CalledWalked t u s v 9 a b ws r w → w.entries ≡ r.kind
  unfolding request step refusal
  called_tick_entries c = go (decided t)
    where
      go : Dec (Sound t) → w.entries ≡ r.kind
      go (yes S) =
          let (m, h, L) = sound_shows S in
          ap (λ (x : Walk). x.entries) (c.sound m h L) ∙ tick_entries L ∙ sym (ap (λ (x : Reply). x.kind) (c.called.sound m h L).answer)
      go (no n) = ap (λ (x : Walk). x.entries) (c.unsound n) ∙ sym (ap (λ (x : Reply). x.kind) (c.called.unsound n))

  -- where a call is refused nobody enters
  pub refused_nowhere : {k : ℕ} → CalledWalked t u s v k a b ws r w → (r.number ≡ 0 → ⊥) → w ≡ nowhere
  unfolding walk
  refused_nowhere {k} c some = go (decided t)
    where
      go : Dec (Sound t) → w ≡ nowhere
      go (yes S) =
          let (m, h, L) = sound_shows S in
          let q = request k a b ws (length s) in
          let number = ap (λ (x : Reply). x.number) (c.called.sound m h L).answer ∙ step_number m q in
          c.sound m h L ∙ rw (ne_eqb (refusal m q) 0 (λ e. some (number ∙ e)))
      go (no n) = c.unsound n

  -- ---- exactly
  module _ {m : Machine} (h : Shows t m) (L : Legal m) where
    -- a start passes the running processes of equal or higher priority
    pub called_start_exactly : CalledWalked t u s v 6 a b ws r w → r.number ≡ 0
        → w.passed ≡ length (keep (λ k. eqb (state m k) 1 && leb (priority m a) (priority m k)) (processes m))
    unfolding request
    called_start_exactly c z =
        let number = ap (λ (x : Reply). x.number) (c.called.sound m h L).answer ∙ step_number m (Start a) in
        ap (λ (x : Walk). x.passed) (c.sound m h L) ∙ start_exactly L a (sym number ∙ z)

    -- an interrupt's wake only those of higher priority
    pub called_interrupt_exactly : CalledWalked t u s v 10 a b ws r w → r.number ≡ 0 → (waiter m a ≡ 0 → ⊥)
        → w.passed ≡ length (keep (λ k. eqb (state m k) 1 && leb (priority m (waiter m a) + 1) (priority m k)) (processes m))
    unfolding request
    called_interrupt_exactly c z some =
        let number = ap (λ (x : Reply). x.number) (c.called.sound m h L).answer ∙ step_number m (Interrupt a) in
        ap (λ (x : Walk). x.passed) (c.sound m h L) ∙ interrupt_exactly L a (sym number ∙ z) some

-- ---- the worst cases are reached
legal_alike : Legal (laid 0 [] alike)
unfolding alike each apart sum from
legal_alike = legal_laid [] 0 [] plain_setting alike ((tells_layout alike).holds refl)

asleep_alone : asleep.beyond ≡ []
unfolding alike to_sleep laid_over step without enter from keep fold first refusal effect sum same given owner_of after
asleep_alone = refl

asking_alone : asking.beyond ≡ []
unfolding alike to_ask laid_over step without enter from keep fold first refusal effect sum same given owner_of after
asking_alone = refl

module _ {u s v : List ℕ} {b : ℕ} {ws : Words} {r : Reply} {w : Walk} where
  -- 32 of one priority wait for an event with delay 1: the tick wakes all, and they pass 496 together
  pub reached_496 : {a : ℕ} → CalledWalked (image asleep) u s v 9 a b ws r w → w ≡ far 32 496 31 0
  unfolding request
  reached_496 c = c.sound asleep (image_alone asleep_alone) (legal_after legal_alike to_sleep) ∙ worst_tick

  -- 31 of one priority wait for the answer of the last: its clean wakes all, and they pass 465 together
  pub reached_465 : CalledWalked (image asking) u s v 8 32 b ws r w → w ≡ far 31 465 30 0
  unfolding request
  reached_465 c = c.sound asking (image_alone asking_alone) (legal_after legal_alike to_ask) ∙ worst_clean

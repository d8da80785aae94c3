-- A tick keeps a legal machine legal. Assumes nothing.
use Prim.Native.Nat.{ℕ}
use native.Mathlib.Omega.{arith}
use mathlib.Core.List.{List, [], ◌∷◌}
use mathlib.Core.Logic.{inl, inr}
use mathlib.Core.Path.{◌≡◌, refl, sym, ap, ◌∙◌}
use lib.Dec.{eqb}
use borrow.Author.Tests.{eqb-true, eqb-false}
use Rattle.machine.specs.Queue.{Range, In, Distinct, fold}
use Rattle.machine.specs.Machine.{Machine, current, state, delay, priority, processes}
use Rattle.machine.specs.Machine.{buffers, put_running}
use Rattle.machine.specs.Moves.{bar, wake, requeue}
use Rattle.machine.specs.Request.{Tick}
use Rattle.machine.specs.Step.{effect, fall, fallen, expiring, woken, grow, grown, ticked}
use Rattle.machine.specs.Legal.{Legal}
use Rattle.lists.proofs.Links.{no_same}
use Rattle.lists.proofs.Tests.{either}
use Rattle.lists.proofs.Numbers.{first_in, fold_keeps, in_from, from_once, in_keep, keep_once}
use Rattle.laws.proofs.States.{Sleeps, legal_wake}
use Rattle.laws.proofs.States.{legal_requeue, legal_fall}
use Rattle.lists.proofs.Lists.{put_old, put_enter, enter_again}
use Rattle.laws.proofs.Mark.{legal_grow}

pub record DelaysFell (m n : Machine) : Type 0 where
  pub legal : Legal n
  pub size : n.P ≡ m.P
  pub states : (k : ℕ) → state n k ≡ state m k
  pub running : n.running ≡ m.running
  pub ranks : priority n ≡ priority m

pub delays_fell : {m : Machine} → Legal m → DelaysFell m (fallen m)
delays_fell {m} L =
    fold_keeps (DelaysFell m) fall (processes m)
    (λ p i n c.
    record {
      legal = legal_fall c.legal (let h = in_from p 1 m.P i in omega (arith, c.size));
      size = c.size;
      states = c.states;
      running = c.running;
      ranks = c.ranks;
    })
    m (record { legal = L; size = refl; states = λ k. refl; running = refl; ranks = refl })

wakes : (l : List ℕ) {n : Machine} → Legal n → Distinct l → ((x : ℕ) → In x l → Range n.P x × Sleeps n x) → Legal (fold (wake 2) l n)
unfolding fold
wakes [] L d h = L
wakes (x ∷ l) {n} L d h =
    wakes l (legal_wake L 2 (omega arith) (h x (inl refl)).0 (h x (inl refl)).1) d.1
    (λ y j.
    (let k = sym (no_same y x 1 (state n y) (λ k. d.0 (rw k at j))) in let s = (h y (inr j)).1 in ((h y (inr j)).0, (λ e. s.0 (k ∙ e), λ e. s.1 (k ∙ e)))))

-- who was current still runs: a wake takes nobody out
pub still_runs : {m : Machine} → Legal m → (current m ≡ 0 → ⊥) → In (current m) (woken m).running
still_runs {m} L some =
    fold_keeps (λ n. In (current m) n.running) (wake 2) (expiring m)
    (λ p i n h. put_old (put_enter (priority n) (bar 2 p n) p n.running) (current m) h) (fallen m)
    (rw (delays_fell L).running (first_in m.running some))

module _ {m : Machine} (L : Legal m) where
  pub expiring_once : Distinct (expiring m)
  expiring_once = keep_once _ (processes m) (from_once 1 m.P)

  pub expiring_sleep : (x : ℕ) → In x (expiring m) → Range (fallen m).P x × Sleeps (fallen m) x
  expiring_sleep x j =
      let a = delays_fell L in
      let k = in_keep x (λ p. eqb (delay m p) 1) (processes m) j in
      let h = in_from x 1 m.P k.0 in
      let i : Range m.P x = omega arith in
      let d : (s : ℕ) → (s ≡ 2 → ⊥) → (s ≡ 4 → ⊥) → state (fallen m) x ≡ s → ⊥ = λ s n₂ n₄ e.
      (let z = (L.process x i).no_delay (λ k. n₂ (sym e ∙ a.states x ∙ k)) (λ k. n₄ (sym e ∙ a.states x ∙ k)) in
      omega (arith, eqb-true (delay m x) 1 k.1)) in
      (omega (arith, a.size), (d 1 (omega arith) (omega arith), d 5 (omega arith) (omega arith)))

  pub legal_woken : Legal (woken m)
  legal_woken = wakes (expiring m) (delays_fell L).legal expiring_once expiring_sleep

pub legal_requeued : {m : Machine} → Legal m → Legal (requeue (current m) (woken m))
legal_requeued {m} L =
    let W = legal_woken L in
    either Legal (eqb (current m) 0) (λ t. W)
    (λ t. (let c = W.running.only (current m) (still_runs L (eqb-false _ 0 t)) in legal_requeue W c.0 c.1))

pub legal_grown : {m : Machine} → Legal m → Legal (grown m)
legal_grown {m} L =
    (fold_keeps (λ n. Legal n × (n.B ≡ m.B)) grow (buffers m)
    (λ b i n c. (legal_grow c.0 (let k = in_from b 1 m.B i in omega (arith, c.1)), c.1)) m (L, refl)).0

pub tick : {m : Machine} → Legal m → Legal (effect m Tick).machine
unfolding effect
tick L = legal_grown (legal_requeued L)

-- a tick after which nobody else of its priority runs changes nothing beyond the delays, wakes and ages
pub tick_alone : {m : Machine} → Legal m
    → ((k : ℕ) → In k (woken m).running → priority (woken m) k ≡ priority (woken m) (current m) → k ≡ current m) → ticked m ≡ grown (woken m)
tick_alone {m} L alone =
    let W = legal_woken L in
    either (λ (n : Machine). grown n ≡ grown (woken m)) (eqb (current m) 0) (λ t. refl)
    (λ t. ap (λ (q : List ℕ). grown (put_running q (woken m)))
    (enter_again (priority (woken m)) (current m) (woken m).running W.falls W.running.once (still_runs L (eqb-false _ 0 t)) alone))

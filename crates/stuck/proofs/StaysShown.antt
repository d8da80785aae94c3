-- The law of rings on the words: every accepted call but a stop or a clean of a member leaves a ring that the table shows as it is. Assumes nothing.
use mathlib.Core.Path.{◌≡◌, refl, sym, subst, ◌∙◌}
use mathlib.Core.List.{List}
use Prim.Native.Nat.{ℕ, zero, suc}
use lib.Dec.{eqb}
use Rattle.machine.specs.Queue.{Range, head}
use Rattle.machine.specs.Machine.{Machine, state, standing, waiter, kept, edition, below_zero, down, current}
use Rattle.machine.specs.Moves.{wake, requeue, waiting}
use Rattle.machine.specs.Request.{Request, Send, WaitAnswer, WaitEvent, SendAnswer, WaitInterrupt, Start, Stop, Clean, Tick, Interrupt, ListOpen}
use Rattle.machine.specs.Request.{Lower, Raise, Unknown}
use Rattle.machine.specs.Refusal.{refusal}
use Rattle.machine.specs.Step.{Outcome, effect, step, fallen, fall, expiring, woken, grow, ticked}
use Rattle.machine.specs.Legal.{Legal}
use Rattle.machine.specs.Words.{Shows}
use Rattle.lists.proofs.Tests.{either}
use Rattle.lists.proofs.Numbers.{fold_keeps}
use Rattle.laws.proofs.Cleaned.{cleaned_size}
use Rattle.laws.proofs.Step.{legal_step}
use Rattle.stuck.specs.Waiting.{of_table, of_machine, Links, Reached, WaitsThrough, Ends, RingStays}
use Rattle.stuck.proofs.Fits.{legal_fits}
use Rattle.stuck.proofs.Links.{goes_ever, links_among}
use Rattle.stuck.proofs.Broken.{shown_state, shown_holder}
use Rattle.stuck.proofs.Stays.{waits_on, member_stays, ring_stays}

-- ---- there are as many processes after a call
module _ (m : Machine) where
  abbrev AsMany : Machine → Type 0
  AsMany n = n.P ≡ m.P

  abbrev After : Outcome → Type 0
  After o = AsMany o.machine

  tick_as_many : AsMany (ticked m)
  tick_as_many =
      let w : AsMany (woken m) = fold_keeps AsMany (wake 2) (expiring m) (λ x j n k. k) (fallen m) (fold_keeps AsMany fall _ (λ x j n k. k) m refl) in
      fold_keeps AsMany grow _ (λ c j n k. k) (requeue (current m) (woken m)) (either AsMany (eqb (current m) 0) (λ t. w) (λ t. w))

  as_many : (q : Request) → After (effect m q)
  unfolding effect
  as_many (Send a ws) = either AsMany (eqb (state m a) 2) (λ t. refl) (λ t. refl)
  as_many (WaitAnswer a) = either After (eqb (standing m a) 3) (λ t. refl) (λ t. refl)
  as_many (WaitEvent d) =
      let c = head (m.events (current m)) in
      either After (eqb c 0) (λ t. refl) (λ t. either After (eqb (standing m c) 1) (λ u. refl) (λ u. refl))
  as_many (SendAnswer a ws) = either AsMany (eqb (standing m a) 2) (λ t. either AsMany (waiting a m) (λ u. refl) (λ u. refl)) (λ t. refl)
  as_many (WaitInterrupt a d) = either After (eqb (m.device a) kept) (λ t. refl) (λ t. refl)
  as_many (Start a) = refl
  as_many (Stop a) = refl
  as_many (Clean a) = (cleaned_size a m).1
  as_many Tick = tick_as_many
  as_many (Interrupt a) = either After (eqb (waiter m a) 0) (λ t. either AsMany (eqb (edition m) 1) (λ u. refl) (λ u. refl)) (λ t. refl)
  as_many (ListOpen a room) = refl
  as_many (Lower a) = either AsMany (below_zero (down (m.counter a))) (λ t. refl) (λ t. refl)
  as_many (Raise a) = either AsMany (below_zero (m.counter a)) (λ t. refl) (λ t. refl)
  as_many Unknown = refl

-- ---- links in the words are links in the machine that they show
module _ {t : List ℕ} {m : Machine} (s : Shows t m) (L : Legal m) where
  links_meant : (n y x : ℕ) → Range m.P y → Links (of_table t) n y x → Links (of_machine m) n y x
  unfolding Links
  links_meant zero y x r l = l
  links_meant (suc n) y x r l =
      let e = sym (shown_state s L y r) ∙ l.0 in
      (e, links_meant n ((of_machine m).holder y) x ((legal_fits L).among y r e) (subst (λ (z : ℕ). Links (of_table t) n z x) (shown_holder s L y r e) l.1))

  links_shown : (n y x : ℕ) → Range m.P y → Links (of_machine m) n y x → Links (of_table t) n y x
  unfolding Links
  links_shown zero y x r l = l
  links_shown (suc n) y x r l =
      let k = links_shown n ((of_machine m).holder y) x ((legal_fits L).among y r l.0) l.1 in
      (shown_state s L y r ∙ l.0, subst (λ (z : ℕ). Links (of_table t) n z x) (sym (shown_holder s L y r l.0)) k)

-- ---- the ring
module _ {t u : List ℕ} {m : Machine} (s : Shows t m) (L : Legal m) (q : Request) (e : refusal m q ≡ 0) (k : Shows u (effect m q).machine) {y : ℕ}
    (i : Range m.P y) (ring : WaitsThrough (of_table t) y y) (spared : (x : ℕ) → Reached (of_table t) y x → Ends x q → ⊥) where
  abbrev after : Machine
  after = (effect m q).machine

  legal_after : Legal after
  unfolding step
  legal_after = rw e at (legal_step L q)

  abbrev meant : WaitsThrough (of_machine m) y y
  meant = record { more = ring.more; by = links_meant s L (suc ring.more) y y i ring.by }

  spared_meant : (x : ℕ) → Reached (of_machine m) y x → Ends x q → ⊥
  spared_meant x r = spared x (record { links = r.links; by = links_shown s L r.links y x i r.by })

  inside : {x : ℕ} → Range m.P x → Range after.P x
  inside r = rw (as_many m q) r

  waited : (n x : ℕ) → Links (of_machine m) n y x → state m x ≡ 3
  unfolding Links
  waited n x l = waits_on (of_machine m) n y x l (goes_ever (of_machine m) y ring.more meant.by (suc n) 0 y refl)

  pub ring_stays_words : RingStays (of_table t) (of_table u) y ring.more
  ring_stays_words =
      record {
        members = λ x r. (let l = links_meant s L r.links y x i r.by in
            let j = links_among (legal_fits L) r.links y x i l in
            let w = member_stays L q e i meant spared_meant r.links x l in
            let before = shown_holder s L x j (waited r.links x l) in
            (shown_state k legal_after x (inside j) ∙ w.0, shown_holder k legal_after x (inside j) w.0 ∙ w.1 ∙ sym before));
        links = links_shown k legal_after (suc ring.more) y y (inside i) (ring_stays L q e i meant spared_meant);
      }

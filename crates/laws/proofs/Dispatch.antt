-- What a call number asks, and what every step has in common: a refusal changes nothing, and only call 0B lists. Assumes nothing.
use mathlib.Core.List.{List, [], ◌∷◌}
use mathlib.Core.Path.{◌≡◌, refl}
use Prim.Native.Nat.{ℕ, zero, suc, ◌*◌}
use native.Mathlib.Omega.{arith}
use lib.ListN.{length}
use lib.Dec.{eqb}
use borrow.Author.Tests.{ne_eqb, eqb-true}
use Rattle.machine.specs.Queue.{head, Range}
use Rattle.machine.specs.Machine.{Machine, Words, standing, kept, waiter, current}
use Rattle.machine.specs.Request.{Request, request, Send, WaitAnswer, WaitEvent, SendAnswer, WaitInterrupt, Start, Stop, Clean, Tick, Interrupt, ListOpen}
use Rattle.machine.specs.Request.{Lower, Raise, Unknown, last_call}
use Rattle.machine.specs.Refusal.{row_width, refusal}
use Rattle.machine.specs.Step.{Outcome, accept, refuse, rows, effect, judge, step}
use Rattle.lists.proofs.Tests.{either}

-- ---- what a number asks
pub request_unknown : (k a b : ℕ) (ws : Words) (n : ℕ) → (Range last_call k → ⊥) → request k a b ws n ≡ Unknown
unfolding request
request_unknown k a b ws n h =
    simp (
      ne_eqb k 1 (λ e. h (omega arith)),
      ne_eqb k 2 (λ e. h (omega arith)),
      ne_eqb k 3 (λ e. h (omega arith)),
      ne_eqb k 4 (λ e. h (omega arith)),
      ne_eqb k 5 (λ e. h (omega arith)),
      ne_eqb k 6 (λ e. h (omega arith)),
      ne_eqb k 7 (λ e. h (omega arith)),
      ne_eqb k 8 (λ e. h (omega arith)),
      ne_eqb k 9 (λ e. h (omega arith)),
      ne_eqb k 10 (λ e. h (omega arith)),
      ne_eqb k 11 (λ e. h (omega arith)),
      ne_eqb k 12 (λ e. h (omega arith)),
      ne_eqb k 13 (λ e. h (omega arith)),
    )

pub unknown_step : (m : Machine) → step m Unknown ≡ refuse 13 m
unfolding step refusal
unknown_step m = refl

-- ---- what every accepted request has: number 0, and current afterwards
pub record Accepted (o : Outcome) : Type 0 where
  pub number : o.answer.number ≡ 0
  pub afterwards : o.answer.current ≡ current o.machine

accepts : {kind b : ℕ} {ws : Words} {m : Machine} {l : List ℕ} → Accepted (accept kind b ws m l)
accepts = record { number = refl; afterwards = refl }

pub accepted : (m : Machine) (r : Request) → refusal m r ≡ 0 → Accepted (effect m r)
unfolding effect refusal
accepted m (Send a ws) h = accepts
accepted m (WaitAnswer a) h = either Accepted (eqb (standing m a) 3) (λ e. accepts) (λ e. accepts)
accepted m (WaitEvent d) h =
    let b : ℕ = head (m.events (current m)) in
    either Accepted (eqb b 0) (λ e. accepts) (λ e. either Accepted (eqb (standing m b) 1) (λ e. accepts) (λ e. accepts))
accepted m (SendAnswer a ws) h = accepts
accepted m (WaitInterrupt a d) h = either Accepted (eqb (m.device a) kept) (λ e. accepts) (λ e. accepts)
accepted m (Start a) h = accepts
accepted m (Stop a) h = accepts
accepted m (Clean a) h = accepts
accepted m Tick h = accepts
accepted m (Interrupt a) h = either Accepted (eqb (waiter m a) 0) (λ e. accepts) (λ e. accepts)
accepted m (ListOpen a room) h = accepts
accepted m (Lower a) h = accepts
accepted m (Raise a) h = accepts
accepted m Unknown h = absurd (omega (arith, h))

-- ---- which requests list
-- a listing is asked for
abbrev pub AsksListing : Request → Type 0
AsksListing (Send a ws) = ⊥
AsksListing (WaitAnswer a) = ⊥
AsksListing (WaitEvent d) = ⊥
AsksListing (SendAnswer a ws) = ⊥
AsksListing (WaitInterrupt a d) = ⊥
AsksListing (Start a) = ⊥
AsksListing (Stop a) = ⊥
AsksListing (Clean a) = ⊥
AsksListing Tick = ⊥
AsksListing (Interrupt a) = ⊥
AsksListing (ListOpen a room) = Unit {0}
AsksListing (Lower a) = ⊥
AsksListing (Raise a) = ⊥
AsksListing Unknown = ⊥

-- only number 11 asks for a listing
pub request_lists : (k a b : ℕ) (ws : Words) (n : ℕ) → (k ≡ 11 → ⊥) → AsksListing (request k a b ws n) → ⊥
unfolding request
request_lists k a b ws n h =
    let no : Request → Type 0 = λ q. AsksListing q → ⊥ in
    either no (eqb k 1) (λ t x. x)
    (λ t. either no (eqb k 2) (λ t x. x) (λ t. either no (eqb k 3) (λ t x. x) (λ t. either no (eqb k 4) (λ t x. x) (λ t. either no (eqb k 5) (λ t x. x)
    (λ t. either no (eqb k 6) (λ t x. x)
    (λ t. either no (eqb k 7) (λ t x. x) (λ t. either no (eqb k 8) (λ t x. x) (λ t. either no (eqb k 9) (λ t x. x) (λ t. either no (eqb k 10) (λ t x. x)
    (λ t. either no (eqb k 11) (λ t x. h (eqb-true k 11 t)) (λ t. either no (eqb k 12) (λ t x. x) (λ t. either no (eqb k 13) (λ t x. x) (λ t x. x)))))))))))))

lists_nothing : Outcome → Type 0
lists_nothing o = o.listing ≡ []

effect_listing : (m : Machine) (q : Request) → (AsksListing q → ⊥) → lists_nothing (effect m q)
unfolding effect lists_nothing
effect_listing m (Send a ws) n = refl
effect_listing m (WaitAnswer a) n = either lists_nothing (eqb (standing m a) 3) (λ t. refl) (λ t. refl)
effect_listing m (WaitEvent d) n =
    let b : ℕ = head (m.events (current m)) in
    either lists_nothing (eqb b 0) (λ t. refl) (λ t. either lists_nothing (eqb (standing m b) 1) (λ u. refl) (λ u. refl))
effect_listing m (SendAnswer a ws) n = refl
effect_listing m (WaitInterrupt a d) n = either lists_nothing (eqb (m.device a) kept) (λ t. refl) (λ t. refl)
effect_listing m (Start a) n = refl
effect_listing m (Stop a) n = refl
effect_listing m (Clean a) n = refl
effect_listing m Tick n = refl
effect_listing m (Interrupt a) n = either lists_nothing (eqb (waiter m a) 0) (λ t. refl) (λ t. refl)
effect_listing m (ListOpen a room) n = absurd (n tt)
effect_listing m (Lower a) n = refl
effect_listing m (Raise a) n = refl
effect_listing m Unknown n = refl

-- a step that doesn't list lists nothing
pub step_listing : (m : Machine) (q : Request) → (AsksListing q → ⊥) → (step m q).listing ≡ []
unfolding step
step_listing m q n = go (refusal m q) refl
  where
    go : (k : ℕ) → refusal m q ≡ k → (judge k (effect m q) m).listing ≡ []
    go zero e = unfold lists_nothing in effect_listing m q n
    go (suc k) e = refl

-- a step's number is the refusal's, and where there is one nothing changes
pub step_number : (m : Machine) (q : Request) → (step m q).answer.number ≡ refusal m q
unfolding step
step_number m q = go (refusal m q) refl
  where
    go : (k : ℕ) → refusal m q ≡ k → (judge k (effect m q) m).answer.number ≡ k
    go zero e = (accepted m q e).number
    go (suc k) e = refl

pub step_refused : (m : Machine) (q : Request) → ((step m q).answer.number ≡ 0 → ⊥) → step m q ≡ refuse (refusal m q) m
unfolding step
step_refused m q = go (refusal m q) refl
  where
    go : (k : ℕ) → refusal m q ≡ k → ((judge k (effect m q) m).answer.number ≡ 0 → ⊥) → judge k (effect m q) m ≡ refuse k m
    go zero e n = absurd (n (accepted m q e).number)
    go (suc k) e n = refl

-- the words of a listing
pub rows_length : (m : Machine) (l : List ℕ) → length (rows m l) ≡ row_width * length l
unfolding rows
rows_length m [] = refl
rows_length m (b ∷ l) = omega (arith, rows_length m l)

-- What comes of calls 01 and 04, by what the table says, and that a legal machine may do it. Assumes nothing.
use Prim.Native.Nat.{ℕ}
use native.Mathlib.Omega.{arith}
use mathlib.Core.Bool.{Bool, true, false, not, ◌&&◌, ◌||◌}
use mathlib.Core.List.{List, [], ◌∷◌}
use mathlib.Core.Path.{◌≡◌, refl, sym, ap, subst, ◌∙◌}
use lib.Dec.{eqb}
use borrow.Author.Tests.{eqb-true, eq-eqb, ne_eqb, not-false}
use Rattle.machine.specs.Queue.{if}
use Rattle.machine.specs.Machine.{Machine, Words, zeros, current, state, owner, receiver, standing}
use Rattle.machine.specs.Moves.{wake}
use Rattle.machine.specs.Request.{Send, SendAnswer}
use Rattle.machine.specs.Refusal.{outside, among, first, refusal, free_own}
use Rattle.machine.specs.Step.{queued, sent, answered_or_freed, done, effect}
use Rattle.machine.specs.Walk.{Walk, nowhere, effort, walk}
use Rattle.machine.specs.Legal.{Legal}
use Rattle.machine.specs.Words.{Shows}
use Rattle.lists.proofs.Tests.{or_false, second, inside, passes, tested}
use Rattle.laws.proofs.Calls.{own_free}
use Rattle.table.specs.Links.{position}
use Rattle.answers.specs.Promise.{walk_to, arrival}
use Rattle.answers.proofs.Walks.{accepted_walks, walk_to_walked, wake_if_arrives}
use Rattle.table.proofs.LegalFits.{legal_in_no_queue}
use Rattle.messages.specs.Conversations.{MayWakeIf, MaySend, MayAnswerOrFree}
use Rattle.messages.proofs.Joins.{legal_may_answer, legal_may_send}

-- ---- 01, with the sender p as it was read: the rows of refusal in their order
module _ (m : Machine) (a : ℕ) (ws : Words) {p : ℕ} (e : p ≡ current m) where
  pub send_by_none : p ≡ 0 → 2 ≡ refusal m (Send a ws)
  unfolding refusal first
  send_by_none none = rw (← e, eq-eqb p 0 none)

  module _ (some : p ≡ 0 → ⊥) where
    pub send_outside : outside a m.P ≡ true → 4 ≡ refusal m (Send a ws)
    unfolding refusal first
    send_outside o = rw (← e, ne_eqb p 0 some, o)

    module _ (o : outside a m.P ≡ false) where
      pub send_to_oneself : a ≡ p → 8 ≡ refusal m (Send a ws)
      unfolding refusal first
      send_to_oneself s = rw (← e, ne_eqb p 0 some, o, eq-eqb a p s)

      module _ (other : a ≡ p → ⊥) {b : ℕ} (k : b ≡ free_own m p) where
        pub send_without : b ≡ 0 → 5 ≡ refusal m (Send a ws)
        unfolding refusal first
        send_without none = rw (← e, ne_eqb p 0 some, o, ne_eqb a p other, ← k, eq-eqb b 0 none)

        pub send_accepted : (b ≡ 0 → ⊥) → refusal m (Send a ws) ≡ 0
        unfolding refusal first
        send_accepted is = rw (← e, ne_eqb p 0 some, o, ne_eqb a p other, ← k, ne_eqb b 0 is)

  pub send_effect : {b : ℕ} → b ≡ free_own m p → effect m (Send a ws) ≡ done 0 b zeros (sent a b ws m)
  unfolding effect
  send_effect k = rw (← e, ← k)

  pub send_walks : {b r : ℕ} {v : Walk} → b ≡ free_own m p → refusal m (Send a ws) ≡ 0
      → r ≡ arrival 1 a m (sent a b ws m) → v ≡ walk_to r nowhere → v ≡ walk m (Send a ws)
  unfolding effort
  send_walks {b} k z h v =
      accepted_walks m (Send a ws) z (rw (send_effect k) (v ∙ ap (λ (x : ℕ). walk_to x nowhere) h ∙ walk_to_walked 1 a m (sent a b ws m) nowhere))

-- the lowest free own buffer may go to a
pub may_send_lowest : {m : Machine} → Legal m → (p : ℕ) {a b : ℕ} → outside a m.P ≡ false → b ≡ free_own m p → (b ≡ 0 → ⊥) → MaySend a b m
may_send_lowest {m} L p {a} {b} o k is =
    let f = own_free L p (ne_eqb (free_own m p) 0 (λ z. is (k ∙ z))) in
    rw k (legal_may_send L f.0.0 (inside m.P a o) f.1)

-- a whose state was read wakes if that is 2
module _ (m : Machine) (a b : ℕ) {s : ℕ} (e : s ≡ state m a) where
  pub state_wakes : MaySend a b m → MayWakeIf (eqb s 2) a m
  state_wakes may = rw e may.wakes

  pub state_sends : {u : List ℕ} (ws : Words) → Shows u (if (eqb s 2) (wake 1 a (queued a b ws m)) (queued a b ws m)) → Shows u (sent a b ws m)
  state_sends {u} ws w = subst (λ (x : ℕ). Shows u (if (eqb x 2) (wake 1 a (queued a b ws m)) (queued a b ws m))) e w

  pub state_arrives : {r : ℕ} (ws : Words) → r ≡ if (eqb s 2) (position 1 a m) 0 → r ≡ arrival 1 a m (sent a b ws m)
  state_arrives ws h =
      let sleeps : eqb (state m a) 2 ≡ true → state m a ≡ 1 → ⊥ = λ t z. (let k = eqb-true (state m a) 2 t in omega arith) in
      h ∙ rw e (wake_if_arrives (eqb (state m a) 2) a m (queued a b ws m).events (queued a b ws m).buffer sleeps)

-- ---- 04
-- standing neither 2 nor 4, as the code tests it
neither : (x y z : Bool) → (not x || (not y && not z)) ≡ (not x || not (y || (z || false)))
neither x true z = refl
neither x false true = refl
neither x false false = refl

module _ (m : Machine) (a : ℕ) (ws : Words) {p : ℕ} (e : p ≡ current m) where
  pub answer_by_none : p ≡ 0 → 2 ≡ refusal m (SendAnswer a ws)
  unfolding refusal first
  answer_by_none none = rw (← e, eq-eqb p 0 none)

  module _ (some : p ≡ 0 → ⊥) where
    pub answer_outside : outside a m.B ≡ true → 6 ≡ refusal m (SendAnswer a ws)
    unfolding refusal first
    answer_outside o = rw (← e, ne_eqb p 0 some, o)

    module _ (o : outside a m.B ≡ false) {r s : ℕ} (k : r ≡ receiver m a) (l : s ≡ standing m a) where
      barred : {x : Bool} → (not (eqb r p) || (not (eqb s 2) && not (eqb s 4))) ≡ x
          → (not (eqb (receiver m a) p) || not (among (standing m a) (2 ∷ 4 ∷ []))) ≡ x
      barred h = rw (← k, ← l) (sym (neither (eqb r p) (eqb s 2) (eqb s 4)) ∙ h)

      pub answer_barred : (not (eqb r p) || (not (eqb s 2) && not (eqb s 4))) ≡ true → 6 ≡ refusal m (SendAnswer a ws)
      unfolding refusal first
      answer_barred h = rw (← e, ne_eqb p 0 some, o, barred h)

      pub answer_accepted : (not (eqb r p) || (not (eqb s 2) && not (eqb s 4))) ≡ false → 0 ≡ refusal m (SendAnswer a ws)
      unfolding refusal first
      answer_accepted h = rw (← e, ne_eqb p 0 some, o, barred h)

module _ (m : Machine) (a : ℕ) (ws : Words) where
  pub send_answer_walks : {r : ℕ} {v : Walk} → refusal m (SendAnswer a ws) ≡ 0
      → r ≡ arrival 1 (owner m a) m (answered_or_freed a ws m) → v ≡ walk_to r nowhere → v ≡ walk m (SendAnswer a ws)
  unfolding effort effect
  send_answer_walks z h v =
      accepted_walks m (SendAnswer a ws) z (v ∙ ap (λ (x : ℕ). walk_to x nowhere) h ∙ walk_to_walked 1 (owner m a) m (answered_or_freed a ws m) nowhere)

-- whatever the words
pub answer_words : (m : Machine) (a : ℕ) (ws : Words) → refusal m (SendAnswer a zeros) ≡ refusal m (SendAnswer a ws)
unfolding refusal
answer_words m a ws = refl

pub may_answer_or_free : {m : Machine} → Legal m → (a : ℕ) → refusal m (SendAnswer a zeros) ≡ 0 → MayAnswerOrFree a m
unfolding refusal
may_answer_or_free {m} L a e =
    let h = passes _ (omega arith) e in
    let h₁ = or_false {a = outside a m.B} h.1.0 in
    let i = inside m.B a h₁.0 in
    let h₂ = or_false {a = not (eqb (receiver m a) (current m))} h₁.1 in
    let s : (standing m a ≡ 1 → ⊥) × (standing m a ≡ 3 → ⊥) = tested (eqb (standing m a) 2)
    (λ t. (let k = eqb-true (standing m a) 2 t in (omega arith, omega arith)))
    (λ t. (let k = eqb-true (standing m a) 4 (second {a = eqb (standing m a) 2} (not-false _ h₂.1) t) in (omega arith, omega arith))) in
    record { answers = legal_may_answer L i; frees = legal_in_no_queue L a i s.0 s.1 }

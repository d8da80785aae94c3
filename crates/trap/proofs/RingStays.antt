-- The law of rings over what the code promises: every accepted call but a stop or a clean of a member leaves a ring of waiting processes as it is, in the
-- words of the table. Assumes nothing.
use mathlib.Core.Path.{◌≡◌}
use mathlib.Core.List.{List}
use mathlib.Core.Logic.{◌⊎◌, inl, inr}
use Prim.Native.Nat.{ℕ}
use lib.Dec.{eqb}
use lib.ListN.{length}
use borrow.Author.Tests.{eqb-true}
use Rattle.machine.specs.Queue.{Range}
use Rattle.machine.specs.Machine.{Words}
use Rattle.machine.specs.Request.{Request, request}
use Rattle.machine.specs.Step.{Answer}
use Rattle.machine.specs.Sound.{P_of}
use Rattle.lists.proofs.Tests.{either}
use Rattle.laws.proofs.Decoded.{shows_agree}
use Rattle.monitor.specs.Promise.{Called}
use Rattle.monitor.proofs.Accepted.{met}
use Rattle.stuck.specs.Waiting.{of_table, Reached, WaitsThrough, Ends, RingStays}
use Rattle.stuck.proofs.StaysShown.{ring_stays_words}

-- call k for x is a stop or a clean
abbrev IsEnd : ℕ → ℕ → ℕ → Type 0
IsEnd k a x = ((k ≡ 7) ⊎ (k ≡ 8)) × (a ≡ x)

ends_number : (k a b : ℕ) (ws : Words) (room x : ℕ) → Ends x (request k a b ws room) → IsEnd k a x
unfolding request
ends_number k a b ws room x =
    let C : Request → Type 0 = λ q. (Ends x q → IsEnd k a x) in
    either C (eqb k 1) (λ t e. absurd e) (λ _. either C (eqb k 2) (λ t e. absurd e) (λ _. either C (eqb k 3) (λ t e. absurd e)
    (λ _. either C (eqb k 4) (λ t e. absurd e) (λ _. either C (eqb k 5) (λ t e. absurd e) (λ _. either C (eqb k 6) (λ t e. absurd e)
    (λ _. either C (eqb k 7) (λ t e. (inl (eqb-true k 7 t), e)) (λ _. either C (eqb k 8) (λ t e. (inr (eqb-true k 8 t), e))
    (λ _. either C (eqb k 9) (λ t e. absurd e) (λ _. either C (eqb k 10) (λ t e. absurd e) (λ _. either C (eqb k 11) (λ t e. absurd e)
    (λ _. either C (eqb k 12) (λ t e. absurd e) (λ _. either C (eqb k 13) (λ t e. absurd e) (λ _ e. absurd e)))))))))))))

module _ {t u s v : List ℕ} {k a b : ℕ} {ws : Words} {r : Answer} (c : Called t u s v k a b ws r) (accepted : r.number ≡ 0) {y : ℕ}
    (i : Range (P_of t) y) (ring : WaitsThrough (of_table t) y y) (spared : (x : ℕ) → Reached (of_table t) y x → IsEnd k a x → ⊥) where
  pub ring_stays_called : RingStays (of_table t) (of_table u) y ring.more
  ring_stays_called =
      let h = met c accepted in
      let j : Range h.m.P y = rw (← (shows_agree h.shows).P) i in
      ring_stays_words h.shows h.legal (request k a b ws (length s)) h.passed h.words j ring
      (λ x l n. spared x l (ends_number k a b ws (length s) x n))

-- (xii) What one call does to a semaphore as the log has it: a LOWER counts down or adds a waiter, a RAISE counts up or takes one away, as a stop or
-- a clean of a waiter does. Assumes nothing.
use Prim.Native.Nat.{ℕ, ◌+◌}
use native.Mathlib.Omega.{arith}
use mathlib.Core.Bool.{Bool, true, false, ◌&&◌}
use mathlib.Core.List.{List, [], ◌∷◌}
use mathlib.Core.Path.{◌≡◌, refl, ap}
use lib.Dec.{eqb}
use lib.ListN.{length}
use borrow.Author.Tests.{eq-eqb, ne_eqb, eqb-true}
use Rattle.machine.specs.Queue.{if, Distinct}
use Rattle.machine.specs.Machine.{Words}
use Rattle.machine.specs.Request.{Request, request}
use Rattle.machine.specs.Refusal.{among}
use Rattle.machine.specs.Log.{Call}
use Rattle.lists.proofs.Links.{cases}
use Rattle.lists.proofs.Tests.{either, tested}
use Rattle.lists.proofs.Lists.{put_last, put_length, without_out, without_one}
use Rattle.lists.specs.Counts.{bit}
use Rattle.logs.specs.Semaphores.{Waiters, lowered, raised, raised_by, dropped, waiters_move, count_waiters, is_on, takes_away}
use Rattle.logs.proofs.Semaphores.{among_in, among_out}

-- from t to t', with so many LOWERs, RAISEs and waiters stopped or cleaned
abbrev pub Balanced : Waiters → Waiters → ℕ → ℕ → ℕ → Type 0
Balanced t t' lowers raises taken = t'.spare + lowers + length t.waiters ≡ t.spare + raises + taken + length t'.waiters

module _ (t : Waiters) where
  by_lower : (p : ℕ) (on : Bool) → Balanced t (if on (lowered p t) t) (bit on) 0 0
  by_lower p true =
      cases t.spare 0 (λ z. rw (eq-eqb t.spare 0 z) (omega (arith, put_length (put_last p t.waiters), z)))
      (λ n. rw (ne_eqb t.spare 0 n) (omega arith))
  by_lower p false = omega arith

  raise_one : (spare : ℕ) (q : List ℕ) → (raised_by spare q).spare + 0 + length q ≡ spare + 1 + 0 + length (raised_by spare q).waiters
  raise_one spare [] = omega arith
  raise_one spare (p ∷ q) = omega arith

  by_raise : (on : Bool) → Balanced t (if on (raised t) t) 0 (bit on) 0
  by_raise true = raise_one t.spare t.waiters
  by_raise false = omega arith

  by_drop : (p : ℕ) → Distinct t.waiters → Balanced t (dropped p t) 0 0 (bit (among p t.waiters))
  by_drop p d =
      tested (among p t.waiters)
      (λ e. rw e (omega (arith, without_one p t.waiters d (among_in p t.waiters e))))
      (λ e. rw e (omega (arith, ap length (without_out p t.waiters (among_out p t.waiters e)))))

  -- any other number
  other_waiters : (s caller k a b : ℕ) (ws : Words) (room : ℕ) → (k ≡ 7 → ⊥) → (k ≡ 8 → ⊥) → (k ≡ 12 → ⊥) → (k ≡ 13 → ⊥)
      → waiters_move s caller t (request k a b ws room) ≡ t
  unfolding request waiters_move
  other_waiters s caller k a b ws room n₇ n₈ n₁₂ n₁₃ =
      let C : Request → Type 0 = λ q. waiters_move s caller t q ≡ t in
      either C (eqb k 1) (λ e. refl)
      (λ e. either C (eqb k 2) (λ e. refl)
      (λ e. either C (eqb k 3) (λ e. refl)
      (λ e. either C (eqb k 4) (λ e. refl)
      (λ e. either C (eqb k 5) (λ e. refl)
      (λ e. either C (eqb k 6) (λ e. refl)
      (λ e. either C (eqb k 7) (λ e. absurd (n₇ (eqb-true k 7 e)))
      (λ e. either C (eqb k 8) (λ e. absurd (n₈ (eqb-true k 8 e)))
      (λ e. either C (eqb k 9) (λ e. refl)
      (λ e. either C (eqb k 10) (λ e. refl)
      (λ e. either C (eqb k 11) (λ e. refl)
      (λ e. either C (eqb k 12) (λ e. absurd (n₁₂ (eqb-true k 12 e)))
      (λ e. either C (eqb k 13) (λ e. absurd (n₁₃ (eqb-true k 13 e)))
      (λ e. refl)))))))))))))

  -- an accepted call, by its number
  by_number : (s caller k a b : ℕ) (ws : Words) (room : ℕ) → Distinct t.waiters
      → Balanced t (waiters_move s caller t (request k a b ws room)) (bit (eqb k 12 && eqb a s)) (bit (eqb k 13 && eqb a s))
      (bit (among k (7 ∷ 8 ∷ []) && among a t.waiters))
  unfolding request waiters_move
  by_number s caller k a b ws room d =
      cases k 12 (λ e. rw e (by_lower caller (eqb a s)))
      (λ n₁₂. cases k 13 (λ e. rw e (by_raise (eqb a s)))
      (λ n₁₃. cases k 7 (λ e. rw e (by_drop a d))
      (λ n₇. cases k 8 (λ e. rw e (by_drop a d))
      (λ n₈. rw (other_waiters s caller k a b ws room n₇ n₈ n₁₂ n₁₃, ne_eqb k 12 n₁₂, ne_eqb k 13 n₁₃, ne_eqb k 7 n₇, ne_eqb k 8 n₈) (omega arith)))))

-- one call, accepted or refused
pub balanced : (s caller : ℕ) (t : Waiters) (c : Call) → Distinct t.waiters
    → Balanced t (count_waiters s caller t c) (bit (is_on 12 s c)) (bit (is_on 13 s c)) (bit (takes_away t c))
balanced s caller t c d =
    tested (eqb c.answer.number 0)
    (λ e. rw e (by_number t s caller c.number c.a c.b c.words c.room d))
    (λ e. rw e (omega arith))

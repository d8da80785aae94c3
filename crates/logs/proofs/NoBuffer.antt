-- Refusal 5: a send at a log's end finds no buffer exactly when the log leaves all of its caller's open. Assumes nothing.
use Prim.Native.Nat.{ℕ, zero, suc, ◌+◌, ◌≤◌}
use native.Mathlib.Omega.{arith}
use mathlib.Core.Bool.{not, ◌&&◌}
use mathlib.Core.List.{List, [], ◌∷◌}
use mathlib.Core.Logic.Iff
use mathlib.Core.Logic.{◌↔◌, inl}
use mathlib.Core.Path.{◌≡◌, refl, ap}
use lib.Dec.{eqb, eqb-suc-zero}
use lib.ListN.{length}
use borrow.Author.Tests.{ne_eqb, le-ltb}
use Rattle.machine.specs.Queue.{Range, In, head, keep}
use Rattle.machine.specs.Machine.{Machine, current, owner, owns, standing, buffers, Words}
use Rattle.machine.specs.Refusal.{◌when◌, first, refusal, is_free_own, free_own}
use Rattle.machine.specs.Request.{Send}
use Rattle.machine.specs.Step.{step}
use Rattle.machine.specs.Layout.{sum}
use Rattle.machine.specs.Log.{Talk, Log, is_open, open_by, given_to, current_after}
use Rattle.lists.proofs.Numbers.{first_in, in_from, in_keep, keep_same, count_parts}
use Rattle.laws.proofs.Own.{owns_count}
use Rattle.laws.proofs.Dispatch.{step_number}
use Rattle.logs.specs.Follows.{last, Recorded}
use Rattle.logs.proofs.Reading.{legal_last, last_P, last_B, last_owns, last_talk, last_current}

-- ---- the refusal of a send
five : (x : ℕ) → (first ((5 when eqb x 0) ∷ []) ≡ 5) ↔ (x ≡ 0)
unfolding first
five zero = ((λ e. refl), (λ e. refl))
five (suc x) = rw (eqb-suc-zero x) ((λ e. absurd (omega (arith, e))), (λ e. absurd (omega (arith, e))))

-- to another process that is there it is 5 or none
left_to_five : (m : Machine) (a : ℕ) (ws : Words) → (current m ≡ 0 → ⊥) → Range m.P a → (a ≡ current m → ⊥)
    → refusal m (Send a ws) ≡ first ((5 when eqb (free_own m (current m)) 0) ∷ [])
unfolding refusal first
left_to_five m a ws c i o = simp (ne_eqb (current m) 0 c, ne_eqb a 0 (omega arith), le-ltb m.P a i.1, ne_eqb a (current m) o)

-- ---- free and open buffers of p
none_first : (q : List ℕ) → ((x : ℕ) → In x q → 1 ≤ x) → (head q ≡ 0) ↔ (length q ≡ 0)
none_first [] h = ((λ e. refl), (λ e. refl))
none_first (x ∷ q) h = let l = h x (inl refl) in ((λ e. absurd (omega arith)), (λ e. absurd (omega arith)))

free_none : (m : Machine) (p : ℕ) → (free_own m p ≡ 0) ↔ (length (keep (is_free_own m p) (buffers m)) ≡ 0)
free_none m p = none_first (keep (is_free_own m p) (buffers m)) (λ x j. (in_from x 1 m.B (in_keep x (is_free_own m p) (buffers m) j).0).0)

module _ {beyond counters : List ℕ} {edition : ℕ} {g : Log} (h : Recorded beyond edition counters g) where
  -- p's buffers are free, or the log leaves them open
  free_or_open : (p : ℕ) → Range (length g.list) p
      → given_to g p ≡ length (keep (is_free_own (last beyond edition counters g) p) (buffers (last beyond edition counters g))) + length (open_by g p)
  free_or_open p i =
      let m : Machine = last beyond edition counters g in
      let a : length (keep (λ b. eqb (owner m b) p) (buffers m)) ≡ owns m p = owns_count (legal_last h).fixed p (rw (last_P h) i) in
      let b = count_parts (λ b. eqb (owner m b) p) (λ b. eqb (standing m b) 0) (buffers m) in
      let c : keep (λ b. not (eqb (standing m b) 0) && eqb (owner m b) p) (buffers m) ≡ open_by g p =
      rw (last_B h) (keep_same _ _ 1 (sum g.list) (λ k l u. ap (λ (t : Talk). is_open t && eqb t.owner p) (last_talk h k (l, omega arith)))) in
      omega (arith, last_owns h p, ap length c)

  -- the caller is a process of the list
  caller : (current (last beyond edition counters g) ≡ 0 → ⊥) → Range (length g.list) (current (last beyond edition counters g))
  caller n = rw (last_P h) at ((legal_last h).running.only _ (first_in (last beyond edition counters g).running n)).0

  pub no_buffer : (a : ℕ) (ws : Words) → (current_after 0 g.calls ≡ 0 → ⊥) → Range (length g.list) a → (a ≡ current_after 0 g.calls → ⊥)
      → ((step (last beyond edition counters g) (Send a ws)).answer.number ≡ 5)
      ↔ (length (open_by g (current_after 0 g.calls)) ≡ given_to g (current_after 0 g.calls))
  no_buffer a ws =
      rw (← last_current h)
      (λ c i o.
      let n = free_or_open (current (last beyond edition counters g)) (caller c) in
      rw (step_number (last beyond edition counters g) (Send a ws), left_to_five (last beyond edition counters g) a ws c (rw (last_P h) i) o)
      (Iff.trans (five _) (Iff.trans (free_none (last beyond edition counters g) _) ((λ e. omega arith), (λ e. omega arith)))))

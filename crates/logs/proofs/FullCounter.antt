-- (xii) Refusal 20: a RAISE at a real log's end is refused with it exactly when the log leaves 32,767 to spare. Assumes nothing.
use Prim.Native.Nat.{ℕ}
use native.Mathlib.Omega.{arith}
use mathlib.Core.List.{List}
use mathlib.Core.Logic.Iff
use mathlib.Core.Logic.{◌↔◌}
use mathlib.Core.Path.{◌≡◌, refl, sym, ap, ◌∙◌}
use lib.ListN.{length}
use borrow.Author.Tests.{eq-eqb, ne_eqb}
use Rattle.machine.specs.Queue.{Range}
use Rattle.machine.specs.Machine.{Machine, semaphores, current, Words}
use Rattle.machine.specs.Request.{request, Raise}
use Rattle.machine.specs.Refusal.{first, refusal}
use Rattle.machine.specs.Step.{Answer}
use Rattle.machine.specs.Legal.{LegalCounter}
use Rattle.machine.specs.Log.{Log, current_after}
use Rattle.lists.proofs.Links.{cases}
use Rattle.lists.proofs.Tests.{outside_false}
use Rattle.laws.proofs.Dispatch.{step_number}
use Rattle.monitor.specs.Promise.{Called}
use Rattle.logs.specs.Follows.{last}
use Rattle.logs.specs.Real.{Real}
use Rattle.logs.specs.Semaphores.{Waiters, waiters_left}
use Rattle.logs.proofs.Reading.{legal_last, last_semaphores, last_current}
use Rattle.logs.proofs.Written.{beyond_of, real_recorded, real_shows}
use Rattle.logs.proofs.Semaphores.{signed, spare_of, spare_below, spare_above}
use Rattle.logs.proofs.Waiters.{last_waiters}

-- of a semaphore that is there, asked by somebody, it is 20 or none
twenty : (m : Machine) (a : ℕ) → (current m ≡ 0 → ⊥) → Range (semaphores m) a → (refusal m (Raise a) ≡ 20) ↔ (m.counter a ≡ 32767)
unfolding refusal first
twenty m a c i =
    rw (ne_eqb (current m) 0 c, outside_false (semaphores m) a i) (cases (m.counter a) 32767
    (λ e. rw (eq-eqb (m.counter a) 32767 e) ((λ _. e), (λ _. refl)))
    (λ n. rw (ne_eqb (m.counter a) 32767 n) ((λ z. absurd (omega (arith, z))), (λ z. absurd (n z)))))

-- the counter is at its end exactly when so much is to spare
full : {c n : ℕ} → LegalCounter c n → (c ≡ 32767) ↔ (spare_of c ≡ 32767)
full {c} l =
    signed l (λ h e. ((λ z. absurd (omega arith)), (λ z. absurd (omega (arith, spare_below c h)))))
    (λ h e. ((λ z. spare_above c h ∙ z), (λ z. sym (spare_above c h) ∙ z)))

-- a RAISE of a semaphore that there is, while somebody is current
pub log_refuses_20 : {g : Log} {u : List ℕ} (h : Real g u) {s : ℕ} → Range (length h.counters) s → (current_after 0 g.calls ≡ 0 → ⊥)
    → {u' room room' : List ℕ} {b : ℕ} {ws : Words} {r : Answer} → Called u u' room room' 13 s b ws r
    → (r.number ≡ 20) ↔ ((waiters_left h.counters g s).spare ≡ 32767)
unfolding request
log_refuses_20 {g} h {s} j c k =
    let R = real_recorded h in
    let m = last (beyond_of h) h.edition h.counters g in
    let i : Range (semaphores m) s = rw (last_semaphores R) j in
    let e = ap (λ (r : Answer). r.number) (k.sound m (real_shows h) (legal_last R)).answer ∙ step_number m (Raise s) in
    let l : spare_of (m.counter s) ≡ (waiters_left h.counters g s).spare = ap (λ (t : Waiters). t.spare) (last_waiters R j) in
    rw (e, ← l) (Iff.trans (twenty m s (λ z. c (sym (last_current R) ∙ z)) i) (full ((legal_last R).counters s i)))

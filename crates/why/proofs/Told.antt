-- What a clause asks of a record, as a test and as a proposition, is one. Assumes nothing.
use mathlib.Core.Path.{◌≡◌, ap, ◌∙◌}
use mathlib.Core.List.{List}
use Prim.Native.Nat.{ℕ, ◌-◌}
use native.Mathlib.Omega.{arith}
use Rattle.machine.specs.Legal.{Awaits, Waits, LegalCounter}
use Rattle.machine.specs.Sound.{B_of, buffer_at, device_at}
use Rattle.lists.proofs.Tells.{Tells, eq, le, both, nay, implies, unless, every, said}
use Rattle.laws.proofs.Laid.{tells_name}
use Rattle.why.specs.Clause.{Clause, HeaderThere, ProcessesInRange, BuffersInRange, SemaphoresInRange, LongEnough, Edition, HeaderZero}
use Rattle.why.specs.Clause.{SemaphoreZero, Priority, Name}
use Rattle.why.specs.Clause.{NameApart, FirstOwn, AllGiven, Owner, Queue, PriorityFalls, ProcessOff, BufferOff, Standing, Free, Receiver, Counter}
use Rattle.why.specs.Clause.{State, Reason, NoReason, SemaphoreWait, EventWait, AnswerWait, InterruptWait, Delay, Device}
use Rattle.why.specs.Clause.{right, Holds}
use Rattle.why.specs.Asked.{counter_right, awaits, named_by}
use Rattle.why.specs.QueueParts.{queues}
use Rattle.why.proofs.Followed.{among_tells, part_tells}

counter_tells : (c n : ℕ) → Tells (counter_right c n) (LegalCounter c n)
counter_tells c n =
    said (both (le c 65535) (both (implies (le 32768 c) (eq _ 65536)) (unless (le 32768 c) (eq n 0))))
    (λ h. record { word = omega (arith, h.0); below = h.1.0; above = λ l. h.1.1 (λ k. omega arith) })
    (λ h. (omega (arith, h.word), (h.below, λ k. h.above (omega arith))))

module _ (w : List ℕ) where
  awaits_tells : (b p : ℕ) → Tells (awaits w b p) (Awaits (B_of w) b (buffer_at w b 2) (buffer_at w b 4) p)
  awaits_tells b p =
      said (both (among_tells _ _) (both (eq _ _) (both (le _ _) (le _ _))))
      (λ h. record { is = h.0; own = h.1.0; queued_or_held = h.1.1 })
      (λ h. (h.is, (h.own, h.queued_or_held)))

  named_tells : (x p : ℕ) → Tells (named_by w x p) (Waits (device_at w) x p)
  named_tells x p =
      said (both (among_tells 64 x) (eq _ p))
      (λ h. (let l = h.0 in record { d = x - 1; is = omega arith; word = omega arith; named = h.1 }))
      (λ h. (let e : x - 1 ≡ h.d = omega (arith, h.word) in
      (omega (arith, h.is, h.word), ap (device_at w) e ∙ h.named)))

  pub clause_tells : (k : Clause) (r : ℕ) → Tells (right w k r) (Holds w k r)
  clause_tells HeaderThere r = le _ _
  clause_tells ProcessesInRange r = among_tells _ _
  clause_tells BuffersInRange r = le _ _
  clause_tells SemaphoresInRange r = le _ _
  clause_tells LongEnough r = le _ _
  clause_tells Edition r = le _ _
  clause_tells HeaderZero r = eq _ _
  clause_tells SemaphoreZero r = eq _ _
  clause_tells Priority r = among_tells _ _
  clause_tells Name r = tells_name _ _ _
  clause_tells NameApart p = every _ (p - 1) (λ q. nay (both (eq _ _) (both (eq _ _) (eq _ _))))
  clause_tells FirstOwn r = both (implies (eq _ _) (eq _ _)) (unless (eq _ _) (eq _ _))
  clause_tells AllGiven r = eq _ _
  clause_tells Owner b = both (among_tells _ _) (both (nay (le _ _)) (le _ _))
  clause_tells (Queue k p) r = part_tells (queues w k) p r
  clause_tells PriorityFalls p = implies (eq _ _) (implies (among_tells _ _) (le _ _))
  clause_tells ProcessOff p = unless (eq _ _) (unless (eq _ _) (both (eq _ _) (eq _ _)))
  clause_tells BufferOff b = unless (eq _ _) (unless (eq _ _) (both (eq _ _) (eq _ _)))
  clause_tells Standing b = le _ _
  clause_tells Free b = implies (eq _ _) (both (eq _ _) (both (eq _ _) (both (eq _ _) (both (eq _ _) (both (eq _ _) (eq _ _))))))
  clause_tells Receiver b = unless (eq _ _) (both (among_tells _ _) (nay (eq _ _)))
  clause_tells Counter s = counter_tells _ _
  clause_tells State p = le _ _
  clause_tells Reason p = both (le _ _) (nay (eq _ _))
  clause_tells NoReason p = unless (eq _ _) (eq _ _)
  clause_tells SemaphoreWait p = both (implies (eq _ _) (among_tells _ _)) (unless (eq _ _) (eq _ _))
  clause_tells EventWait p = implies (eq _ _) (eq _ _)
  clause_tells AnswerWait p = both (implies (eq _ _) (awaits_tells _ p)) (unless (eq _ _) (eq _ _))
  clause_tells InterruptWait p = both (implies (eq _ _) (named_tells _ p)) (unless (eq _ _) (eq _ _))
  clause_tells Delay p = unless (eq _ _) (unless (eq _ _) (eq _ _))
  clause_tells Device r =
      both (implies (eq _ _) (eq _ _)) (unless (eq _ _) (unless (eq _ _) (both (among_tells _ _) (both (eq _ _) (eq _ _)))))

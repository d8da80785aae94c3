-- Tables that aren't sound: the worked run's, and others near it, each with just one clause of docs/MONITOR.md, 3 broken. Assumes nothing.
use Rattle.std.proofs.Common.{inl, inr, sym, ap, ◌∙◌, arith}
use Rattle.std.specs.Prelude.{◌≡◌, refl, List, [], ◌∷◌, ◌++◌, ℕ, ◌+◌, ◌≤◌, length, set}
use Rattle.machine.specs.Queue.{In, from, Linked, Falls}
use Rattle.machine.specs.Machine.{given}
use Rattle.machine.specs.Sound.{Sound, process_at}
use Rattle.machine.specs.Worked.{words_after}

-- ---- the words by their places: processes 1 and 2 stand at 72 and 88, buffer 1 at 104
-- the worked run's table, with another word
abbrev pub with_word : ℕ → ℕ → List ℕ
with_word i v = set words_after i v

-- B out of the running queue, in that state
abbrev pub b_in : ℕ → List ℕ
b_in state = set (set (set (set words_after 3 1) 72 0) 89 0) 92 state

-- A's event queue empty
abbrev pub nothing_came : List ℕ → List ℕ
nothing_came t = set (set t 74 0) 75 0

-- A out of the running queue, in that state
abbrev pub a_in : ℕ → List ℕ
a_in state = set (set (set (set (set words_after 2 2) 72 0) 89 0) 76 state) 77 0

-- with a semaphore of that counter
abbrev pub one_semaphore : ℕ → List ℕ → List ℕ
one_semaphore counter t = set t 5 1 ++ (counter ∷ 0 ∷ 0 ∷ 0 ∷ [])

-- ---- "long enough, numbers in range, zero words zero, priorities 1 to 255, names legal and distinct"
pub too_short : Sound (with_word 1 2) → ⊥
unfolding from
too_short s = omega (arith, s.long)

pub third_edition : Sound (with_word 4 2) → ⊥
unfolding from
third_edition s = omega (arith, s.header.editions)

pub zero_word : Sound (with_word 6 1) → ⊥
unfolding from
zero_word s = omega (arith, s.header.zeros.0)

pub semaphore_zero_word : Sound (set (one_semaphore 0 words_after) 117 1) → ⊥
unfolding from
semaphore_zero_word s = omega (arith, s.semaphore_zero 1 (omega arith))

pub no_priority : Sound (with_word 81 0) → ⊥
unfolding from
no_priority s = omega (arith, (s.fixed.priorities 1 (omega arith)).0)

pub no_name : Sound (with_word 84 0) → ⊥
unfolding from
no_name s = (s.fixed.names 1 (omega arith)).some refl

pub one_name : Sound (with_word 100 0x4100) → ⊥
unfolding from
one_name s = omega (arith, s.fixed.apart 1 2 (omega arith) (omega arith) refl refl refl)

-- "owners agreeing"
pub another_owner : Sound (with_word 106 2) → ⊥
unfolding from given
another_owner s = omega (arith, (s.fixed.agree 1 (omega arith)).0)

-- ---- queues
-- "linked both ways": a queue of one whose last is told otherwise
one_link : (next previous : ℕ → ℕ) (q : List ℕ) (last : ℕ) → Linked next previous 1 0 q last → next 1 ≡ 0 → (In 0 q → ⊥) → last ≡ 1
unfolding Linked
one_link next previous [] last h n z = absurd (omega (arith, h.0))
one_link next previous (x ∷ []) last h n z = sym h.2.1 ∙ sym h.0
one_link next previous (x ∷ y ∷ q) last h n z = absurd (z (inr (inl (sym n ∙ ap next h.0 ∙ h.2.0))))

pub running_last : Sound (set (b_in 0) 3 2) → ⊥
unfolding from
running_last s =
    let e = one_link _ _ s.running.q 2 s.running.is.linked refl (λ i. (let r = (s.running.is.exact.only 0 i).0 in omega (arith, r))) in
    omega (arith, e)

pub event_last : Sound (with_word 75 0) → ⊥
unfolding from
event_last s =
    let a = s.events 1 (omega arith) in
    let e = one_link _ _ a.q 0 a.is.linked refl (λ i. (let r = (a.is.exact.only 0 i).0 in omega (arith, r))) in
    omega (arith, e)

-- "priorities never rising": B, behind A, has a higher one
rising : (rank : ℕ → ℕ) (next previous : ℕ → ℕ) (q : List ℕ) (last : ℕ) → Linked next previous 1 0 q last → next 1 ≡ 2 → Falls rank q → rank 2 ≤ rank 1
unfolding Linked
rising rank next previous [] last h n f = absurd (omega (arith, h.0))
rising rank next previous (x ∷ []) last h n f = absurd (omega (arith, n, sym (ap next h.0), h.2.0))
rising rank next previous (x ∷ y ∷ q) last h n f =
    let e : y ≡ 2 = sym h.2.0 ∙ sym (ap next h.0) ∙ n in
    let g : rank y ≤ rank x = f.0 y (inl refl) in
    omega (arith, g, ap rank e, ap rank h.0)

pub priorities_rise : Sound (with_word 97 9) → ⊥
unfolding from
priorities_rise s =
    let e = rising (λ p. process_at (with_word 97 9) p 9) _ _ s.running.q 2 s.running.is.linked refl s.running.falls in
    omega (arith, e)

-- "a record in no queue has links 0"
pub stopped_linked : Sound (set (b_in 0) 88 1) → ⊥
unfolding from
stopped_linked s = omega (arith, (s.off_running 2 (omega arith) (omega arith) (omega arith)).0)

pub held_linked : Sound (set (nothing_came (with_word 108 2)) 104 1) → ⊥
unfolding from
held_linked s = omega (arith, (s.off_events 1 (omega arith) (omega arith) (omega arith)).0)

-- "a counter below zero is minus the number waiting": it is minus one, and nobody waits
nobody : (next previous : ℕ → ℕ) (q : List ℕ) → Linked next previous 0 0 q 0 → (In 0 q → ⊥) → 65535 + length q ≡ 65536 → ⊥
unfolding Linked
nobody next previous [] l o e = omega arith
nobody next previous (x ∷ q) l o e = o (inl l.0)

pub nobody_waits : Sound (one_semaphore 65535 words_after) → ⊥
unfolding from
nobody_waits s =
    let l = s.semaphore_queues 1 (omega arith) in
    nobody _ _ l.q l.is.linked (λ i. (let r = (l.is.exact.only 0 i).0 in omega (arith, r))) (l.counter.below (omega arith))

-- ---- "a free buffer has receiver and message words 0, any other a receiver that isn't its owner"
pub own_receiver : Sound (with_word 107 1) → ⊥
unfolding from
own_receiver s = ((s.buffer 1 (omega arith)).taken (omega arith)).1 refl

pub free_with_words : Sound (set (nothing_came (with_word 108 0)) 107 0) → ⊥
unfolding from
free_with_words s = omega (arith, ((s.buffer 1 (omega arith)).free refl).3)

-- ---- waits
-- "state 2 has an empty event queue": the message stands in B's
pub idle_with_message : Sound (set (set (set (nothing_came (b_in 2)) 90 1) 91 1) 108 1) → ⊥
unfolding from
idle_with_message s = omega (arith, s.idle 2 (omega arith) refl)

-- "word 7 names an own buffer of standing 1 or 2": it is answered
pub answered_awaited : Sound (set (a_in 3) 79 1) → ⊥
unfolding from
answered_awaited s = omega (arith, (s.awaits 1 (omega arith) refl).queued_or_held.1)

-- "device words name exactly those waiters": device 7 knows nobody; it names one that runs; FFFF in edition 0
pub device_unknowing : Sound (set (b_in 4) 96 8) → ⊥
unfolding from
device_unknowing s =
    let w = s.waits 2 (omega arith) refl in
    let e : w.d ≡ 7 = omega (arith, w.word) in
    omega (arith, rw e at w.named)

pub device_of_a_runner : Sound (with_word 15 2) → ⊥
unfolding from
device_of_a_runner s = omega (arith, (s.waiters 7 (omega arith) (omega arith) (omega arith)).1)

pub kept_in_edition_0 : Sound (with_word 15 65535) → ⊥
unfolding from
kept_in_edition_0 s = omega (arith, s.keeps 7 (omega arith) refl)

-- "word 15 names the semaphore": there is no second
pub semaphore_not_there : Sound (set (one_semaphore 0 (b_in 5)) 103 2) → ⊥
unfolding from
semaphore_not_there s = omega (arith, s.lowers 2 (omega arith) refl)

-- ---- "delay 0 outside states 2 and 4; reason 0 outside state 1", and no reason 4
pub delay_of_a_runner : Sound (with_word 78 5) → ⊥
unfolding from
delay_of_a_runner s = omega (arith, (s.process 1 (omega arith)).no_delay (omega arith) (omega arith))

pub reason_of_a_stopped : Sound (set (b_in 0) 93 1) → ⊥
unfolding from
reason_of_a_stopped s = omega (arith, (s.process 2 (omega arith)).no_reason (omega arith))

pub reason_4 : Sound (with_word 77 4) → ⊥
unfolding from
reason_4 s = (s.process 1 (omega arith)).reasons.1 refl

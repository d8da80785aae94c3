-- (vi) One call: a conversation that is open after it was sent by it, or was open before and has aged by its tick. Assumes nothing.
use Prim.Native.Nat.{ℕ, ◌+◌, ◌≤◌, min}
use native.Mathlib.Omega.{arith}
use mathlib.Core.Bool.{Bool, true, false, ◌&&◌, and-false}
use mathlib.Core.List.{List, [], ◌∷◌, ◌++◌}
use mathlib.Core.Path.{◌≡◌, refl, sym, ap, ◌∙◌}
use lib.Dec.{eqb}
use borrow.Author.Tests.{eq-eqb, ne_eqb, eqb-true, eqb-false}
use Rattle.machine.specs.Queue.{if}
use Rattle.machine.specs.Machine.{Words}
use Rattle.machine.specs.Request.{Request, request, Send, WaitAnswer, WaitEvent, SendAnswer, Clean, Tick}
use Rattle.machine.specs.Refusal.{among}
use Rattle.machine.specs.Step.{Answer}
use Rattle.machine.specs.Log.{Call, asked, Talk, is_open, moved, freed, names, move, count}
use Rattle.lists.proofs.Links.{cases}
use Rattle.lists.proofs.Tests.{either, differ, and_true}
use Rattle.lists.proofs.Tells.{eq, nay}
use Rattle.logs.specs.Sent.{SendsIn, is_tick, ticks_in}
use Rattle.logs.proofs.OneMore.{asks}

-- ---- what a request other than a send or a tick leaves
-- if it is open afterwards it was before, and as old
abbrev Keeps : Talk → Talk → Type 0
Keeps t u = is_open u ≡ true → (is_open t ≡ true) × (u.age ≡ t.age)

alone : (t : Talk) → Keeps t t
alone t o = (o, refl)

ended : (t : Talk) → Keeps t (freed t)
ended t o = absurd (differ (sym o))

-- a test of the standing that a free buffer fails
pub not_free : (t : Talk) (f : ℕ → Bool) → f 0 ≡ false → f t.standing ≡ true → is_open t ≡ true
not_free t f n e = (nay (eq t.standing 0)).back (λ z. differ (sym e ∙ ap f z ∙ n))

-- from such a standing into another
on : (t : Talk) (s : ℕ) (x : Bool) (f : ℕ → Bool) → f 0 ≡ false → (x && f t.standing) ≡ true → Keeps t (moved s t)
on t s x f n e o = (not_free t f n (and_true {a = x} e).1, refl)

module _ (b : ℕ) (t : Talk) (r : Answer) where
  by_answer : (a : ℕ) → Keeps t (move b t (WaitAnswer a) r)
  unfolding move
  by_answer a = either (Keeps t) (names b 2 r) (λ e. ended t) (λ e. alone t)

  by_event : (d : ℕ) → (names b 1 r ≡ true → is_open t ≡ true) → Keeps t (move b t (WaitEvent d) r)
  unfolding move
  by_event d h = either (Keeps t) (names b 1 r) (λ e o. (h e, refl)) (λ e. either (Keeps t) (names b 2 r) (λ e. ended t) (λ e. alone t))

  by_send_answer : (a : ℕ) (ws : Words) → Keeps t (move b t (SendAnswer a ws) r)
  unfolding move
  by_send_answer a ws =
      either (Keeps t) (eqb b a && eqb t.standing 2) (on t 3 (eqb b a) (λ s. eqb s 2) refl)
      (λ e. either (Keeps t) (eqb b a && eqb t.standing 4) (λ e. ended t) (λ e. alone t))

  by_clean : (a : ℕ) → Keeps t (move b t (Clean a) r)
  unfolding move
  by_clean a =
      either (Keeps t) (eqb t.owner a && among t.standing (1 ∷ 3 ∷ [])) (λ e. ended t)
      (λ e. either (Keeps t) (eqb t.owner a && eqb t.standing 2) (on t 4 (eqb t.owner a) (λ s. eqb s 2) refl)
      (λ e. either (Keeps t) (eqb t.receiver a && among t.standing (1 ∷ 2 ∷ [])) (on t 3 (eqb t.receiver a) (λ s. among s (1 ∷ 2 ∷ [])) refl)
      (λ e. either (Keeps t) (eqb t.receiver a && eqb t.standing 4) (λ e. ended t) (λ e. alone t))))

-- ---- what a call leaves
-- a conversation open after the call c, with age a: c began it, or it was open before and c, if a tick, has aged it
pub data AgeComes (b : ℕ) (t : Talk) (c : Call) (a : ℕ) : Type 0 where
  new : SendsIn b c → a ≡ 0 → AgeComes b t c a
  old : is_open t ≡ true → (SendsIn b c → ⊥) → (t.age ≤ 65535 → a ≡ min (t.age + ticks_in (c ∷ [])) 65535) → AgeComes b t c a

module _ (b : ℕ) (t : Talk) (c : Call) where
  -- u is what c leaves of t
  abbrev Leaves : Talk → Type 0
  Leaves u = is_open u ≡ true → AgeComes b t c u.age

  lasts : (u : Talk) → Keeps t u → (SendsIn b c → ⊥) → is_tick c ≡ false → Leaves u
  unfolding ticks_in
  lasts u k s n o =
      let none : ticks_in (c ∷ []) ≡ 0 = ap (λ (x : Bool). if x 1 0 + 0) n in
      let h = k o in
      old h.0 s (λ l. h.1 ∙ omega (arith, none))

  by_send : c.number ≡ 1 → c.answer.number ≡ 0 → (a : ℕ) (ws : Words) → Leaves (move b t (Send a ws) c.answer)
  unfolding move
  by_send e z a ws =
      either Leaves (eqb b c.answer.buffer)
      (λ i o. new (record { asks = e; accepted = z; buffer = sym (eqb-true b _ i) }) refl)
      (λ i. lasts t (alone t) (λ s. eqb-false b _ i (sym s.buffer)) (simp (ne_eqb c.number 9 (omega arith))))

  by_tick : c.number ≡ 9 → c.answer.number ≡ 0 → Leaves (move b t Tick c.answer)
  unfolding move ticks_in
  by_tick e z =
      let no : SendsIn b c → ⊥ = λ s. omega (arith, s.asks) in
      either Leaves (is_open t)
      (λ o i. old o no (λ l. simp (eq-eqb c.number 9 e, eq-eqb c.answer.number 0 z)))
      (λ n o. absurd (differ (sym o ∙ n)))

  -- any other
  by_other : (r : Request) → Keeps t (move b t r c.answer) → (c.number ≡ 1 → ⊥) → (c.number ≡ 9 → ⊥) → Leaves (move b t r c.answer)
  by_other r k s n = lasts (move b t r c.answer) k (λ i. s i.asks) (simp (ne_eqb c.number 9 n))

-- ---- which request it is
-- neither a send nor a tick
other_keeps : (b : ℕ) (t : Talk) (r : Answer) (k x y : ℕ) (ws : Words) (room : ℕ) → (k ≡ 1 → ⊥) → (k ≡ 9 → ⊥)
    → (k ≡ 3 → names b 1 r ≡ true → is_open t ≡ true) → Keeps t (move b t (request k x y ws room) r)
unfolding request move
other_keeps b t r k x y ws room n₁ n₉ h =
    let C : Request → Type 0 = λ q. Keeps t (move b t q r) in
    either C (eqb k 1) (λ e. absurd (n₁ (eqb-true k 1 e)))
    (λ e. either C (eqb k 2) (λ e. by_answer b t r x)
    (λ e. either C (eqb k 3) (λ e. by_event b t r x (h (eqb-true k 3 e)))
    (λ e. either C (eqb k 4) (λ e. by_send_answer b t r x ws)
    (λ e. either C (eqb k 5) (λ e. alone t)
    (λ e. either C (eqb k 6) (λ e. alone t)
    (λ e. either C (eqb k 7) (λ e. alone t)
    (λ e. either C (eqb k 8) (λ e. by_clean b t r x)
    (λ e. either C (eqb k 9) (λ e. absurd (n₉ (eqb-true k 9 e)))
    (λ e. either C (eqb k 10) (λ e. alone t)
    (λ e. either C (eqb k 11) (λ e. alone t)
    (λ e. either C (eqb k 12) (λ e. alone t)
    (λ e. either C (eqb k 13) (λ e. alone t)
    (λ e. alone t)))))))))))))

module _ (b : ℕ) (t : Talk) (c : Call) (h : c.number ≡ 3 → names b 1 c.answer ≡ true → is_open t ≡ true) where
  accepted_leaves : c.answer.number ≡ 0 → Leaves b t c (move b t (asked c) c.answer)
  unfolding request
  accepted_leaves z =
      cases c.number 1 (λ e. rw (asks c e) (by_send b t c e z c.a c.words))
      (λ n₁. cases c.number 9 (λ e. rw (asks c e) (by_tick b t c e z))
      (λ n₉. by_other b t c (asked c) (other_keeps b t c.answer c.number c.a c.b c.words c.room n₁ n₉ h) n₁ n₉))

  pub call_leaves : Leaves b t c (count b t c)
  call_leaves =
      either (Leaves b t c) (eqb c.answer.number 0) (λ e. accepted_leaves (eqb-true _ 0 e))
      (λ n. lasts b t c t (alone t) (λ s. eqb-false _ 0 n s.accepted) (rw n (and-false (eqb c.number 9))))

-- ---- calls put together
pub ticks_both : (l k : List Call) → ticks_in (l ++ k) ≡ ticks_in l + ticks_in k
unfolding ticks_in
ticks_both [] k = omega arith
ticks_both (c ∷ l) k = omega (arith, ticks_both l k)

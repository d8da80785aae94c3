-- (vi) Demand 3 of ages: an open conversation is as old as the ticks accepted in the log since its send, or 65,535 if more. Assumes nothing.
use Prim.Native.Nat.{ℕ, zero, suc}
use native.Mathlib.Omega.{arith}
use mathlib.Core.Bool.{true}
use mathlib.Core.List.{List, [], ◌∷◌, ◌++◌, append_assoc, append-nil}
use mathlib.Core.Path.{◌≡◌, refl, sym, ap, subst, ◌∙◌}
use lib.Dec.{eqb}
use lib.Seq.{append_snoc}
use borrow.Author.Tests.{eqb-true}
use Rattle.machine.specs.Queue.{head, Range}
use Rattle.machine.specs.Machine.{Machine, standing, current}
use Rattle.machine.specs.Request.{request, WaitEvent}
use Rattle.machine.specs.Refusal.{refusal}
use Rattle.machine.specs.Step.{Answer, Outcome, effect, judge, step}
use Rattle.machine.specs.Layout.{sum, laid_over, owner_in}
use Rattle.machine.specs.Log.{Call, Log, asked, Talk, talk_of, is_open, names, read, left}
use Rattle.lists.proofs.Tests.{either, differ, and_true}
use Rattle.logs.specs.Follows.{last, Recorded}
use Rattle.logs.specs.Open.{with_call}
use Rattle.logs.specs.Sent.{SendsIn, Unsent, ticks_in, Since}
use Rattle.logs.proofs.Reading.{last_talk}
use Rattle.logs.proofs.OneMore.{read_more, follows_more, asks}
use Rattle.logs.proofs.Aging.{not_free, AgeComes, new, old, call_leaves, ticks_both}

-- ---- one call more
-- a message that call 03 takes stood queued
abbrev Queued : Machine → Outcome → Type 0
Queued m o = o.answer.kind ≡ 1 → standing m o.answer.buffer ≡ 1

taken : (m : Machine) (d : ℕ) → Queued m (step m (WaitEvent d))
unfolding step effect
taken m d = go (refusal m (WaitEvent d))
  where
    go : (n : ℕ) → Queued m (judge n (effect m (WaitEvent d)) m)
    go zero =
        let b : ℕ = head (m.events (current m)) in
        either (Queued m) (eqb b 0) (λ e k. absurd (omega arith))
        (λ n. either (Queued m) (eqb (standing m b) 1) (λ e k. eqb-true (standing m b) 1 e) (λ e k. absurd (omega arith)))
    go (suc n) = λ k. absurd (omega arith)

-- so what it takes was open
taken_open : {beyond counters : List ℕ} {edition : ℕ} {g : Log} (c : Call) → Recorded beyond edition counters g
    → c.answer ≡ (step (last beyond edition counters g) (asked c)).answer
    → (b : ℕ) → Range (sum g.list) b → c.number ≡ 3 → names b 1 c.answer ≡ true → is_open (left g b) ≡ true
unfolding request
taken_open {beyond} {counters} {edition} {g} c h f b i e n =
    let q : c.answer ≡ (step (last beyond edition counters g) (WaitEvent c.a)).answer = rw (asks c e) at f in
    let t = and_true {a = eqb c.answer.kind 1} n in
    let s : standing (last beyond edition counters g) c.answer.buffer ≡ 1 =
    rw q (taken (last beyond edition counters g) c.a (subst (λ (r : Answer). r.kind ≡ 1) q (eqb-true _ 1 t.0))) in
    let s₁ : standing (last beyond edition counters g) b ≡ 1 = rw (eqb-true b _ t.1) s in
    not_free (left g b) (λ s. eqb s 1) refl (rw (sym (ap (λ (t : Talk). t.standing) (last_talk h b i)) ∙ s₁) refl)

unsent_more : {b : ℕ} {c : Call} → (SendsIn b c → ⊥) → (l : List Call) → Unsent b l → Unsent b (l ++ (c ∷ []))
unsent_more n [] u = (n, tt)
unsent_more n (d ∷ l) u = (u.0, unsent_more n l u.1)

since_more : {b a : ℕ} {t : Talk} {c : Call} (l : List Call) → (is_open t ≡ true → Since b l t.age) → AgeComes b t c a → Since b (l ++ (c ∷ [])) a
unfolding ticks_in
since_more {c} l f (new s e) = record { sent = record { before = l; send = c; after = []; all = refl; sends = s; last = tt }; is = e }
since_more {c} l f (old o n e) =
    let h = f o in
    let s = h.sent in
    record {
      sent = record {
        before = s.before;
        send = s.send;
        after = s.after ++ (c ∷ []);
        all = ap (λ (k : List Call). k ++ (c ∷ [])) s.all ∙ append_assoc s.before (s.send ∷ s.after) (c ∷ []);
        sends = s.sends;
        last = unsent_more n s.after s.last;
      };
      is = omega (arith, ticks_both s.after (c ∷ []), h.is, e (omega (arith, h.is)));
    }

-- ---- the log
-- what holds of no calls and of one call more holds of all calls
by_calls : (C : List Call → Type 0) → C [] → ((l : List Call) (c : Call) → C l → C (l ++ (c ∷ []))) → (l : List Call) → C l
by_calls C z f l = go [] l z
  where
    go : (l k : List Call) → C l → C (l ++ k)
    go l [] x = subst C (sym (append-nil l)) x
    go l (c ∷ k) x = subst C (append_snoc l c k) (go (l ++ (c ∷ [])) k (f l c x))

-- the same list, with other calls
abbrev with_calls : Log → List Call → Log
with_calls g l = record { list = g.list; calls = l }

abbrev Aged : List ℕ → ℕ → List ℕ → Log → ℕ → Type 0
Aged beyond edition counters g b = Recorded beyond edition counters g → is_open (left g b) ≡ true → Since b g.calls (left g b).age

aged_more : {beyond counters : List ℕ} {edition : ℕ} (g : Log) (b : ℕ) → Range (sum g.list) b → (c : Call) → Aged beyond edition counters g b
    → Aged beyond edition counters (with_call g c) b
aged_more {beyond} {counters} {edition} g b i c f h =
    let k = follows_more (laid_over beyond edition counters g.list) g.calls c h.follows in
    let r : Recorded beyond edition counters g = record { accepted = h.accepted; setting = h.setting; follows = k.0 } in
    rw (read_more b (talk_of (owner_in g.list b) 0 0 0) g.calls c)
    (λ o. since_more g.calls (f r) (call_leaves b (left g b) c (taken_open c r k.1 b i) o))

-- the age listed "is the number of ticks accepted in the log since that send, or 65,535 if more"
pub age_since : {beyond counters : List ℕ} {edition : ℕ} {g : Log} → Recorded beyond edition counters g → (b : ℕ) → Range (sum g.list) b
    → is_open (left g b) ≡ true → Since b g.calls (left g b).age
unfolding read
age_since {beyond} {counters} {edition} {g} h b i =
    by_calls (λ l. Aged beyond edition counters (with_calls g l) b) (λ r o. absurd (differ (sym o))) (λ l c f. aged_more (with_calls g l) b i c f) g.calls h

-- docs/MONITOR.md, 8, "exactly when": after a real log in edition 1 an accepted 05 for a device takes a kept interrupt if and only if the log has an accepted
-- 0A
-- of it without a waiter since the last accepted 05 for it, or since the layout. Assumes nothing.
use Prim.Native.Nat.{ℕ, zero, suc}
use native.Mathlib.Omega.{arith}
use mathlib.Core.List.{List, [], ◌∷◌, ◌++◌, append_assoc}
use mathlib.Core.Logic.{◌↔◌, ◌⊎◌, inl, inr, ⊎_elim}
use mathlib.Core.Path.{◌≡◌, refl, sym, ap, ◌∙◌}
use lib.Dec.{eqb}
use borrow.Author.Tests.{eqb-true}
use Rattle.machine.specs.Machine.{Machine, Words, kept}
use Rattle.machine.specs.Request.{Request, request, WaitInterrupt}
use Rattle.machine.specs.Refusal.{refusal}
use Rattle.machine.specs.Step.{Answer, Outcome, effect, judge, step}
use Rattle.machine.specs.Legal.{Legal}
use Rattle.machine.specs.Layout.{laid_over}
use Rattle.machine.specs.Log.{Call, Log, asked}
use Rattle.lists.proofs.Tests.{either}
use Rattle.laws.proofs.Dispatch.{step_number}
use Rattle.laws.proofs.Step.{legal_step}
use Rattle.logs.specs.Follows.{Follows, end, last}
use Rattle.logs.specs.Interrupts.{Unheard, AwaitsInterrupt, Unawaited, KeptSince}
use Rattle.logs.specs.Open.{with_call}
use Rattle.logs.specs.Real.{Made, Chain, none, more, Real}
use Rattle.logs.proofs.OneMore.{asks}
use Rattle.logs.proofs.Reading.{legal_start, legal_last}
use Rattle.logs.proofs.Written.{beyond_of, made_comes, real_recorded, real_shows}
use Rattle.logs.proofs.KeptFrom.{IsUnheard, kept_from, none_left}
use Rattle.logs.proofs.NeverLost.{never_lost_in}

-- only number 10 is an interrupt, and of that device
by_ringing : (d k a b : ℕ) (ws : Words) (n : ℕ) (r : Answer) → IsUnheard d (request k a b ws n) r → (k ≡ 10) × (a ≡ d) × (r.kind ≡ 0)
unfolding request
by_ringing d k a b ws n r =
    let C : Request → Type 0 = λ q. IsUnheard d q r → (k ≡ 10) × (a ≡ d) × (r.kind ≡ 0) in
    either C (eqb k 1) (λ t x. absurd x)
    (λ t. either C (eqb k 2) (λ t x. absurd x) (λ t. either C (eqb k 3) (λ t x. absurd x) (λ t. either C (eqb k 4) (λ t x. absurd x)
    (λ t. either C (eqb k 5) (λ t x. absurd x) (λ t. either C (eqb k 6) (λ t x. absurd x) (λ t. either C (eqb k 7) (λ t x. absurd x)
    (λ t. either C (eqb k 8) (λ t x. absurd x) (λ t. either C (eqb k 9) (λ t x. absurd x) (λ t. either C (eqb k 10) (λ t x. (eqb-true k 10 t, x.0, x.1))
    (λ t. either C (eqb k 11) (λ t x. absurd x) (λ t. either C (eqb k 12) (λ t x. absurd x)
    (λ t. either C (eqb k 13) (λ t x. absurd x) (λ t x. absurd x)))))))))))))

-- a 05 for d asks for d
for_device : {d : ℕ} {c : Call} → AwaitsInterrupt d c → asked c ≡ WaitInterrupt d c.b
unfolding request
for_device {d} {c} w = asks c w.number ∙ ap (λ (x : ℕ). WaitInterrupt x c.b) w.device

-- ---- back along the calls: an interrupt kept at their end was kept at their begin and not asked for, or came by one of them
module _ (d : ℕ) where
  -- one call
  came : {n : Machine} → Legal n → (c : Call) → c.answer ≡ (step n (asked c)).answer → (step n (asked c)).machine.device d ≡ kept
      → ((n.device d ≡ kept) × (AwaitsInterrupt d c → ⊥)) ⊎ Unheard d c
  unfolding step
  came {n} L c f k = go (refusal n (asked c)) refl
    where
      go : (x : ℕ) → refusal n (asked c) ≡ x → ((n.device d ≡ kept) × (AwaitsInterrupt d c → ⊥)) ⊎ Unheard d c
      go zero e =
          let z = ap (λ (r : Answer). r.number) f ∙ (step_number n (asked c) ∙ e) in
          let h = rw e at k in
          let a : c.answer ≡ (effect n (asked c)).answer = rw e at f in
          ⊎_elim (λ k₀. inl (k₀, λ w. (let q = for_device w in none_left L d d c.b (rw q at e) refl (rw q at h))))
          (λ r. (let i = by_ringing d c.number c.a c.b c.words c.room (effect n (asked c)).answer r in
          inr (record { number = i.0; device = i.1; accepted = z; nobody = ap (λ (r : Answer). r.kind) a ∙ i.2 })))
          (kept_from L d (asked c) e h)
      go (suc x) e =
          let z = ap (λ (r : Answer). r.number) f ∙ (step_number n (asked c) ∙ e) in
          inl (rw e at k, λ w. omega (arith, w.accepted))

  back : (l : List Call) {n : Machine} → Legal n → Follows n l → (end n l).device d ≡ kept → ((n.device d ≡ kept) × Unawaited d l) ⊎ KeptSince d l
  unfolding end
  back [] L f k = inl (k, tt)
  back (c ∷ l) L f k =
      ⊎_elim
      (λ h. ⊎_elim (λ b. inl (b.0, (b.1, h.1))) (λ u. inr (record { before = []; interrupt = c; after = l; all = refl; heard = u; since = h.1 }))
      (came L c f.0 h.0))
      (λ s. inr (record {
        before = c ∷ s.before;
        interrupt = s.interrupt;
        after = s.after;
        all = ap (λ (x : List Call). c ∷ x)
            s.all;
        heard = s.heard;
        since = s.since;
      }))
      (back l (legal_step L (asked c)) f.1 k)

-- ---- one call more on a real log's words
pub chain_more : {t u v : List ℕ} {l : List Call} {c : Call} → Chain t u l → Made u v c → Chain t v (l ++ (c ∷ []))
chain_more none k = more k none
chain_more (more a n) k = more a (chain_more n k)

abbrev pub real_more : {g : Log} {u v : List ℕ} {c : Call} → Real g u → Made u v c → Real (with_call g c) v
real_more h k =
    record {
      list = h.list;
      edition = h.edition;
      counters = h.counters;
      lent = h.lent;
      laid = h.laid;
      answer = h.answer;
      names = h.names;
      layout = h.layout;
      accepted = h.accepted;
      chain = chain_more h.chain k;
    }

-- only a kept interrupt is answered with 3
was_kept : (m : Machine) (d x : ℕ) → (step m (WaitInterrupt d x)).answer.kind ≡ 3 → m.device d ≡ kept
unfolding step effect
was_kept m d x = go (refusal m (WaitInterrupt d x))
  where
    go : (n : ℕ) → (judge n (effect m (WaitInterrupt d x)) m).answer.kind ≡ 3 → m.device d ≡ kept
    go zero = either (λ (o : Outcome). o.answer.kind ≡ 3 → m.device d ≡ kept) (eqb (m.device d) kept) (λ t e. eqb-true (m.device d) kept t)
        (λ t e. absurd (omega arith))
    go (suc n) = λ e. absurd (omega arith)

pub kept_exactly : {g : Log} {u v : List ℕ} {c : Call} {d : ℕ} (h : Real g u) → h.edition ≡ 1 → Made u v c → AwaitsInterrupt d c
    → (c.answer.kind ≡ 3) ↔ KeptSince d
    g.calls
unfolding laid_over
kept_exactly {g} {c = c} {d = d} h e k w =
    let R = real_recorded h in
    let m = last (beyond_of h) h.edition h.counters g in
    let a = (made_comes k (real_shows h) (legal_last R)).answer in
    let q = for_device w in (
      λ z. (let kind : (step m (WaitInterrupt d c.b)).answer.kind ≡ 3 = sym (ap (λ (r : Answer). r.kind) (rw q at a)) ∙ z in
          ⊎_elim (λ b. absurd (let n : ◌≡◌ {A = ℕ} 0 kept = b.0 in omega arith)) (λ s. s)
          (back d g.calls (legal_start R) R.follows (was_kept m d c.b kind))),
      λ s. (never_lost_in (real_more h k) e s.before s.after []
          (ap (λ (l : List Call). l ++ (c ∷ [])) s.all ∙ append_assoc s.before (s.interrupt ∷ s.after) (c ∷ [])) s.heard s.since w).0,
    )

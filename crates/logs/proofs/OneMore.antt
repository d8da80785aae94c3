-- One call more: after an accepted clean nothing is under way with its process, and an answer reaches only its owner. Assumes nothing.
use Prim.Native.Nat.{ℕ, zero, suc}
use native.Mathlib.Omega.{arith}
use mathlib.Core.Bool.{Bool, true, false, not, ◌&&◌}
use mathlib.Core.List.{List, [], ◌∷◌, ◌++◌}
use mathlib.Core.Logic.{⊎_elim}
use mathlib.Core.Path.{◌≡◌, refl, sym, ap, subst, ◌∙◌}
use lib.Dec.{eqb}
use borrow.Author.Tests.{eq-eqb, ne_eqb, eqb-true, eqb-false, not-false}
use Rattle.machine.specs.Queue.{head, Range}
use Rattle.machine.specs.Machine.{Machine, owner, standing, current}
use Rattle.machine.specs.Request.{Request, request, WaitAnswer, WaitEvent, Clean}
use Rattle.machine.specs.Refusal.{among, outside, refusal}
use Rattle.machine.specs.Step.{Answer, Outcome, effect, judge, step}
use Rattle.machine.specs.Legal.{Legal}
use Rattle.machine.specs.Layout.{sum, laid_over}
use Rattle.machine.specs.Log.{Call, Log, asked, Talk, move, count, read, left, current_after}
use Rattle.lists.proofs.Numbers.{first_in}
use Rattle.lists.proofs.Tests.{either, differ, and_true, or_false, second, inside, passes}
use Rattle.logs.specs.Follows.{Follows, end, Recorded}
use Rattle.logs.specs.Open.{Gone, with_call, Brings, Owed}
use Rattle.logs.proofs.Reading.{legal_last, last_B, last_talk, last_current}

-- ---- clean
-- the other test of a pair that fails
other : {a b : Bool} → (a && b) ≡ false → a ≡ true → b ≡ false
other {a = true} e t = e
other {a = false} e t = absurd (differ (sym t))

-- a number that is neither of two
neither : (s x y : ℕ) → among s (x ∷ y ∷ []) ≡ false → (s ≡ x → ⊥) × (s ≡ y → ⊥)
neither s x y e = let h = or_false {a = eqb s x} e in (eqb-false s x h.0, eqb-false s y (or_false {a = eqb s y} h.1).0)

clean_gone : (p b : ℕ) (t : Talk) (r : Answer) → Gone p (move b t (Clean p) r)
unfolding move
clean_gone p b t r =
    let s : ℕ = t.standing in
    either (Gone p) (eqb t.owner p && among s (1 ∷ 3 ∷ []))
    (λ t₁. record { begun = λ e l. absurd (omega arith); received = λ e l. absurd (omega arith) })
    (λ n₁. either (Gone p) (eqb t.owner p && eqb s 2)
    (λ t₂. record { begun = λ e l u. omega arith; received = λ e l u. omega arith })
    (λ n₂.
    let mine : t.owner ≡ p → (s ≡ 1 → ⊥) × (s ≡ 3 → ⊥) × (s ≡ 2 → ⊥) = λ e. (
      (neither s 1 3 (other n₁ (eq-eqb t.owner p e))).0,
      (neither s 1 3 (other n₁ (eq-eqb t.owner p e))).1,
      eqb-false s 2 (other n₂ (eq-eqb t.owner p e)),
    ) in
    either (Gone p) (eqb t.receiver p && among s (1 ∷ 2 ∷ []))
    (λ t₃.
    record {
      begun = λ e l u. (mine e).2 (eqb-true s 2 (second {a = eqb s 1} (and_true {a = eqb t.receiver p} t₃).1 (ne_eqb s 1 (mine e).0)));
      received = λ e l u. omega arith;
    })
    (λ n₃. either (Gone p) (eqb t.receiver p && eqb s 4)
    (λ t₄. record { begun = λ e l. absurd (omega arith); received = λ e l. absurd (omega arith) })
    (λ n₄. record { begun = λ e l u. omega (arith, mine e); received = λ e l u. omega (arith, neither s 1 2 (other n₃ (eq-eqb t.receiver p e))) }))))

-- ---- one call more
pub read_more : (b : ℕ) (t : Talk) (l : List Call) (c : Call) → read b t (l ++ (c ∷ [])) ≡ count b (read b t l) c
unfolding read
read_more b t [] c = refl
read_more b t (d ∷ l) c = read_more b (count b t d) l c

pub follows_more : (m : Machine) (l : List Call) (c : Call) → Follows m (l ++ (c ∷ [])) → Follows m l × (c.answer ≡ (step (end m l) (asked c)).answer)
unfolding end
follows_more m [] c f = (tt, f.0)
follows_more m (d ∷ l) c f = let h = follows_more (step m (asked d)).machine l c f.1 in ((f.0, h.0), h.1)

-- what a call asks, by its number
pub asks : (c : Call) {k : ℕ} → c.number ≡ k → asked c ≡ request k c.a c.b c.words c.room
asks c e = ap (λ (k : ℕ). request k c.a c.b c.words c.room) e

-- after an accepted clean of p nothing is under way with p
pub cleaned_gone : (g : Log) (c : Call) → c.number ≡ 8 → c.answer.number ≡ 0 → (b : ℕ) → Gone c.a (left (with_call g c) b)
unfolding request
cleaned_gone g c e n b =
    rw (read_more b _ g.calls c, eq-eqb c.answer.number 0 n, asks c e) (clean_gone c.a b _ c.answer)

-- ---- an answer
-- the buffer of such an answer is the caller's, and stands answered
record Mine (m : Machine) (r : Answer) : Type 0 where
  is : Range m.B r.buffer
  answered : standing m r.buffer ≡ 3
  own : owner m r.buffer ≡ current m

module _ {m : Machine} (L : Legal m) where
  abbrev Due : Outcome → Type 0
  Due o = o.answer.kind ≡ 2 → Mine m o.answer

  by_answer : (a : ℕ) → refusal m (WaitAnswer a) ≡ 0 → Due (effect m (WaitAnswer a))
  unfolding refusal effect
  by_answer a e =
      let h = or_false {a = outside a m.B} (passes _ (omega arith) e).1.0 in
      let own = eqb-true (owner m a) (current m) (not-false _ (or_false {a = not (eqb (owner m a) (current m))} h.1).0) in
      either Due (eqb (standing m a) 3)
      (λ t k. record { is = inside m.B a h.0; answered = eqb-true (standing m a) 3 t; own = own })
      (λ t k. absurd (omega arith))

  by_event : (d : ℕ) → refusal m (WaitEvent d) ≡ 0 → Due (effect m (WaitEvent d))
  unfolding refusal effect
  by_event d e =
      let b : ℕ = head (m.events (current m)) in
      let i = (L.running.only (current m) (first_in m.running (eqb-false (current m) 0 (passes _ (omega arith) e).0))).0 in
      either Due (eqb b 0)
      (λ t k. absurd (omega arith))
      (λ n. let s = (L.events (current m) i).only b (first_in (m.events (current m)) (eqb-false b 0 n)) in
      either Due (eqb (standing m b) 1)
      (λ t k. absurd (omega arith))
      (λ t k. ⊎_elim (λ q. absurd (eqb-false (standing m b) 1 t q.0)) (λ q. record { is = s.0; answered = q.0; own = q.1 }) s.1))

  -- so it is of an accepted call
  accepted : (r : Request) → (refusal m r ≡ 0 → Due (effect m r)) → (step m r).answer.number ≡ 0 → Due (step m r)
  unfolding step
  accepted r f = go (refusal m r) refl
    where
      go : (n : ℕ) → refusal m r ≡ n → (judge n (effect m r) m).answer.number ≡ 0 → Due (judge n (effect m r) m)
      go zero e k = f e
      go (suc n) e k = absurd (omega arith)

  brought : (c : Call) → c.answer ≡ (step m (asked c)).answer → Brings c → Mine m c.answer
  unfolding request
  brought c e w =
      let by : (r : Request) → (refusal m r ≡ 0 → Due (effect m r)) → asked c ≡ r → Mine m c.answer = λ r f k.
      (let q : c.answer ≡ (step m r).answer = rw k at e in
      rw q (accepted r f (subst (λ (a : Answer). a.number ≡ 0) q w.accepted) (subst (λ (a : Answer). a.kind ≡ 2) q w.kind))) in
      ⊎_elim (λ k. by _ (by_answer c.a) (asks c k)) (λ k. by _ (by_event c.a) (asks c k)) w.asks

-- an answer reaches nobody but its owner: the caller, current before the call
pub reaches_owner : {beyond counters : List ℕ} {edition : ℕ} {g : Log} {c : Call} → Recorded beyond edition counters (with_call g c) → Brings c
    → Owed g c.answer.buffer (current_after 0 g.calls)
reaches_owner {beyond} {counters} {edition} {g} {c} h w =
    let f = follows_more (laid_over beyond edition counters g.list) g.calls c h.follows in
    let r : Recorded beyond edition counters g = record { accepted = h.accepted; setting = h.setting; follows = f.0 } in
    let k = brought (legal_last r) c f.1 w in
    let i : Range (sum g.list) c.answer.buffer = rw (last_B r) at k.is in
    let t = last_talk r c.answer.buffer i in
    record {
      is = i;
      answered = sym (ap (λ (t : Talk). t.standing) t) ∙ k.answered;
      own = sym (ap (λ (t : Talk). t.owner) t) ∙ k.own ∙ last_current r;
    }

-- What a message or an answer says follows from the log alone: the words that 02 or 03 gives are those that the log's reading leaves said in the buffer.
-- Assumes nothing.
use Prim.Native.Nat.{ℕ, zero, suc}
use native.Mathlib.Omega.{arith}
use mathlib.Core.Bool.{true}
use mathlib.Core.List.{List, [], ◌∷◌}
use mathlib.Core.Logic.{◌⊎◌, ⊎_elim}
use mathlib.Core.Path.{◌≡◌, refl, sym, ap, ap₂, ◌∙◌}
use lib.Dec.{eqb, eqb-suc-zero}
use lib.ListN.{length}
use borrow.Author.Tests.{eq-eqb, eqb-true, eqb-false}
use Rattle.machine.specs.Queue.{Range, head}
use Rattle.machine.specs.Machine.{Machine, Words, message, standing, current}
use Rattle.machine.specs.Request.{Request, request, WaitAnswer, WaitEvent}
use Rattle.machine.specs.Refusal.{outside, refusal}
use Rattle.machine.specs.Step.{Answer, Outcome, effect, judge, step}
use Rattle.machine.specs.Legal.{Legal}
use Rattle.machine.specs.Layout.{sum, laid_over}
use Rattle.machine.specs.Log.{Call, Log, asked, Talk, move}
use Rattle.lists.proofs.Tests.{either, or_false, inside, passes}
use Rattle.lists.proofs.Numbers.{first_in}
use Rattle.laws.proofs.Dispatch.{accepted, step_number}
use Rattle.laws.proofs.Step.{legal_step}
use Rattle.laws.specs.Talk.{talk}
use Rattle.monitor.specs.Promise.{Called}
use Rattle.logs.specs.Follows.{Follows, end, last, Recorded}
use Rattle.logs.specs.Real.{Real}
use Rattle.logs.specs.Said.{utter, hear, words_left}
use Rattle.logs.proofs.LeftAlone.{Shape}
use Rattle.logs.proofs.Reading.{counted, stepped, legal_start, legal_last, last_B}
use Rattle.logs.proofs.Said.{uttered}
use Rattle.logs.proofs.Written.{beyond_of, real_recorded, real_shows}

-- ---- along a log
-- one call, accepted or refused
step_says : {m : Machine} → Legal m → (q : Request) (b : ℕ) → Range m.B b
    → message (step m q).machine b ≡ counted (utter b (talk m b) (message m b) q) (message m b) (step m q).answer
unfolding step
step_says {m} L q b i = go (refusal m q) refl
  where
    go : (n : ℕ) → refusal m q ≡ n
        → message (judge n (effect m q) m).machine b ≡ counted (utter b (talk m b) (message m b) q) (message m b) (judge n (effect m q) m).answer
    go zero e =
        let n : eqb (effect m q).answer.number 0 ≡ true = eq-eqb _ 0 (accepted m q e).number in
        (uttered L q e).says b i ∙ simp n
    go (suc n) e = simp eqb-suc-zero

end_says : {m : Machine} → Legal m → (l : List Call) → Follows m l → (b : ℕ) → Range m.B b → message (end m l) b ≡ hear b (talk m b) (message m b) l
unfolding end hear
end_says L [] f b i = refl
end_says {m} L (c ∷ l) f b i =
    let s = stepped L (asked c) in
    end_says {m = (step m (asked c)).machine} (legal_step L (asked c)) l f.1 b (omega (arith, ap (λ (x : Shape). x.B) s.same_shape))
    ∙ ap₂ (λ (t : Talk) (w : Words). hear b t w l) (s.moves b i ∙ ap (counted (move b (talk m b) (asked c)) (talk m b)) (sym f.0))
    (step_says L (asked c) b i ∙ ap (counted (utter b (talk m b) (message m b) (asked c)) (message m b)) (sym f.0))

-- the table says in each buffer what the log leaves said there
last_says : {beyond counters : List ℕ} {edition : ℕ} {g : Log} → Recorded beyond edition counters g → (b : ℕ) → Range (sum g.list) b
    → message (last beyond edition counters g) b ≡ words_left g b
unfolding laid_over
last_says {g = g} h b i = end_says (legal_start h) g.calls h.follows b i

-- ---- what 02 and 03 give
-- the words of a buffer that there is, which is queued where they are a message, answered where they are an answer
pub record Gives (m : Machine) (r : Answer) : Type 0 where
  pub there : Range m.B r.buffer
  pub words : r.words ≡ message m r.buffer
  pub queued : r.kind ≡ 1 → standing m r.buffer ≡ 1
  pub answered : r.kind ≡ 2 → standing m r.buffer ≡ 3

module _ {m : Machine} (L : Legal m) where
  abbrev Tells : Outcome → Type 0
  Tells o = (o.answer.kind ≡ 0 → ⊥) → Gives m o.answer

  answer_gives : (a : ℕ) → refusal m (WaitAnswer a) ≡ 0 → Tells (effect m (WaitAnswer a))
  unfolding effect refusal
  answer_gives a e =
      let o = or_false {a = outside a m.B} (passes _ (omega arith) e).1.0 in
      either Tells (eqb (standing m a) 3)
      (λ t n. record { there = inside m.B a o.0; words = refl; queued = λ z. absurd (omega (arith, z)); answered = λ z. eqb-true (standing m a) 3 t })
      (λ t n. absurd (n refl))

  event_gives : (d : ℕ) → refusal m (WaitEvent d) ≡ 0 → Tells (effect m (WaitEvent d))
  unfolding effect refusal
  event_gives d e =
      let b = head (m.events (current m)) in
      let some = eqb-false (current m) 0 (passes _ (omega arith) e).0 in
      let r = (L.running.only (current m) (first_in m.running some)).0 in
      either Tells (eqb b 0) (λ t n. absurd (n refl))
      (λ t. (let i = (L.events (current m) r).only b (first_in (m.events (current m)) (eqb-false b 0 t)) in
      either Tells (eqb (standing m b) 1)
      (λ u n. record { there = i.0; words = refl; queued = λ z. eqb-true (standing m b) 1 u; answered = λ z. absurd (omega (arith, z)) })
      (λ u n. record {
        there = i.0;
        words = refl;
        queued = λ z. absurd (omega (arith, z));
        answered = λ z. ⊎_elim (λ q. absurd (eqb-false (standing m b) 1 u q.0)) (λ q. q.0) i.1;
      })))

  -- of the call's number
  asked_answer : {k : ℕ} (a b : ℕ) (ws : Words) (room : ℕ) → k ≡ 2 → refusal m (request k a b ws room) ≡ 0 → Tells (effect m (request k a b ws room))
  unfolding request
  asked_answer a b ws room x = rw x (answer_gives a)

  asked_event : {k : ℕ} (a b : ℕ) (ws : Words) (room : ℕ) → k ≡ 3 → refusal m (request k a b ws room) ≡ 0 → Tells (effect m (request k a b ws room))
  unfolding request
  asked_event a b ws room x = rw x (event_gives a)

-- an accepted answer is the effect's
pub served : (m : Machine) (q : Request) {r : Answer} → r ≡ (step m q).answer → r.number ≡ 0 → (refusal m q ≡ 0) × (r ≡ (effect m q).answer)
unfolding step
served m q d z = let e : refusal m q ≡ 0 = sym (ap (λ (x : Answer). x.number) d ∙ step_number m q) ∙ z in (e, rw e at d)

gives_same : {m : Machine} {r r' : Answer} → r ≡ r' → Gives m r' → Gives m r
gives_same e y = rw e y

-- ---- of a real log
module _ {g : Log} {u : List ℕ} (h : Real g u) where
  -- after it an accepted 02 or 03 that gives something gives what the machine at the log's end has
  pub real_gives : {u' room room' : List ℕ} {k a b : ℕ} {ws : Words} {r : Answer} → Called u u' room room' k a b ws r → (k ≡ 2) ⊎ (k ≡ 3) → r.number ≡ 0
      → (r.kind ≡ 0 → ⊥) → Gives (last (beyond_of h) h.edition h.counters g) r
  real_gives {room = room} {k = k} {a} {b} {ws} c which z n =
      let L = legal_last (real_recorded h) in
      let t = served _ (request k a b ws (length room)) (c.sound _ (real_shows h) L).answer z in
      let y = ⊎_elim (λ x. asked_answer L a b ws (length room) x t.0) (λ x. asked_event L a b ws (length room) x t.0) which in
      gives_same t.1 (y (λ e. n (ap (λ (x : Answer). x.kind) t.1 ∙ e)))

  -- its words are those that the log leaves said in the buffer
  pub log_says : {u' room room' : List ℕ} {k a b : ℕ} {ws : Words} {r : Answer} → Called u u' room room' k a b ws r → (k ≡ 2) ⊎ (k ≡ 3) → r.number ≡ 0
      → (r.kind ≡ 0 → ⊥) → r.words ≡ words_left g r.buffer
  log_says {r = r} c which z n =
      let R = real_recorded h in
      let y = real_gives c which z n in
      y.words ∙ last_says R r.buffer (rw (last_B R) at y.there)

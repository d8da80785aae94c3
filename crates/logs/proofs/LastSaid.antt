-- What the log leaves said in a buffer is what was last sent in it, until it is answered, and then what answered it: so a message's words are those of its
-- send, an answer's those of its answer, and nothing older comes up under a new question. Assumes nothing.
use Prim.Native.Nat.{ℕ}
use native.Mathlib.Omega.{arith}
use mathlib.Core.Bool.{Bool, true, false, ◌&&◌}
use mathlib.Core.List.{List, [], ◌∷◌}
use mathlib.Core.Logic.{◌⊎◌}
use mathlib.Core.Path.{◌≡◌, refl, sym, ap, subst, ◌∙◌}
use lib.Dec.{eqb}
use borrow.Author.Tests.{eqb-true, eq-eqb}
use Rattle.machine.specs.Queue.{if, head, Range}
use Rattle.machine.specs.Machine.{Machine, Words, zeros, standing, current}
use Rattle.machine.specs.Moves.{withdrawn}
use Rattle.machine.specs.Request.{Request, Send, WaitAnswer, WaitEvent, SendAnswer, WaitInterrupt, Start, Stop, Clean, Tick, Interrupt, ListOpen}
use Rattle.machine.specs.Request.{Lower, Raise, Unknown}
use Rattle.machine.specs.Refusal.{among}
use Rattle.machine.specs.Step.{Answer, Outcome, effect, step}
use Rattle.machine.specs.Legal.{Legal}
use Rattle.machine.specs.Layout.{sum, laid_over}
use Rattle.machine.specs.Log.{Call, Log, asked, Talk, talk_of, moved, freed, is_open, names, move, count, read, left}
use Rattle.lists.proofs.Tests.{either, and_true, differ}
use Rattle.laws.proofs.Step.{legal_step}
use Rattle.laws.specs.Talk.{talk}
use Rattle.monitor.specs.Promise.{Called}
use Rattle.logs.specs.Follows.{Follows, last, Recorded}
use Rattle.logs.specs.Real.{Real}
use Rattle.logs.specs.Said.{utter, speak, hear, sent_in, answered_in, last_sent, last_answered, words_left, sent_last, answered_last}
use Rattle.logs.proofs.LeftAlone.{Shape}
use Rattle.logs.proofs.Reading.{counted, stepped, legal_start, last_talk, last_B}
use Rattle.logs.proofs.Hearing.{served, real_gives, log_says}
use Rattle.logs.proofs.Written.{beyond_of, real_recorded}

-- ---- one call
-- what a buffer in the conversation t says is s, what was last sent, or a, what answered it
record Holds (t : Talk) (w s a : Words) : Type 0 where
  sent : (t.standing ≡ 0 → ⊥) → (t.standing ≡ 3 → ⊥) → w ≡ s
  answered : t.standing ≡ 3 → w ≡ a

-- a message that 03 gives was queued
abbrev Sane : ℕ → Talk → Request → Answer → Type 0
Sane b t q r = (d : ℕ) → q ≡ WaitEvent d → names b 1 r ≡ true → t.standing ≡ 1

-- by a test, or several
module _ {t : Talk} {w s a : Words} (h : Holds t w s a) where
  goes_free : (x : Bool) → Holds (if x (freed t) t) (if x zeros w) s a
  goes_free true = record { sent = λ n0 n3. absurd (n0 refl); answered = λ e. absurd (omega (arith, e)) }
  goes_free false = h

  goes_sent : (x : Bool) (ws : Words) (p : ℕ) → Holds (if x (talk_of t.owner p 1 0) t) (if x ws w) (if x ws s) a
  goes_sent true ws p = record { sent = λ n0 n3. refl; answered = λ e. absurd (omega (arith, e)) }
  goes_sent false ws p = h

  goes_held : (x y : Bool) → (x ≡ true → (y ≡ false) × (w ≡ s)) → Holds (if x (moved 2 t) (if y (freed t) t)) (if y zeros w) s a
  goes_held true y g = let (e, f) = g refl in rw e (record { sent = λ n0 n3. f; answered = λ e. absurd (omega (arith, e)) })
  goes_held false y g = goes_free y

  goes_answered : (x y : Bool) (ws : Words) → Holds (if x (moved 3 t) (if y (freed t) t)) (if x ws (if y zeros w)) s (if x ws a)
  goes_answered true y ws = record { sent = λ n0 n3. absurd (n3 refl); answered = λ e. refl }
  goes_answered false y ws = goes_free y

  goes_cleaned : (c d e f : Bool) → (d ≡ true → w ≡ s) → Holds (if c (freed t) (if d (moved 4 t) (if e (moved 3 t) (if f (freed t) t))))
      (if c zeros (if d w (if e withdrawn (if f zeros w)))) s (if c a (if d a (if e withdrawn a)))
  goes_cleaned true d e f g = record { sent = λ n0 n3. absurd (n0 refl); answered = λ k. absurd (omega (arith, k)) }
  goes_cleaned false true e f g = record { sent = λ n0 n3. g refl; answered = λ k. absurd (omega (arith, k)) }
  goes_cleaned false false e f g = goes_answered e f withdrawn

  goes_older : (x : Bool) (n : ℕ) → Holds (if x (talk_of t.owner t.receiver t.standing n) t) w s a
  goes_older true n = record { sent = h.sent; answered = h.answered }
  goes_older false n = h

holds_on : (b : ℕ) (q : Request) (r : Answer) {t : Talk} {w s a : Words} → Sane b t q r → Holds t w s a
    → Holds (move b t q r) (utter b t w q r) (sent_in b s q r) (answered_in b t a q r)
unfolding move utter sent_in answered_in
holds_on b (Send p ws) r sane h = goes_sent h (eqb b r.buffer) ws p
holds_on b (WaitAnswer p) r sane h = goes_free h (names b 2 r)
holds_on b (WaitEvent d) r {t} sane h =
    goes_held h (names b 1 r) (names b 2 r)
    (λ e. (let k = eqb-true r.kind 1 (and_true {a = eqb r.kind 1} e).0 in
    (rw k refl, h.sent (λ z. omega (arith, sane d refl e)) (λ z. omega (arith, sane d refl e)))))
holds_on b (SendAnswer p ws) r {t} sane h = goes_answered h (eqb b p && eqb t.standing 2) (eqb b p && eqb t.standing 4) ws
holds_on b (Clean p) r {t} sane h =
    goes_cleaned h (eqb t.owner p && among t.standing (1 ∷ 3 ∷ [])) (eqb t.owner p && eqb t.standing 2)
    (eqb t.receiver p && among t.standing (1 ∷ 2 ∷ [])) (eqb t.receiver p && eqb t.standing 4)
    (λ e. (let k = eqb-true t.standing 2 (and_true {a = eqb t.owner p} e).1 in h.sent (λ z. omega arith) (λ z. omega arith)))
holds_on b Tick r {t} sane h = goes_older h (is_open t) _
holds_on b (WaitInterrupt p d) r sane h = h
holds_on b (Start p) r sane h = h
holds_on b (Stop p) r sane h = h
holds_on b (Interrupt p) r sane h = h
holds_on b (ListOpen p room) r sane h = h
holds_on b (Lower p) r sane h = h
holds_on b (Raise p) r sane h = h
holds_on b Unknown r sane h = h

-- ---- along a log
event_sane : (m : Machine) (b d : ℕ) → names b 1 (effect m (WaitEvent d)).answer ≡ true → standing m b ≡ 1
unfolding effect
event_sane m b d =
    let c = head (m.events (current m)) in
    let C : Outcome → Type 0 = λ o. (names b 1 o.answer ≡ true → standing m b ≡ 1) in
    either C (eqb c 0) (λ t e. absurd (differ (sym e)))
    (λ t. either C (eqb (standing m c) 1) (λ u e. ap (standing m) (eqb-true b c e) ∙ eqb-true (standing m c) 1 u) (λ u e. absurd (differ (sym e))))

sane : (m : Machine) (c : Call) → c.answer ≡ (step m (asked c)).answer → c.answer.number ≡ 0 → (b : ℕ) → Sane b (talk m b) (asked c) c.answer
sane m c f z b d e n =
    let here = subst (λ (r : Answer). names b 1 r ≡ true) (served m (asked c) f z).1 n in
    event_sane m b d (subst (λ (q : Request). names b 1 (effect m q).answer ≡ true) e here)

-- "Only accepted calls count"
count_holds : (b : ℕ) (c : Call) {t : Talk} {w s a : Words} → (c.answer.number ≡ 0 → Sane b t (asked c) c.answer) → Holds t w s a
    → Holds (count b t c) (speak b t w c) (if (eqb c.answer.number 0) (sent_in b s (asked c) c.answer) s)
    (if (eqb c.answer.number 0) (answered_in b t a (asked c) c.answer) a)
count_holds b c {t} {w} {s} {a} k h = go (eqb c.answer.number 0) refl
  where
    go : (x : Bool) → eqb c.answer.number 0 ≡ x → Holds (if x (move b t (asked c) c.answer) t) (if x (utter b t w (asked c) c.answer) w)
        (if x (sent_in b s (asked c) c.answer) s) (if x (answered_in b t a (asked c) c.answer) a)
    go true e = holds_on b (asked c) c.answer (k (eqb-true _ 0 e)) h
    go false e = h

read_holds : {m : Machine} → Legal m → (l : List Call) → Follows m l → (b : ℕ) → Range m.B b → {t : Talk} {w s a : Words} → talk m b ≡ t → Holds t w s a
    → Holds (read b t l) (hear b t w l) (last_sent b s l) (last_answered b t a l)
unfolding read hear last_sent last_answered
read_holds L [] f b i e h = h
read_holds {m} L (c ∷ l) f b i {t} e h =
    let s = stepped L (asked c) in
    let next = s.moves b i ∙ ap (counted (move b (talk m b) (asked c)) (talk m b)) (sym f.0) ∙ ap (λ (x : Talk). count b x c) e in
    read_holds {m = (step m (asked c)).machine} (legal_step L (asked c)) l f.1 b (omega (arith, ap (λ (x : Shape). x.B) s.same_shape)) next
    (count_holds b c (λ z. subst (λ (x : Talk). Sane b x (asked c) c.answer) e (sane m c f.0 z b)) h)

left_holds : {beyond counters : List ℕ} {edition : ℕ} {g : Log} → Recorded beyond edition counters g → (b : ℕ) → Range (sum g.list) b
    → Holds (left g b) (words_left g b) (sent_last g b) (answered_last g b)
unfolding laid_over
left_holds {g = g} h b i =
    read_holds (legal_start h) g.calls h.follows b i refl (record { sent = λ n0 n3. absurd (n0 refl); answered = λ e. absurd (omega (arith, e)) })

-- ---- of a real log
module _ {g : Log} {u : List ℕ} (h : Real g u) {u' room room' : List ℕ} {k a b : ℕ} {ws : Words} {r : Answer} (c : Called u u' room room' k a b ws r)
    (which : (k ≡ 2) ⊎ (k ≡ 3)) (accepted : r.number ≡ 0) where
  -- what it leaves of the buffer given
  given : (n : r.kind ≡ 0 → ⊥) → Holds (left g r.buffer) (words_left g r.buffer) (sent_last g r.buffer) (answered_last g r.buffer)
      × ((left g r.buffer).standing ≡ standing (last (beyond_of h) h.edition h.counters g) r.buffer)
  given n =
      let R = real_recorded h in
      let i : Range (sum g.list) r.buffer = rw (last_B R) at (real_gives h c which accepted n).there in
      (left_holds R r.buffer i, sym (ap (λ (t : Talk). t.standing) (last_talk R r.buffer i)))

  -- a message's words are those of the last send in its buffer
  pub message_says : r.kind ≡ 1 → r.words ≡ sent_last g r.buffer
  message_says e =
      let n : r.kind ≡ 0 → ⊥ = λ z. omega arith in
      let y = given n in
      let s = y.1 ∙ (real_gives h c which accepted n).queued e in
      log_says h c which accepted n ∙ y.0.sent (λ z. omega (arith, s, z)) (λ z. omega (arith, s, z))

  -- an answer's words are those of the call that answered it
  pub answer_says : r.kind ≡ 2 → r.words ≡ answered_last g r.buffer
  answer_says e =
      let n : r.kind ≡ 0 → ⊥ = λ z. omega arith in
      let y = given n in
      log_says h c which accepted n ∙ y.0.answered (y.1 ∙ (real_gives h c which accepted n).answered e)

-- ---- nothing older comes up
-- behind an accepted send answering b what the buffer said before plays no part, nor who had it
pub said_anew : (b : ℕ) (t : Talk) (w : Words) (c : Call) (l : List Call) {a : ℕ} {ws : Words} → asked c ≡ Send a ws
    → c.answer.number ≡ 0 → c.answer.buffer ≡ b → hear b t w (c ∷ l) ≡ hear b (talk_of t.owner a 1 0) ws l
unfolding hear utter move
said_anew b t w c l e z k = rw (z, e, k) (simp (eq-eqb b b refl))

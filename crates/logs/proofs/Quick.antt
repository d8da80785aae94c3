-- The quick entry is honest: after any real log a chain of calls leaves the same words, rooms and answers whichever of them it makes, and the log that the
-- chain writes is real; and what a quick call asks is had after a layout, a call by either entry, and the check that answers 1. Assumes nothing.
use mathlib.Core.List.{List, [], ◌∷◌, ◌++◌}
use mathlib.Core.Path.{◌≡◌, refl, sym, ap, subst, ◌∙◌}
use Prim.Native.Nat.{ℕ}
use Rattle.machine.specs.Step.{Answer}
use Rattle.machine.specs.Sound.{Sound}
use Rattle.machine.specs.Log.{Call, Log}
use Rattle.laws.proofs.Decoded.{shows_sound}
use Rattle.monitor.specs.Promise.{LaidOut, SoundTold}
use Rattle.monitor.proofs.Determined.{called_determines, called_sound, laid_out_sound, told_sound}
use Rattle.logs.specs.Real.{Chain, none, more, Real}
use Rattle.logs.specs.Quick.{Question, Outcome, Answered, Made, Mixed, left, outcomes, written}
use Rattle.logs.proofs.Reading.{legal_last}
use Rattle.logs.proofs.Written.{real_recorded, real_shows}

-- ---- what a quick call asks
-- after an accepted layout,
pub sound_after_layout : {list counters t u : List ℕ} {edition : ℕ} {r : Answer} → LaidOut list edition counters t u r → r.number ≡ 0 → Sound u
sound_after_layout c e = laid_out_sound c (sym (ap (λ (x : Answer). x.number) c.answer) ∙ e)

-- after a call by either entry on words that were sound, accepted or refused,
pub sound_after_call : {t : List ℕ} {q : Question} → Sound t → (k : Made t q) → Sound k.left
sound_after_call S k = called_sound (k.promised (λ _. S)) S

-- after the check that answers 1,
pub sound_after_check : {t : List ℕ} {r : ℕ} → SoundTold t r → r ≡ 1 → Sound t
sound_after_check = told_sound

-- and at the end of any real log
pub sound_after_log : {g : Log} {u : List ℕ} → Real g u → Sound u
sound_after_log h = shows_sound (real_shows h) (legal_last (real_recorded h))

-- ---- the same words, rooms and answers
-- two chains of the same questions on the same sound words, each with quick calls where it likes
same : (qs : List Question) {t t' : List ℕ} → t ≡ t' → Sound t → (c : Mixed t qs) (d : Mixed t' qs)
    → (left t qs c ≡ left t' qs d) × (outcomes t qs c ≡ outcomes t' qs d)
unfolding left outcomes
same [] e S c d = (e, refl)
same (q ∷ qs) {t} {t'} e S c d =
    let x = c.0.promised (λ _. S) in
    let y = d.0.promised (λ _. subst Sound e S) in
    let y' : Answered t d.0.left q d.0.outcome = subst (λ (w : List ℕ). Answered w d.0.left q d.0.outcome) (sym e) y in
    let f = called_determines x y' in
    let rest = same qs f.1 (called_sound x S) c.1 d.1 in
    (rest.0, both (outcome_is f.0 f.2) rest.1)
  where
    outcome_is : {o o' : Outcome} → o.answer ≡ o'.answer → o.room ≡ o'.room → o ≡ o'
    outcome_is {o} {o'} a r =
        ap (λ (z : Answer). record { answer = z; room = o.room }) a ∙ ap (λ (z : List ℕ). record { answer = o'.answer; room = z }) r

    both : {o o' : Outcome} {l l' : List Outcome} → o ≡ o' → l ≡ l' → (o ∷ l) ≡ (o' ∷ l')
    both {o} {o'} {l} a b = ap (λ (z : Outcome). z ∷ l) a ∙ ap (λ (z : List Outcome). o' ∷ z) b

-- after a real log; d may be the chain whose calls are all made by `call`
pub quick_same : {g : Log} {t : List ℕ} → Real g t → (qs : List Question) (c d : Mixed t qs)
    → (left t qs c ≡ left t qs d) × (outcomes t qs c ≡ outcomes t qs d)
quick_same h qs c d = same qs refl (sound_after_log h) c d

-- ---- the log that a chain writes is real
chain : (qs : List Question) {t : List ℕ} → Sound t → (c : Mixed t qs) → Chain t (left t qs c) (written t qs c)
unfolding left written
chain [] S c = none
chain (q ∷ qs) S c =
    more (record { room = q.room; room' = c.0.outcome.room; lent = refl; called = c.0.promised (λ _. S) })
    (chain qs (sound_after_call S c.0) c.1)

behind : {t u v : List ℕ} {l k : List Call} → Chain t u l → Chain u v k → Chain t v (l ++ k)
behind none d = d
behind (more m c) d = more m (behind c d)

-- so that all that is proved of real logs holds of it
pub quick_real : {g : Log} {t : List ℕ} → Real g t → (qs : List Question) (c : Mixed t qs)
    → Real (record { list = g.list; calls = g.calls ++ written t qs c }) (left t qs c)
quick_real h qs c =
    record {
      list = h.list;
      edition = h.edition;
      counters = h.counters;
      lent = h.lent;
      laid = h.laid;
      answer = h.answer;
      names = h.names;
      layout = h.layout;
      accepted = h.accepted;
      chain = behind h.chain (chain qs (sound_after_log h) c);
    }

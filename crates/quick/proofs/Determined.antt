-- A quick call's promise determines everything, and on a record of fifteen words it is the promise of `monitor_trap`: so every theorem about that entry
-- holds of this one. Assumes nothing.
use mathlib.Core.List.{List, [], ◌∷◌}
use mathlib.Core.Path.{◌≡◌, refl, sym, ap, subst, ◌∙◌}
use Prim.Native.Nat.{ℕ, zero, suc}
use native.Mathlib.Omega.{arith}
use lib.ListN.{length, get_or}
use lib.Seq.{sets}
use Rattle.machine.specs.Step.{Answer}
use Rattle.monitor.specs.Promise.{Called}
use Rattle.monitor.proofs.Determined.{called_determines}
use Rattle.trap.specs.Trapped.{words, answer, answered, registers, Trapped}
use Rattle.quick.specs.Quick.{answer_place, answer_words, QuickTrapped}

-- table, room and the words of the record
pub quick_determines : {t u s v u' v' before after after' : List ℕ} → QuickTrapped t u s v before after → QuickTrapped t u' s v' before after'
    → (u ≡ u') × (v ≡ v') × (after ≡ after')
quick_determines {before = before} one other =
    let d = called_determines one.called other.called in
    (d.1, d.2, one.stored ∙ ap (λ (r : Answer). sets before answer_place (answer_words r)) d.0 ∙ sym other.stored)

-- ---- a record of fifteen words
-- n words of a list from place i on, each read off
unfoldable read_off : ℕ → ℕ → List ℕ → List ℕ
read_off zero i l = []
read_off (suc n) i l = get_or l i 0 ∷ read_off n (suc i) l

behind : (n i x : ℕ) (l : List ℕ) → read_off n (suc i) (x ∷ l) ≡ read_off n i l
unfolding read_off
behind zero i x l = refl
behind (suc n) i x l = ap (λ (r : List ℕ). get_or l i 0 ∷ r) (behind n (suc i) x l)

-- all of them are the list
whole : (n : ℕ) (l : List ℕ) → length l ≡ n → read_off n 0 l ≡ l
unfolding read_off
whole zero [] e = refl
whole zero (x ∷ l) e = absurd (omega arith)
whole (suc n) [] e = absurd (omega arith)
whole (suc n) (x ∷ l) e = ap (λ (r : List ℕ). x ∷ r) (behind n 0 x l ∙ whole n l (omega arith))

-- the answer stored in its places is the record answered
stores : (l : List ℕ) (r : Answer) → length l ≡ 15 → registers (sets l answer_place (answer_words r)) ≡ answered (registers l) r
unfolding read_off
stores l r e = subst (λ (k : List ℕ). registers (sets k answer_place (answer_words r)) ≡ answered (registers k) r) (whole 15 l e) refl

pub quick_traps : {t u s v before after : List ℕ} → length before ≡ 15 → QuickTrapped t u s v before after
    → Trapped t u s v (registers before) (registers after)
quick_traps {t} {u} {s} {v} {before} {after} n c =
    let e : registers after ≡ answered (registers before) c.answer = ap registers c.stored ∙ stores before c.answer n in
    let same : c.answer ≡ answer (registers after) = sym (ap answer e) in
    record {
      stays = e ∙ ap (answered (registers before)) same;
      called = subst (Called t u s v (registers before).call (registers before).a (registers before).b (words (registers before))) same c.called;
    }

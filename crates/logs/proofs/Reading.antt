-- The machine at a log's end is what the log leaves: owner, receiver, standing and age of each buffer, and the current process. Assumes nothing.
use Prim.Native.Nat.{ℕ, zero, suc}
use native.Mathlib.Omega.{arith}
use mathlib.Core.Bool.{true}
use mathlib.Core.List.{List, [], ◌∷◌}
use mathlib.Core.Path.{◌≡◌, refl, sym, ap, ◌∙◌}
use lib.Dec.{eqb, eqb-suc-zero}
use lib.ListN.{length}
use borrow.Author.Tests.{eq-eqb}
use Rattle.machine.specs.Queue.{if, Range}
use Rattle.machine.specs.Machine.{Machine, edition as edition-of, semaphores, owns, current}
use Rattle.machine.specs.Request.{Request}
use Rattle.machine.specs.Refusal.{refusal}
use Rattle.machine.specs.Step.{Answer, Outcome, effect, judge, step}
use Rattle.machine.specs.Legal.{Legal}
use Rattle.machine.specs.Layout.{sum, laid_over}
use Rattle.machine.specs.Log.{Call, Log, asked, Talk, move, read, left, given_to, current_after}
use Rattle.laws.proofs.Laid.{legal_laid, tells_layout, tells_setting}
use Rattle.laws.proofs.Step.{legal_step}
use Rattle.logs.specs.Follows.{Follows, end, last, Recorded}
use Rattle.laws.specs.Talk.{talk}
use Rattle.logs.proofs.LeftAlone.{Shape, shape}
use Rattle.laws.proofs.Dispatch.{accepted}
use Rattle.logs.proofs.Calls.{told}

-- "Only accepted calls count": what a step makes of a value that accepted answers change
abbrev pub counted : {A : Type 0} → (Answer → A) → A → Answer → A
counted f now r = if (eqb r.number 0) (f r) now

-- one call, accepted or refused
pub record Stepped (m : Machine) (r : Request) (o : Outcome) : Type 0 where
  pub same_shape : shape o.machine ≡ shape m
  pub moves : (b : ℕ) → Range m.B b → talk o.machine b ≡ counted (move b (talk m b) r) (talk m b) o.answer
  pub current_is : current o.machine ≡ counted (λ a. a.current) (current m) o.answer

pub stepped : {m : Machine} → Legal m → (r : Request) → Stepped m r (step m r)
unfolding step
stepped {m} L r = go (refusal m r) refl
  where
    go : (n : ℕ) → refusal m r ≡ n → Stepped m r (judge n (effect m r) m)
    go zero e =
        let t = told L r e in
        let a = accepted m r e in
        let n : eqb (effect m r).answer.number 0 ≡ true = eq-eqb _ 0 a.number in
        record {
          same_shape = t.same_shape;
          moves = λ k i. t.moves k i ∙ simp n;
          current_is = sym a.afterwards ∙ simp n;
        }
    go (suc n) e = record { same_shape = refl; moves = λ k i. simp eqb-suc-zero; current_is = simp eqb-suc-zero }

-- ---- a run of calls
pub legal_end : {m : Machine} → Legal m → (l : List Call) → Legal (end m l)
unfolding end
legal_end L [] = L
legal_end {m = m} L (c ∷ l) = legal_end {m = (step m (asked c)).machine} (legal_step L (asked c)) l

end_shape : {m : Machine} → Legal m → (l : List Call) → shape (end m l) ≡ shape m
unfolding end
end_shape L [] = refl
end_shape {m = m} L (c ∷ l) = end_shape {m = (step m (asked c)).machine} (legal_step L (asked c)) l ∙ (stepped L (asked c)).same_shape

end_talk : {m : Machine} → Legal m → (l : List Call) → Follows m l → (b : ℕ) → Range m.B b → talk (end m l) b ≡ read b (talk m b) l
unfolding end read
end_talk L [] f b i = refl
end_talk {m} L (c ∷ l) f b i =
    let s = stepped L (asked c) in
    end_talk {m = (step m (asked c)).machine} (legal_step L (asked c)) l f.1 b (omega (arith, ap (λ (x : Shape). x.B) s.same_shape))
    ∙ ap (λ (t : Talk). read b t l) (s.moves b i ∙ ap (counted (move b (talk m b) (asked c)) (talk m b)) (sym f.0))

end_current : {m : Machine} → Legal m → (l : List Call) → Follows m l → current (end m l) ≡ current_after (current m) l
unfolding end current_after
end_current L [] f = refl
end_current {m} L (c ∷ l) f =
    end_current {m = (step m (asked c)).machine} (legal_step L (asked c)) l f.1
    ∙ ap (λ (n : ℕ). current_after n l) ((stepped L (asked c)).current_is ∙ ap (counted (λ a. a.current) (current m)) (sym f.0))

-- ---- a log
module _ {beyond counters : List ℕ} {edition : ℕ} {g : Log} (h : Recorded beyond edition counters g) where
  pub legal_start : Legal (laid_over beyond edition counters g.list)
  legal_start = legal_laid beyond edition counters ((tells_setting edition counters).holds h.setting) g.list ((tells_layout g.list).holds h.accepted)

  pub legal_last : Legal (last beyond edition counters g)
  legal_last = legal_end legal_start g.calls

  last_shape : shape (last beyond edition counters g) ≡ shape (laid_over beyond edition counters g.list)
  last_shape = end_shape legal_start g.calls

  pub last_P : (last beyond edition counters g).P ≡ length g.list
  unfolding laid_over
  last_P = ap (λ (x : Shape). x.P) last_shape

  pub last_edition : edition-of (last beyond edition counters g) ≡ edition
  unfolding laid_over
  last_edition = ap (λ (x : Shape). x.edition) last_shape

  pub last_semaphores : semaphores (last beyond edition counters g) ≡ length counters
  unfolding laid_over
  last_semaphores = ap (λ (x : Shape). x.semaphores) last_shape

  pub last_B : (last beyond edition counters g).B ≡ sum g.list
  unfolding laid_over
  last_B = ap (λ (x : Shape). x.B) last_shape

  pub last_owns : (p : ℕ) → owns (last beyond edition counters g) p ≡ given_to g p
  unfolding laid_over
  last_owns p = ap (λ (x : Shape). x.counts p) last_shape

  -- the table holds of each buffer what the log leaves
  pub last_talk : (b : ℕ) → Range (sum g.list) b → talk (last beyond edition counters g) b ≡ left g b
  unfolding laid_over
  last_talk b i = end_talk legal_start g.calls h.follows b i

  -- and its current process is that of the last accepted answer
  pub last_current : current (last beyond edition counters g) ≡ current_after 0 g.calls
  unfolding laid_over
  last_current = end_current legal_start g.calls h.follows

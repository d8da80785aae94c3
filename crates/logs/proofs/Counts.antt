-- The kinds of 08, 09 and 0A are tied to what happened: what the promises of the calls say of them. Assumes nothing.
use mathlib.Core.Bool.{Bool, true, false, not, ◌&&◌, ◌||◌}
use mathlib.Core.List.{List, [], ◌∷◌}
use mathlib.Core.Path.{◌≡◌, refl, sym, ap, ◌∙◌}
use Prim.Native.Nat.{ℕ, zero, suc, ◌≤◌, ◌<◌}
use native.Mathlib.Omega.{arith}
use lib.ListN.{length}
use lib.Dec.{eqb}
use borrow.Author.Tests.{eqb-true, le-ltb}
use Rattle.machine.specs.Queue.{if, Range, keep}
use Rattle.machine.specs.Machine.{Machine, Words, standing, waiter, buffers}
use Rattle.machine.specs.Request.{request, Clean}
use Rattle.machine.specs.Refusal.{among, first, refusal}
use Rattle.machine.specs.Step.{Answer, Outcome, changes, cleaned, effect, step}
use Rattle.machine.specs.Legal.{Legal}
use Rattle.machine.specs.Words.{Shows}
use Rattle.machine.specs.Log.{Talk, freed, moved, move}
use Rattle.laws.specs.Talk.{talk}
use Rattle.lists.proofs.Tests.{differ, either, outside_false}
use Rattle.lists.proofs.Numbers.{keep_same}
use Rattle.laws.proofs.Unique.{one_machine}
use Rattle.laws.proofs.Step.{legal_step}
use Rattle.monitor.specs.Promise.{Called}
use Rattle.monitor.proofs.ShutOut.{clean_counts}
use Rattle.logs.proofs.LeftAlone.{Shape}
use Rattle.logs.proofs.Calls.{told, apart}

-- ---- 08
-- what the nine lines make of a conversation whose owner, or receiver, is cleaned
abbrev after : Bool → Bool → ℕ → Talk → Talk
after o r s t =
    if (o && among s (1 ∷ 3 ∷ [])) (freed t)
    (if (o && eqb s 2) (moved 4 t) (if (r && among s (1 ∷ 2 ∷ [])) (moved 3 t) (if (r && eqb s 4) (freed t) t)))

-- the standing differs afterwards exactly where the definition counts it
differs : (o r : Bool) (s : ℕ) (t : Talk) → t.standing ≡ s → s ≤ 4 → (o && (r && eqb s 4)) ≡ false
    → ((o && among s (1 ∷ 2 ∷ 3 ∷ [])) || (r && among s (1 ∷ 2 ∷ 4 ∷ []))) ≡ not (eqb s (after o r s t).standing)
differs true true zero t e l n = rw e
differs true true (suc zero) t e l n = refl
differs true true (suc (suc zero)) t e l n = refl
differs true true (suc (suc (suc zero))) t e l n = refl
differs true true (suc (suc (suc (suc zero)))) t e l n = absurd (differ n)
differs true false zero t e l n = rw e
differs true false (suc zero) t e l n = refl
differs true false (suc (suc zero)) t e l n = refl
differs true false (suc (suc (suc zero))) t e l n = refl
differs true false (suc (suc (suc (suc zero)))) t e l n = rw e
differs false true zero t e l n = rw e
differs false true (suc zero) t e l n = refl
differs false true (suc (suc zero)) t e l n = refl
differs false true (suc (suc (suc zero))) t e l n = rw e
differs false true (suc (suc (suc (suc zero)))) t e l n = refl
differs false false zero t e l n = rw e
differs false false (suc zero) t e l n = rw e
differs false false (suc (suc zero)) t e l n = rw e
differs false false (suc (suc (suc zero))) t e l n = rw e
differs false false (suc (suc (suc (suc zero)))) t e l n = rw e
differs o r (suc (suc (suc (suc (suc s))))) t e l n = absurd (omega arith)

module _ {m : Machine} (L : Legal m) {p : ℕ} (i : Range m.P p) where
  accepted : refusal m (Clean p) ≡ 0
  unfolding refusal first
  accepted = rw (outside_false m.P p i)

  as_many : (cleaned p m).B ≡ m.B
  unfolding effect
  as_many = ap (λ (x : Shape). x.B) (told L (Clean p) accepted).same_shape

  -- cleaning p changes b's standing exactly where the definition counts b
  pub changes_exactly : (b : ℕ) → Range m.B b → changes m p b ≡ not (eqb (standing m b) (standing (cleaned p m) b))
  unfolding effect move
  changes_exactly b j =
      differs (eqb (m.buffer b 2) p) (eqb (m.buffer b 3) p) (standing m b) (talk m b) refl (L.buffer b j).standings (apart m L p b j)
      ∙ ap (λ (t : Talk). not (eqb (standing m b) t.standing)) (sym ((told L (Clean p) accepted).moves b j))

module _ {t u s v : List ℕ} {a b : ℕ} {ws : Words} {r : Answer} {m : Machine} (w : Shows t m) (L : Legal m) where
  -- the kind of an accepted 08 is the number of buffers whose standing differs before and after, whatever legal machine the words show then
  pub clean_kind : Range m.P a → Called t u s v 8 a b ws r → {n : Machine} → Shows u n → Legal n
      → r.kind ≡ length (keep (λ k. not (eqb (standing m k) (standing n k))) (buffers m))
  unfolding request step refusal first effect
  clean_kind i c {n} x N =
      let y : Shows u (cleaned a m) = rw (outside_false m.P a i) at (c.sound m w L).words in
      let g = one_machine x y N (rw (outside_false m.P a i) at (legal_step L (Clean a))) in
      clean_counts w L i c
      ∙ ap length (keep_same _ _ 1 m.B (λ k l h. changes_exactly L i k (omega arith)
      ∙ ap (λ (z : ℕ). not (eqb (standing m k) z)) (g.buffer k 4 (omega (arith, g.B, as_many L i)) (omega arith) (omega arith))))

  -- that of 0A the number of the device's waiter, 0 for none
  pub interrupt_kind : a < 64 → Called t u s v 10 a b ws r → r.kind ≡ waiter m a
  unfolding request step refusal first effect
  interrupt_kind h c =
      ap (λ (x : Answer). x.kind) (rw (le-ltb 63 a (omega arith)) at (c.sound m w L).answer)
      ∙ either (λ (o : Outcome). o.answer.kind ≡ waiter m a) (eqb (waiter m a) 0) (λ e. sym (eqb-true (waiter m a) 0 e)) (λ e. refl)

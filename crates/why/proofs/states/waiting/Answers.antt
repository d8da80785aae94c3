-- `waiting` meets its contract. Assumes nothing.
use mathlib.Core.Bool.{Bool}
use mathlib.Core.Path.{◌≡◌, sym, ap, ◌∙◌}
use Prim.Native.Nat.{ℕ, ◌+◌, ◌-◌, ◌≤◌}
use native.Mathlib.Omega.{arith}
use borrow.Author.Tests.{eq-eqb, ne_eqb}
use lib.ListN.{length}
use lib.Dec.{eqb}
use Rattle.machine.specs.Queue.{keep, from}
use Rattle.machine.specs.Sound.{P_of}
use Rattle.lists.proofs.Numbers.{count_zero}
use Rattle.why.specs.QueueParts.{waiting_queues}
use Rattle.why.proofs.Found.{count_next, count_stays}
use Rattle.why.proofs.states.waiting.Goals as goal
use Rattle.why.proofs.states.waiting.Goals.{then-home-s, else-home-s}

pub loop-p-init : goal.loop-p-init
loop-p-init c = (omega arith, (omega arith, count_zero _))

-- p waits for s, or doesn't
yes : (f : ℕ → Bool) (p k x s : ℕ) {m count : ℕ} → 1 ≤ p → m ≡ p → count ≡ length (keep f (from 1 (p - 1))) → k ≡ count + 1 → f p ≡ eqb x s → x ≡ s
    → k ≡ length (keep f (from 1 m))
yes f p k x s l e i g t z = g ∙ ap (λ (n : ℕ). n + 1) i ∙ sym (count_next p l e f (t ∙ eq-eqb x s z))

no : (f : ℕ → Bool) (p k x s : ℕ) {m count : ℕ} → 1 ≤ p → m ≡ p → count ≡ length (keep f (from 1 (p - 1))) → k ≡ count → f p ≡ eqb x s → (x ≡ s → ⊥)
    → k ≡ length (keep f (from 1 m))
no f p k x s l e i g t z = g ∙ i ∙ sym (count_stays p l e f (t ∙ ne_eqb x s z))

pub loop-p-preserved : goal.loop-p-preserved
loop-p-preserved c =
    let e : c.loop-p.p + 1 - 1 ≡ c.loop-p.p = omega arith in
    let i = c.loop-p.invariant.1.1 in
    let f = λ (x : ℕ). eqb ((waiting_queues c.args.words.now).home x) c.args.s in
    let t = ap (λ (n : ℕ). eqb n c.args.s) (sym c.home.ensures) in
    elim c.if-home-s.branch [
      | then-home-s w ↦ (omega arith, (omega arith, yes f c.loop-p.p _ _ _ (omega arith) e i w.count-is t w.if-home-s.true))
      | else-home-s w ↦ (omega arith, (omega arith, no f c.loop-p.p _ _ _ (omega arith) e i w.count-is t w.if-home-s.false))
    ]

pub returns : goal.returns
returns c = let e : c.loop-p.p - 1 ≡ P_of c.args.words.now = omega (arith, c.word-processes.ensures.0) in (rw e at c.loop-p.invariant.1.1, omega arith)

pub returns-after-home-s : goal.returns-after-home-s
returns-after-home-s c =
    let e : P_of c.args.words.now ≡ c.loop-p.p = omega (arith, c.word-processes.ensures.0) in
    let i = c.loop-p.invariant.1.1 in
    let f = λ (x : ℕ). eqb ((waiting_queues c.args.words.now).home x) c.args.s in
    let t = ap (λ (n : ℕ). eqb n c.args.s) (sym c.home.ensures) in
    elim c.if-home-s.branch [
      | then-home-s w ↦ (yes f c.loop-p.p _ _ _ (omega arith) e i w.count-is t w.if-home-s.true, omega arith)
      | else-home-s w ↦ (no f c.loop-p.p _ _ _ (omega arith) e i w.count-is t w.if-home-s.false, omega arith)
    ]

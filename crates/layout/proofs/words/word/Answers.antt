-- `word` meets its contract: header, processes, buffers and semaphores, as the laws on a table laid out have them. Assumes nothing.
use Prim.Native.Nat.{ℕ, suc, ◌+◌, ◌-◌, ◌*◌, ◌/◌, ◌≤◌}
use native.Mathlib.Omega.{arith}
use mathlib.Core.List.{List, ◌∷◌}
use mathlib.Core.Path.{◌≡◌, refl, sym, ap, subst, ◌∙◌}
use lib.ListN.{length, get_or}
use Rattle.machine.specs.Layout.{sum, entries}
use Rattle.laws.proofs.LaidWords.{laid_processes, laid_buffers, laid_edition, laid_semaphores, laid_header, laid_process, laid_buffer, laid_owner}
use Rattle.laws.proofs.LaidWords.{laid_counter, laid_semaphore}
use Rattle.layout.proofs.words.word.Goals as goal
use Rattle.layout.proofs.words.word.Goals.{Start}

pub returns-in-0 : goal.returns-in-0
returns-in-0 c beyond = rw c.in-0.is (c.requires.0.processes ∙ sym (laid_processes beyond _ _ _))

pub returns-in-1 : goal.returns-in-1
returns-in-1 c beyond = rw c.in-1.is (c.requires.0.buffers ∙ sym (laid_buffers beyond _ _ _))

pub returns-in-4 : goal.returns-in-4
returns-in-4 c beyond = rw c.in-4.is (sym (laid_edition beyond _ _ _))

pub returns-in-5 : goal.returns-in-5
returns-in-5 c beyond = rw c.in-5.is (sym (laid_semaphores beyond _ _ _))

pub returns-then-i-lt-WORDS : goal.returns-then-i-lt-WORDS
returns-then-i-lt-WORDS c beyond =
    let h = c.in_default in
    sym (laid_header beyond _ _ _ _ (omega arith) (omega arith) (omega arith) (omega arith))

pub returns-then-i-n : goal.returns-then-i-n
returns-then-i-n c beyond =
    c.process_word.ensures ∙ sym (laid_process beyond _ _ (entries c.args.list.now) c.args.i (omega arith) (omega arith))

-- j, counted with the entries' own number of processes, and of buffers
module _ (s : Start) where
  in_buffers : s.args.i - 62 - 16 * length (entries s.args.list.now) ≡ s.args.i - 62 - 16 * s.args.n
  in_buffers = ap (λ (x : ℕ). s.args.i - 62 - 16 * x) (sym s.requires.0.processes)

  in_semaphores : s.args.i - 68 - 16 * length (entries s.args.list.now) - 10 * sum (entries s.args.list.now)
      ≡ s.args.i - 68 - 16 * s.args.n - 10 * s.args.k
  in_semaphores = rw (sym s.requires.0.processes, sym s.requires.0.buffers)

pub returns-then-j-ne-OWNER : goal.returns-then-j-ne-OWNER
returns-then-j-ne-OWNER c beyond =
    sym (laid_buffer beyond _ _ (entries c.args.list.now) c.args.i _ (in_buffers (goal.at.returns-then-j-ne-OWNER c).Start) (omega arith)
    (omega arith) c.if-j-ne-OWNER.true)

pub returns-then-i-n-2 : goal.returns-then-i-n-2
returns-then-i-n-2 c beyond =
    c.owner_of.ensures
    ∙ sym (laid_owner beyond _ _ (entries c.args.list.now) c.args.i _ (in_buffers (goal.at.returns-then-i-n-2 c).Start) (omega arith)
    (omega arith) c.if-j-ne-OWNER.false)

pub returns-then-j-ne-COUNTER : goal.returns-then-j-ne-COUNTER
returns-then-j-ne-COUNTER c beyond =
    sym (laid_semaphore beyond _ _ (entries c.args.list.now) c.args.i _ (in_semaphores (goal.at.returns-then-j-ne-COUNTER c).Start) (omega arith)
    (omega arith) c.if-j-ne-COUNTER.true)

-- there is a semaphore j / 4
module _ (i n k : ℕ) (h : 72 + 16 * n + 10 * k ≤ i) where
  first_one : 1 ≤ (i - 68 - 16 * n - 10 * k) / 4
  first_one = omega arith

-- counters are numbered from 1
numbered : (l : List ℕ) (s : ℕ) → 1 ≤ s → get_or l (s - 1) 0 ≡ get_or (0 ∷ l) s 0
numbered l s h = let e : s ≡ suc (s - 1) = omega arith in subst (λ (k : ℕ). get_or l (s - 1) 0 ≡ get_or (0 ∷ l) k 0) (sym e) refl

pub returns : goal.returns
returns c beyond =
    numbered c.args.counters.now _ (first_one _ _ _ c.if-i-n-2.false)
    ∙ sym
    (laid_counter beyond _ _ (entries c.args.list.now) c.args.i _ (in_semaphores (goal.at.returns c).Start) (omega arith)
    (omega arith) c.if-j-ne-COUNTER.false)

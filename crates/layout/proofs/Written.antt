-- A table of which the first words are those of the table laid out: as it is begun, goes on word by word, and is whole. Assumes nothing.
use Prim.Native.Nat.{ℕ, ◌+◌, ◌≤◌, ◌<◌}
use native.Mathlib.Omega.{arith}
use native.Mathlib.Numerals.{add-one}
use mathlib.Core.List.{List, ◌++◌}
use mathlib.Core.Path.{◌≡◌, ap, ◌∙◌}
use lib.ListN.{length, get_or, set, drop}
use lib.Seq.{paste, paste-zero, paste-suc, length-paste, take_all}
use Rattle.machine.specs.Machine.{Machine}
use Rattle.machine.specs.Words.{size, image, Shows}
use Rattle.machine.specs.Layout.{entries, sum, laid_over}
use Rattle.laws.proofs.Unique.{image_length, image_shows}
use Rattle.layout.specs.Accepted.{Accepted}

-- the table laid out by the list ws in that edition, with these counters and the words of t beyond
abbrev pub over : List ℕ → List ℕ → ℕ → List ℕ → Machine
over t ws edition counters = laid_over (drop (size (length (entries ws)) (sum (entries ws)) (length counters)) t) edition counters (entries ws)

-- t is t₀ with the first i words laid out by ws, n processes and k buffers
pub record Written (ws : List ℕ) (edition : ℕ) (counters : List ℕ) (t₀ : List ℕ) (n k : ℕ) (t : List ℕ) (i : ℕ) : Type 0 where
  pub accepted : Accepted ws n k
  pub semaphores : length counters ≤ 16
  pub room : size n k (length counters) ≤ length t₀
  pub within : i ≤ size n k (length counters)
  pub words : t ≡ paste t₀ 0 (image (over t₀ ws edition counters)) i

over_length : {ws : List ℕ} {n k : ℕ} (edition : ℕ) (counters t : List ℕ) → Accepted ws n k
    → length (image (over t ws edition counters)) ≡ size n k (length counters)
unfolding laid_over
over_length {ws} edition counters t a = image_length (over t ws edition counters) ∙ omega (arith, a.processes, a.buffers)

pub begun : {ws counters t : List ℕ} {edition n k : ℕ} → Accepted ws n k → length counters ≤ 16 → size n k (length counters) ≤ length t
    → Written ws edition counters t n k t 0
begun {ws} {counters} {t} {edition} a s r =
    record { accepted = a; semaphores = s; room = r; within = omega arith; words = paste-zero t 0 (image (over t ws edition counters)) }

module _ {ws counters t₀ : List ℕ} {edition n k : ℕ} {t : List ℕ} {i : ℕ} (w : Written ws edition counters t₀ n k t i) where
  pub as_long : length t ≡ length t₀
  as_long = ap length w.words
      ∙ length-paste t₀ 0 (image (over t₀ ws edition counters)) i (omega (arith, w.room, w.within))
      (omega (arith, w.within, over_length edition counters t₀ w.accepted))

  pub goes_on : {x : ℕ} → i < size n k (length counters) → x ≡ get_or (image (over t₀ ws edition counters)) i 0
      → Written ws edition counters t₀ n k (set t i x) (i + 1)
  goes_on h e =
      let z : i ≡ 0 + i = omega arith in
      record {
        accepted = w.accepted;
        semaphores = w.semaphores;
        room = w.room;
        within = omega arith;
        words = rw (e, w.words, add-one)
            (ap (λ (j : ℕ). set (paste t₀ 0 (image (over t₀ ws edition counters)) i) j (get_or (image (over t₀ ws edition counters)) i 0)) z
            ∙ paste-suc t₀ 0 (image (over t₀ ws edition counters)) i 0 (omega (arith, w.room)) (omega (arith, over_length edition counters t₀ w.accepted)));
      }

  -- with the words beyond as they were
  pub all_written : size n k (length counters) ≤ i → Shows t (over t₀ ws edition counters)
  unfolding laid_over
  all_written h =
      let N = size (length (entries ws)) (sum (entries ws)) (length counters) in
      let e : 0 + i ≡ N = omega (arith, w.within, w.accepted.processes, w.accepted.buffers) in
      let d : t ≡ image (over t₀ ws edition counters) ++ drop N t₀ = w.words
      ∙ rw (e, take_all i (image (over t₀ ws edition counters)) (omega (arith, over_length edition counters t₀ w.accepted))) in
      rw d (image_shows (over t₀ ws edition counters))

-- The whole lines that two logs begin with: blocks that are the same, bytes that are, and back to the last line's end. Assumes nothing.
use mathlib.Core.Bool.{Bool, true}
use mathlib.Core.List.{List}
use mathlib.Core.Path.{◌≡◌}
use Prim.Native.Nat.{ℕ, ◌+◌, ◌-◌, ◌≤◌, ◌<◌}
use native.Mathlib.Omega.{arith}
use lib.Dec.{leb}
use lib.ListN.{length, get_or}
use borrow.Author.Tests.{leb-true, leb-false}
use Rattle.compare.specs.Common.{Shares}
use Rattle.compare.specs.Promise.{SameFrom}
use Rattle.compare.proofs.Tests.{tested}

-- the byte at i is the same in both
abbrev Same : List ℕ → List ℕ → ℕ → Type 0
Same one two i = get_or one i 0 ≡ get_or two i 0

-- ---- the bytes from the start
module _ {one two : List ℕ} {k : ℕ} (s : Shares one two k) where
  in_block : {t : Bool} → SameFrom one two k 240 t → t ≡ true → (i : ℕ) → k ≤ i → i < k + 240 → Same one two i
  in_block b e i g h = let z : k + (i - k) ≡ i = omega arith in rw z at (b.same e (i - k) (omega arith))

  -- the next block is in both logs
  pub shares_block : {n : ℕ} → n ≡ k + 240 → n ≤ length one → n ≤ length two → {t : Bool} → SameFrom one two k 240 t → t ≡ true → Shares one two n
  shares_block z g h b e =
      record {
        in_one = g;
        in_two = h;
        same = λ i l. tested {C = Same one two i} (leb k i) (λ t. in_block b e i (leb-true k i t) (omega arith)) (λ t. s.same i (leb-false k i t));
      }

-- ---- back to the end of a line
-- none of the bytes from i to `at` ends one
pub record NoEnd (log : List ℕ) (at i : ℕ) : Type 0 where
  pub before : i ≤ at
  pub none : (k : ℕ) → i ≤ k → k < at → get_or log k 0 ≡ 0x0A → ⊥

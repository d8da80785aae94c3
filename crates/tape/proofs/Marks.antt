-- The rule of the table of marks, by one test that computes over all 256 entries. Assumes nothing.
use mathlib.Core.Bool.{Bool, true, ◌&&◌, and-eq-true_iff}
use mathlib.Core.List.{List, [], ◌∷◌}
use mathlib.Core.Path.{◌≡◌}
use Prim.Native.Nat.{ℕ, zero, suc, ◌+◌, ◌<◌}
use native.Mathlib.Omega.{arith}
use lib.Dec.{eqb}
use lib.ListN.{length, get_or}
use borrow.Author.Tests.{eqb-true}
use Rattle.tape.specs.Parity.{odd}
use Rattle.tape.specs.Promise.{Marks}

-- each entry from place i on is the digit of its place's parity
unfoldable pub right : ℕ → List ℕ → Bool
right i [] = true
right i (m ∷ l) = eqb m (0x30 + odd i) && right (suc i) l

right_at : (l : List ℕ) (i k : ℕ) → right i l ≡ true → k < length l → get_or l k 0 ≡ 0x30 + odd (i + k)
unfolding right
right_at [] i k e h = absurd (omega arith)
right_at (m ∷ l) i zero e h =
    let z : i + 0 ≡ i = omega arith in
    rw z (eqb-true m (0x30 + odd i) ((and-eq-true_iff (eqb m (0x30 + odd i)) (right (suc i) l)).0 e).0)
right_at (m ∷ l) i (suc k) e h =
    let z : i + suc k ≡ suc i + k = omega arith in
    rw z (right_at l (suc i) k ((and-eq-true_iff (eqb m (0x30 + odd i)) (right (suc i) l)).0 e).1 (omega arith))

-- a table of 256 marks that passes the test has the mark of each byte
pub rule : (marks : List ℕ) → length marks ≡ 256 → right 0 marks ≡ true → Marks marks
rule marks n e = record { right = λ byte h. (let z : 0 + byte ≡ byte = omega arith in rw z at (right_at marks 0 byte e (omega arith))) }

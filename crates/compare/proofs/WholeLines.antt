-- Bytes whose last one ends a line, at the front of a log: their lines, counted by their line ends. Assumes nothing.
use mathlib.Core.List.{List, [], ◌∷◌, ◌++◌}
use mathlib.Core.Path.{◌≡◌, refl, ap, ◌∙◌}
use Prim.Native.Nat.{ℕ, suc, ◌≤◌}
use native.Mathlib.Omega.{arith}
use lib.Dec.{eqb}
use lib.ListN.{length, take, length-append}
use lib.Seq.{take_at}
use Rattle.text.specs.Cut.{cut}
use Rattle.compare.specs.Differing.{lines, differing, after, size}
use Rattle.compare.specs.Promise.{ends}
use Rattle.compare.proofs.Tests.{tested}
use Rattle.compare.proofs.Numbers.{same_refl}

-- the bytes p and a line end
abbrev pub ended : List ℕ → List ℕ
ended p = p ++ (0x0A ∷ [])

-- ---- behind them come the lines of what follows
cut_front : (begun p r : List ℕ) → cut begun (p ++ 0x0A ∷ r) ≡ cut begun (ended p) ++ cut [] r
unfolding cut
cut_front begun [] r = refl
cut_front begun (c ∷ p) r =
    tested {C = cut begun (c ∷ (p ++ 0x0A ∷ r)) ≡ cut begun (c ∷ ended p) ++ cut [] r} (eqb c 0x0A)
    (λ t. rw t (ap (λ (l : List (List ℕ)). begun ∷ l) (cut_front [] p r)))
    (λ t. rw t (cut_front (begun ++ (c ∷ [])) p r))

cut_size : (begun p : List ℕ) → length (cut begun (ended p)) ≡ suc (ends p)
unfolding cut ends
cut_size begun [] = refl
cut_size begun (c ∷ p) =
    tested {C = length (cut begun (c ∷ ended p)) ≡ suc (ends (c ∷ p))} (eqb c 0x0A)
    (λ t. rw t (omega (arith, cut_size [] p)))
    (λ t. rw t (omega (arith, cut_size (begun ++ (c ∷ [])) p)))

pub front_ends : (p : List ℕ) → ends (ended p) ≡ suc (ends p)
unfolding ends
front_ends [] = refl
front_ends (c ∷ p) = omega (arith, front_ends p)

pub ends_few : (l : List ℕ) → ends l ≤ length l
unfolding ends
ends_few [] = omega arith
ends_few (c ∷ l) = tested {C = ends (c ∷ l) ≤ length (c ∷ l)} (eqb c 0x0A) (λ t. rw t (omega (arith, ends_few l))) (λ t. rw t (omega (arith, ends_few l)))

pub front_size : (p : List ℕ) → size (ended p) ≡ suc (ends p)
front_size p = cut_size [] p

module _ (p r : List ℕ) where
  -- the log's first lines are theirs
  pub front_lines : take (suc (ends p)) (lines (p ++ 0x0A ∷ r)) ≡ lines (ended p)
  front_lines = rw (cut_front [] p r) (take_at (lines (ended p)) (lines r) (suc (ends p)) (front_size p))

  pub front_in : suc (ends p) ≤ size (p ++ 0x0A ∷ r)
  front_in = omega (arith, ap length (cut_front [] p r), length-append (lines (ended p)) (lines r), front_size p)

-- and behind as many lines are the bytes that follow
pub front_after : (p r : List ℕ) → after (suc (ends p)) (p ++ 0x0A ∷ r) ≡ r
unfolding after ends
front_after [] r = refl
front_after (c ∷ p) r =
    tested {C = after (suc (ends (c ∷ p))) (c ∷ (p ++ 0x0A ∷ r)) ≡ r} (eqb c 0x0A)
    (λ t. let e : ends (c ∷ p) ≡ suc (ends p) = rw t (omega arith) in ap (λ (n : ℕ). after (suc n) (c ∷ (p ++ 0x0A ∷ r))) e ∙ rw t (front_after p r))
    (λ t. let e : ends (c ∷ p) ≡ ends p = rw t (omega arith) in ap (λ (n : ℕ). after (suc n) (c ∷ (p ++ 0x0A ∷ r))) e ∙ rw t (front_after p r))

-- ---- lines that are the same don't differ
pub differing_none : (n : ℕ) (a : List (List ℕ)) → differing n a a ≡ []
unfolding differing
differing_none n [] = refl
differing_none n (x ∷ a) = rw (same_refl x) (differing_none (suc n) a)

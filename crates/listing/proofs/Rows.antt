-- The rows of a listing, one buffer more at a time, and the room they go into. Assumes nothing.
use Prim.Native.Nat.{ℕ, zero, suc, ◌+◌, ◌≤◌}
use native.Mathlib.Omega.{arith}
use mathlib.Core.Bool.{Bool, true, false}
use mathlib.Core.List.{List, [], ◌∷◌, ◌++◌, append-nil}
use mathlib.Core.Path.{◌≡◌, refl, sym, ap, ◌∙◌}
use lib.ListN.{length, set, length-append}
use lib.Seq.{sets, sets-eq}
use Rattle.machine.specs.Queue.{if, from, keep}
use Rattle.machine.specs.Machine.{Machine}
use Rattle.machine.specs.Refusal.{is_shown}
use Rattle.machine.specs.Step.{rows, row}
use Rattle.lists.proofs.Numbers.{keep_yes, keep_no, count_rises}
use Rattle.lists.proofs.Tests.{either}
use Rattle.laws.proofs.Dispatch.{rows_length}
use Rattle.answers.specs.Promise.{with_listing}
use Rattle.listing.specs.Rows.{rows_of, RoomFor}

-- no more are kept than there are
pub keep_few : (f : ℕ → Bool) (a n : ℕ) → length (keep f (from a n)) ≤ n
unfolding keep from
keep_few f a zero = omega arith
keep_few f a (suc n) =
    let h = keep_few f (suc a) n in
    either (λ (l : List ℕ). length l ≤ suc n) (f a) (λ t. omega arith) (λ t. omega arith)

-- five stores one behind the other
pub five_sets : (l : List ℕ) (at x₀ x₁ x₂ x₃ x₄ : ℕ)
    → set (set (set (set (set l at x₀) (at + 1) x₁) (at + 2) x₂) (at + 3) x₃) (at + 4) x₄ ≡ sets l at (x₀ ∷ x₁ ∷ x₂ ∷ x₃ ∷ x₄ ∷ [])
five_sets l at x₀ x₁ x₂ x₃ x₄ =
    let e₁ : at + 1 ≡ suc at = omega arith in
    let e₂ : at + 2 ≡ suc (suc at) = omega arith in
    let e₃ : at + 3 ≡ suc (suc (suc at)) = omega arith in
    let e₄ : at + 4 ≡ suc (suc (suc (suc at))) = omega arith in
    rw (e₁, e₂, e₃, e₄)

rows_append : (m : Machine) (l r : List ℕ) → rows m (l ++ r) ≡ rows m l ++ rows m r
unfolding rows
rows_append m [] r = refl
rows_append m (b ∷ l) r = ap (row m b) (rows_append m l r)

-- the rows of the first b buffers
abbrev pub rows_to : Machine → ℕ → ℕ → List ℕ
rows_to m a b = rows m (keep (is_shown m a) (from 1 b))

pub rows_more : (m : Machine) (a b : ℕ) → rows_to m a (b + 1) ≡ rows_to m a b ++ rows_of m a (b + 1)
unfolding rows
rows_more m a b = go (is_shown m a (b + 1)) refl
  where
    go : (t : Bool) → is_shown m a (b + 1) ≡ t → rows_to m a (b + 1) ≡ rows_to m a b ++ (if t (row m (b + 1) []) [])
    go true e = ap (rows m) (keep_yes (is_shown m a) b e) ∙ rows_append m (keep (is_shown m a) (from 1 b)) ((b + 1) ∷ [])
    go false e = ap (rows m) (keep_no (is_shown m a) b e) ∙ sym (append-nil (rows_to m a b))

-- rows put behind those in the room
sets_behind : (x : ℕ) (r l : List ℕ) (i : ℕ) → sets (x ∷ l) (suc i) r ≡ x ∷ sets l i r
sets_behind x [] l i = refl
sets_behind x (y ∷ r) l i = sets_behind x r (set l i y) (suc i)

pub listed_more : (l r s : List ℕ) → length l + length r ≤ length s → sets (with_listing l s) (length l) r ≡ with_listing (l ++ r) s
listed_more [] r s h = let e : 0 + length r ≡ length r = omega arith in rw e at (sets-eq r s 0 (omega arith))
listed_more (x ∷ l) r [] h = absurd (omega arith)
listed_more (x ∷ l) r (y ∷ s) h = sets_behind x r (with_listing l s) (length l) ∙ ap (λ (w : List ℕ). x ∷ w) (listed_more l r s (omega arith))

-- b's row, and none
module _ (m : Machine) (a b : ℕ) where
  pub row_shown : is_shown m a b ≡ true → rows_of m a b ≡ row m b []
  row_shown e = ap (λ (t : Bool). if t (row m b []) []) e

  pub row_hidden : is_shown m a b ≡ false → rows_of m a b ≡ []
  row_hidden e = ap (λ (t : Bool). if t (row m b []) []) e

-- where there is room for all rows, there is for those of the first buffers
pub rows_fit : (m : Machine) (a b n : ℕ) → b + 1 ≤ m.B → RoomFor a n m → length (rows_to m a b) + length (rows_of m a (b + 1)) ≤ n
rows_fit m a b n h r =
    let e = ap length (rows_more m a b) ∙ length-append (rows_to m a b) (rows_of m a (b + 1)) in
    let k = count_rises (is_shown m a) (b + 1) m.B h in
    omega (arith, rows_length m (keep (is_shown m a) (from 1 (b + 1))))

pub rows_none : (m : Machine) (a : ℕ) → rows_to m a 0 ≡ []
unfolding keep from rows
rows_none m a = refl

-- the room s has the rows of the first b buffers, the next goes to `at`, and behind them is what s₀ had
pub record Filled (m : Machine) (a b at : ℕ) (s s₀ : List ℕ) : Type 0 where
  pub next : at ≡ length (rows_to m a b)
  pub rows : s ≡ with_listing (rows_to m a b) s₀

pub filled_none : (m : Machine) (a : ℕ) (s : List ℕ) → Filled m a 0 0 s s
filled_none m a s = record { next = rw rows_none; rows = rw rows_none }

-- one buffer more
pub filled_more : {m : Machine} {a b at at' : ℕ} {s s' s₀ : List ℕ} → b + 1 ≤ m.B → RoomFor a (length s₀) m → Filled m a b at s s₀
    → at' ≡ at + length (rows_of m a (b + 1)) → s' ≡ sets s at (rows_of m a (b + 1)) → Filled m a (b + 1) at' s' s₀
filled_more {m} {a} {b} {at} {at'} {s} {s'} {s₀} h r f e k =
    record {
      next = rw rows_more (e ∙ ap (λ (n : ℕ). n + length (rows_of m a (b + 1))) f.next ∙ sym (length-append (rows_to m a b) (rows_of m a (b + 1))));
      rows = rw rows_more (k ∙ rw (f.next, f.rows) (listed_more (rows_to m a b) (rows_of m a (b + 1)) s₀ (rows_fit m a b (length s₀) h r)));
    }

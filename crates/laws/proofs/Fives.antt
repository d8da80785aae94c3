-- The list of a layout, five words a process: its entries by its words, and what refusal 11 asks of its length. Assumes nothing.
use Prim.Native.Nat.{ℕ, zero, suc, ◌+◌, ◌-◌, ◌*◌, ◌/◌, ◌%◌, ◌≤◌, ◌<◌}
use native.Mathlib.Omega.{arith}
use native.Mathlib.Numerals.{add-one}
use mathlib.Core.Bool.{Bool, true, false, ◌&&◌}
use mathlib.Core.List.{List, [], ◌∷◌}
use mathlib.Core.Path.{◌≡◌, refl, sym, ap, ◌∙◌}
use lib.ListN.{length, get_or, take, drop, length-take, length-drop}
use lib.Seq.{take_all, get_or-drop, drop-drop}
use lib.Dec.{eqb}
use borrow.Author.Tests.{eqb-true, le-leb, lt-leb}
use Rattle.machine.specs.Layout.{Entry, sum, blank, entry, owner_of, entries, fives, each, unlike, apart, layout_ok}
use Rattle.lists.proofs.Tests.{tested}
use Rattle.laws.proofs.Laid.{owner_here, owner_later}

-- the entry of the five words from k on
abbrev pub entry_from : List ℕ → ℕ → Entry
entry_from ws k =
    record { priority = get_or ws k 0; owns = get_or ws (k + 1) 0; name₀ = get_or ws (k + 2) 0; name₁ = get_or ws (k + 3) 0; name₂ = get_or ws (k + 4) 0 }

-- fewer than five words are no entry
pub no_entries : (ws : List ℕ) → length ws < 5 → entries ws ≡ []
unfolding entries
no_entries [] h = refl
no_entries (p ∷ []) h = refl
no_entries (p ∷ n ∷ []) h = refl
no_entries (p ∷ n ∷ x ∷ []) h = refl
no_entries (p ∷ n ∷ x ∷ y ∷ []) h = refl
no_entries (p ∷ n ∷ x ∷ y ∷ z ∷ l) h = absurd (omega arith)

-- five words are the first entry, and what follows them gives the others
first_entry : (ws : List ℕ) → 5 ≤ length ws → entries ws ≡ entry_from ws 0 ∷ entries (drop 5 ws)
unfolding entries
first_entry [] h = absurd (omega arith)
first_entry (p ∷ []) h = absurd (omega arith)
first_entry (p ∷ n ∷ []) h = absurd (omega arith)
first_entry (p ∷ n ∷ x ∷ []) h = absurd (omega arith)
first_entry (p ∷ n ∷ x ∷ y ∷ []) h = absurd (omega arith)
first_entry (p ∷ n ∷ x ∷ y ∷ z ∷ l) h = refl

-- the words behind the first five
abbrev pub rest : List ℕ → List ℕ
rest ws = take (length ws - 5) (drop 5 ws)

pub rest_length : (ws : List ℕ) → length (rest ws) ≡ length ws - 5
rest_length ws = simp (length-take, length-drop) (omega arith)

pub more_entries : (ws : List ℕ) → 5 ≤ length ws → entries ws ≡ entry_from ws 0 ∷ entries (rest ws)
more_entries ws h = rw (take_all (length ws - 5) (drop 5 ws) (simp length-drop (omega arith))) (first_entry ws h)

-- ---- what the definitions say of a list too short for an entry, and of one with a first entry
module _ (ws : List ℕ) (h : length ws < 5) where
  pub sum_none : 0 ≡ sum (entries ws)
  unfolding sum
  sum_none = rw (no_entries ws h)

  pub each_none : (f : Entry → Bool) → true ≡ each f (entries ws)
  unfolding each
  each_none f = rw (no_entries ws h)

  pub apart_none : true ≡ apart (entries ws)
  unfolding apart
  apart_none = rw (no_entries ws h)

  pub owner_none : (p b : ℕ) → 0 ≡ owner_of p (entries ws) b
  unfolding owner_of
  owner_none p b = rw (no_entries ws h)

module _ (ws : List ℕ) (h : 5 ≤ length ws) where
  pub sum_more : {r : ℕ} → r ≡ sum (entries (rest ws)) → get_or ws 1 0 + r ≡ sum (entries ws)
  unfolding sum
  sum_more e = rw (more_entries ws h, e)

  pub each_more : (f : Entry → Bool) {t r : Bool} → t ≡ f (entry_from ws 0) → r ≡ each f (entries (rest ws)) → (t && r) ≡ each f (entries ws)
  unfolding each
  each_more f d e = rw (more_entries ws h, d, e)

  pub apart_more : {t r : Bool} → t ≡ each (unlike (get_or ws 2 0) (get_or ws 3 0) (get_or ws 4 0)) (entries (rest ws)) → r ≡ apart (entries (rest ws))
      → (t && r) ≡ apart (entries ws)
  unfolding apart
  apart_more d e = rw (more_entries ws h, d, e)

  pub owner_front : (p b : ℕ) → b < get_or ws 1 0 → p ≡ owner_of p (entries ws) b
  owner_front p b u = rw (more_entries ws h) (sym (owner_here p (entry_from ws 0) (entries (rest ws)) b u))

  pub owner_more : (p b : ℕ) {r : ℕ} → get_or ws 1 0 ≤ b → r ≡ owner_of (p + 1) (entries (rest ws)) (b - get_or ws 1 0) → r ≡ owner_of p (entries ws) b
  owner_more p b u e =
      rw (more_entries ws h) ((rw add-one at e) ∙ sym (owner_later p (entry_from ws 0) (entries (rest ws)) b (b - get_or ws 1 0) (omega arith)))

-- ---- its length
pub fives_length : (ws : List ℕ) → fives ws ≡ eqb (length ws % 5) 0
unfolding fives
fives_length [] = refl
fives_length (p ∷ []) = refl
fives_length (p ∷ n ∷ []) = refl
fives_length (p ∷ n ∷ x ∷ []) = refl
fives_length (p ∷ n ∷ x ∷ y ∷ []) = refl
fives_length (p ∷ n ∷ x ∷ y ∷ z ∷ l) =
    let e : length l % 5 ≡ suc (suc (suc (suc (suc (length l))))) % 5 = omega arith in fives_length l ∙ ap (λ (k : ℕ). eqb k 0) e

pub entries_length : (ws : List ℕ) → length (entries ws) ≡ length ws / 5
unfolding entries
entries_length [] = refl
entries_length (p ∷ []) = refl
entries_length (p ∷ n ∷ []) = refl
entries_length (p ∷ n ∷ x ∷ []) = refl
entries_length (p ∷ n ∷ x ∷ y ∷ []) = refl
entries_length (p ∷ n ∷ x ∷ y ∷ z ∷ l) = omega (arith, entries_length l)

-- ---- the entry of process p stands in the five words from 5 (p - 1) on
dropped : (ws : List ℕ) (k : ℕ) → entry_from (drop k ws) 0 ≡ entry_from ws k
dropped ws k = let e : k + 0 ≡ k = omega arith in simp (get_or-drop, e)

entry_after : (ws : List ℕ) (i : ℕ) → 5 * i + 5 ≤ length ws → get_or (entries ws) i blank ≡ entry_from (drop (5 * i) ws) 0
entry_after ws zero h = rw (first_entry ws (omega arith))
entry_after ws (suc i) h =
    let e : 5 + 5 * i ≡ 5 * suc i = omega arith in
    rw (first_entry ws (omega arith)) (entry_after (drop 5 ws) i (simp length-drop (omega arith)) ∙ simp (drop-drop, e))

pub entry_words : (ws : List ℕ) (p : ℕ) → 1 ≤ p → 5 * p ≤ length ws → entry (entries ws) p ≡ entry_from ws (5 * (p - 1))
entry_words ws zero l h = absurd (omega arith)
entry_words ws (suc i) l h = let e : suc i - 1 ≡ i = omega arith in rw e (entry_after ws i (omega arith) ∙ dropped ws (5 * i))

-- over 160 words are not in fives, or over 32 processes
pub list_too_long : (ws : List ℕ) → 160 < length ws → false ≡ (fives ws && layout_ok (entries ws))
list_too_long ws h =
    rw (fives_length ws, entries_length ws)
    (tested (eqb (length ws % 5) 0)
    (λ t. let d = eqb-true (length ws % 5) 0 t in rw (t, le-leb 1 (length ws / 5) (omega arith), lt-leb (length ws / 5) 32 (omega arith)))
    (λ t. rw t))

-- One lookup more: where the entry stands, and what its word does. Assumes nothing.
use mathlib.Core.Bool.{false}
use mathlib.Core.List.{List, [], ◌∷◌}
use mathlib.Core.Option.{none, some}
use mathlib.Core.Path.{◌≡◌, refl, sym, ap, ◌∙◌}
use Prim.Native.Nat.{ℕ, zero, suc, ◌+◌, ◌-◌, ◌%◌, ◌≤◌, ◌<◌}
use native.Mathlib.Omega.{arith}
use lib.Dec.{ltb}
use lib.IntN.{ℤ, pos, ◌+ℤ◌, ◌-ℤ◌}
use lib.ListN.{length, get_or, get_elem?}
use borrow.Author.Tests.{eq-eqb, ne_eqb, ltb-true, ltb-false}
use borrow.Table.Steps.{cases}
use Rattle.tape.specs.Parity.{unwanted, checked, treated}
use Rattle.tape.specs.Character.{Met, Delivers, Refused, class, value, move, settled, entry, look_up, converted, character}
use Rattle.tape.specs.Promise.{whole, Based, Placed, Near, Sees, Converts}
use Rattle.std.specs.Prelude.{Result}
use Rattle.tape.specs.declared.character.Seen.{Seen}
use Rattle.tape.specs.declared.numbers.Refusal.{Refusal}
use Rattle.tape.proofs.Bases.{whole_pos, whole_neg, whole_up, whole_down}

-- ---- the place of an entry
elem_some : (l : List ℕ) (i : ℕ) → i < length l → get_elem? l i ≡ some (get_or l i 0)
elem_some [] i h = absurd (omega arith)
elem_some (x ∷ l) zero h = refl
elem_some (x ∷ l) (suc i) h = elem_some l i (omega arith)

elem_none : (l : List ℕ) (i : ℕ) → length l ≤ i → get_elem? l i ≡ none
elem_none [] i h = refl
elem_none (x ∷ l) zero h = absurd (omega arith)
elem_none (x ∷ l) (suc i) h = elem_none l i (omega arith)

module _ (base c : ℕ) (b : Based base) (h : c < 256) where
  here : (base + c) % 4294967296 < 65536 → base + c ≡ (base + c) % 4294967296 + 4294967296
  here l = omega arith

  pub placed : Placed base c ((base + c) % 4294967296)
  placed = record {
    below = λ l. sym (here l);
    there = λ t e l. let at : base + c - 4294967296 ≡ (base + c) % 4294967296 = omega arith in
        rw (whole_up base c, whole_pos (base + c) (omega arith), at) (elem_some t ((base + c) % 4294967296) l);
    missing = λ t e l. cases (ltb (base + c) 4294967296)
        (λ u. rw (whole_up base c, whole_neg (base + c) (ltb-true (base + c) 4294967296 u)))
        (λ u. let k = ltb-false (base + c) 4294967296 u in
        let at : base + c - 4294967296 ≡ (base + c) % 4294967296 = omega arith in
        rw (whole_up base c, whole_pos (base + c) k, at) (elem_none t ((base + c) % 4294967296) l));
  }

-- ---- shifts
module _ (base v : ℕ) {n : ℕ} (e : n ≡ move v) (near : Near base) (some : 1 ≤ n) (few : n ≤ 256) where
  pub shifted_down : (whole (base - n) ≡ whole base -ℤ pos (move v)) × Based (base - n)
  shifted_down =
      let z : n ≡ suc (n - 1) = omega arith in
      let d : whole (base - n) ≡ whole base -ℤ pos n = rw z (sym (whole_down base (n - 1) (omega arith))) in
      (rw (← e) d, record { low = omega arith; high = omega arith })

  pub shifted_up : (whole (base + n) ≡ whole base +ℤ pos (move v)) × Based (base + n)
  shifted_up = (rw (← e) (sym (whole_up base n)), record { low = omega arith; high = omega arith })

-- ---- one lookup more
module _ (k : ℕ) (table : List ℕ) (z : ℤ) (c : ℕ) where
  pub look_misses : entry table (z +ℤ pos c) ≡ none → look_up (suc k) table z c ≡ Refused 17
  unfolding look_up
  look_misses e = rw e

  look_delivers : (w : ℕ) → entry table (z +ℤ pos c) ≡ some w → w < 256 → look_up (suc k) table z c ≡ Delivers false (value w) z
  unfolding look_up settled
  look_delivers w e h = let n : class w ≡ 0 = omega arith in rw (e, n)

  look_settles : (w : ℕ) → entry table (z +ℤ pos c) ≡ some w → (class w ≡ 129 → ⊥) → (class w ≡ 130 → ⊥)
      → look_up (suc k) table z c ≡ settled (class w) (value w) z
  unfolding look_up
  look_settles w e d u = rw (e, ne_eqb (class w) 129 d, ne_eqb (class w) 130 u)

  look_down : (w : ℕ) → entry table (z +ℤ pos c) ≡ some w → class w ≡ 129 → look_up (suc k) table z c ≡ look_up k table (z -ℤ pos (move (value w))) c
  unfolding look_up
  look_down w e d = rw (e, eq-eqb (class w) 129 d)

  look_further : (w : ℕ) → entry table (z +ℤ pos c) ≡ some w → class w ≡ 130 → look_up (suc k) table z c ≡ look_up k table (z +ℤ pos (move (value w))) c
  unfolding look_up
  look_further w e u = rw (e, ne_eqb (class w) 129 (λ d. omega arith), eq-eqb (class w) 130 u)

-- one pass of the loop, with the place found
module _ (table : List ℕ) (k base c i : ℕ) {left : ℕ} {m : Met} (n : length table ≤ 65536) (h : left ≡ suc k)
    (e : m ≡ look_up left table (whole base) c) (p : Placed base c i) where
  one_more : m ≡ look_up (suc k) table (whole base) c
  one_more = e ∙ ap (λ (n : ℕ). look_up n table (whole base) c) h

  pub step_misses : length table ≤ i → Refused 17 ≡ m
  step_misses l = sym (one_more ∙ look_misses k table (whole base) c (p.missing table n l))

  module _ {v : ℕ} (l : i < length table) (f : v ≡ value (get_or table i 0)) where
    pub step_delivers : get_or table i 0 < 256 → Delivers false v (whole base) ≡ m
    step_delivers t = rw f (sym (one_more ∙ look_delivers k table (whole base) c (get_or table i 0) (p.there table n l) t))

    pub step_settles : (class (get_or table i 0) ≡ 129 → ⊥) → (class (get_or table i 0) ≡ 130 → ⊥) → settled (class (get_or table i 0)) v (whole base) ≡ m
    step_settles d u = rw f (sym (one_more ∙ look_settles k table (whole base) c (get_or table i 0) (p.there table n l) d u))

    pub step_down : (r : ℕ) → class (get_or table i 0) ≡ 129 → whole r ≡ whole base -ℤ pos (move v) → m ≡ look_up k table (whole r) c
    step_down r d s = one_more ∙ look_down k table (whole base) c (get_or table i 0) (p.there table n l) d ∙ rw (s, f)

    pub step_up : (r : ℕ) → class (get_or table i 0) ≡ 130 → whole r ≡ whole base +ℤ pos (move v) → m ≡ look_up k table (whole r) c
    step_up r u s = one_more ∙ look_further k table (whole base) c (get_or table i 0) (p.there table n l) u ∙ rw (s, f)

pub look_ends : (table : List ℕ) (z : ℤ) (c : ℕ) {left : ℕ} {m : Met} → left ≡ 0 → m ≡ look_up left table z c → Refused 16 ≡ m
unfolding look_up
look_ends table z c h e = sym (e ∙ ap (λ (n : ℕ). look_up n table z c) h)

-- ---- one byte of the tape, by a table that has words and in a mode that converts
converted_some : (table : List ℕ) (z : ℤ) (c : ℕ) → 0 < length table → converted table z c ≡ look_up 8 table z c
converted_some [] z c n = absurd (omega arith)
converted_some (w ∷ table) z c n = refl

module _ (mode : ℕ) (table : List ℕ) (z : ℤ) (byte : ℕ) where
  converts : 0 < length table → (mode ≡ 1 → ⊥) → look_up 8 table z (checked (unwanted mode) byte) ≡ character mode table z byte
  unfolding character treated
  converts n m = rw (ne_eqb mode 1 m) (sym (converted_some table z (checked (unwanted mode) byte) n))

  -- what is seen of the byte where its mark is checked is seen of it in the mode that doesn't want that mark
  pub sees_converted : {mark base : ℕ} {marks : List ℕ} {seen : Result Seen Refusal} → Converts marks mode table base
      → ((parity : ℕ) → mark ≡ 0x30 + parity → Sees (look_up 8 table z (checked parity byte)) seen) → mark ≡ 0x30 + unwanted mode
      → Sees (character mode table z byte) seen
  sees_converted h f e = rw (converts h.some h.checks) at (f (unwanted mode) e)

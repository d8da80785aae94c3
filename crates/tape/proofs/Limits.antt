-- What an operation never does. Assumes nothing.
use mathlib.Core.Bool.{Bool, true, false, cond}
use mathlib.Core.List.{List, [], ◌∷◌}
use mathlib.Core.Option.{Option, none, some}
use mathlib.Core.Path.{◌≡◌, refl, ap, ◌∙◌}
use Prim.Native.Nat.{ℕ, zero, suc, ◌≤◌, ◌<◌}
use native.Mathlib.Omega.{arith}
use lib.Dec.{eqb}
use lib.IntN.{ℤ, pos, negsuc, ◌+ℤ◌}
use lib.ListN.{length, get_or, get_elem?, take, drop, length-append, length-drop}
use lib.Seq.{take-take, drop-append_seam}
use Rattle.tape.specs.Character.{Met, Delivers, Skips, Ends, Refused, entry, look_up, character}
use Rattle.tape.specs.Tape.{Run, Stops, Runs, onward, by_met, run, moded, result, words, taken}
use Rattle.tape.specs.Promise.{TellsResult}
use Rattle.tape.specs.Limits.{Inside, Keeps}
use Rattle.tape.specs.declared.Taken.{Taken}
use Rattle.tape.proofs.Lookups.{look_misses}

-- ---- the table
elem_inside : (l : List ℕ) (i w : ℕ) → get_elem? l i ≡ some w → (i < length l) × (w ≡ get_or l i 0)
elem_inside [] i w e = let z : ◌≡◌ {A = ℕ} 0 1 = cc in absurd (omega arith)
elem_inside (x ∷ l) zero w e = (omega arith, cc)
elem_inside (x ∷ l) (suc i) w e = let h = elem_inside l i w e in (omega arith, h.1)

-- a word that a lookup finds is a word of the table, at that index
pub looks_inside : (table : List ℕ) (z : ℤ) (w : ℕ) → entry table z ≡ some w → Inside table z w
looks_inside table (pos i) w e = let h = elem_inside table i w e in record { place = i; at = refl; below = h.0; word = h.1 }
looks_inside table (negsuc i) w e = let z : ◌≡◌ {A = ℕ} 0 1 = cc in absurd (omega arith)

by_entry : (k : ℕ) (table : List ℕ) (base : ℤ) (c : ℕ) (o : Option ℕ) → entry table (base +ℤ pos c) ≡ o → ((w : ℕ) → Inside table (base +ℤ pos c) w → ⊥)
    → look_up (suc k) table base c ≡ Refused 17
by_entry k table base c none e h = look_misses k table base c e
by_entry k table base c (some w) e h = absurd (h w (looks_inside table (base +ℤ pos c) w e))

-- and where there is none at that index, the character is refused with 17
pub looks_nowhere : (k : ℕ) (table : List ℕ) (base : ℤ) (c : ℕ) → ((w : ℕ) → Inside table (base +ℤ pos c) w → ⊥) → look_up (suc k) table base c ≡ Refused 17
looks_nowhere k table base c h = by_entry k table base c (entry table (base +ℤ pos c)) refl h

-- "its first 65,536 words count"
pub first_words : (mode : ℕ) (tape table : List ℕ) (z : ℤ) (area : List ℕ) → taken mode tape (take 65536 table) z area ≡ taken mode tape table z area
unfolding taken
first_words mode tape table z area = rw (take-take 65536 65536 table (omega arith))

-- ---- the area
-- of so many bytes of tape, with so much room
abbrev Few : ℕ → ℕ → Run → Type 0
Few n room (Stops k) = Unit {0}
Few n room (Runs l m z f) = (length l ≤ m) × (m ≤ n) × (length l ≤ room)

few_stored : (n room v : ℕ) (flag : Bool) (o : Run) → Few n room o → Few (suc n) (suc room) (onward (v ∷ []) 1 flag o)
few_stored n room v flag (Stops k) h = tt
few_stored n room v flag (Runs l m z f) h = (omega arith, omega arith, omega arith)

few_skipped : (n room : ℕ) (o : Run) → Few n room o → Few (suc n) room (onward [] 1 false o)
few_skipped n room (Stops k) h = tt
few_skipped n room (Runs l m z f) h = (omega arith, omega arith, omega arith)

few_met : (n room : ℕ) (m : Met) (stored skipped : ℤ → Run) → ((z : ℤ) → Few n room (stored z)) → ((z : ℤ) → Few n (suc room) (skipped z))
    → Few (suc n) (suc room) (by_met m stored skipped)
few_met n room (Delivers flag v z) stored skipped f g = few_stored n room v flag (stored z) (f z)
few_met n room (Skips z) stored skipped f g = few_skipped n (suc room) (skipped z) (g z)
few_met n room (Ends z) stored skipped f g = (omega arith, omega arith, omega arith)
few_met n room (Refused k) stored skipped f g = tt

run_few : (mode : ℕ) (table : List ℕ) (z : ℤ) (room : ℕ) (tape : List ℕ) → Few (length tape) room (run mode table z room tape)
unfolding run
run_few mode table z zero tape = (omega arith, omega arith, omega arith)
run_few mode table z (suc room) [] = (omega arith, omega arith, omega arith)
run_few mode table z (suc room) (b ∷ tape) =
    few_met (length tape) room (character mode table z b) (λ y. run mode table y room tape) (λ y. run mode table y (suc room) tape)
    (λ y. run_few mode table y room tape) (λ y. run_few mode table y (suc room) tape)

few_moded : (n room : ℕ) (a b c : Bool) (o : Run) → Few n room o → Few n room (cond a o (cond b o (cond c o (Stops 15))))
few_moded n room true b c o h = h
few_moded n room false true c o h = h
few_moded n room false false true o h = h
few_moded n room false false false o h = tt

result_keeps : (o : Run) (z : ℤ) (tape area : List ℕ) {r : Taken} {after : List ℕ} → Few (length tape) (length area) o
    → TellsResult (result o z area) r after → Keeps tape area r after
result_keeps (Stops k) z tape area h a =
    record {
      fewer = omega (arith, a.stored);
      within = omega (arith, a.read);
      room = omega (arith, a.stored);
      size = ap length a.area;
      rest = rw a.area;
    }
result_keeps (Runs l n b f) z tape area h a =
    record {
      fewer = omega (arith, a.stored, a.read);
      within = omega (arith, a.read);
      room = omega (arith, a.stored);
      size = ap length a.area ∙ simp (length-append, length-drop) (omega arith);
      rest = rw (a.stored, a.area) (drop-append_seam l (drop (length l) area));
    }

-- whatever the answer, nothing is written past the area's end, nor past the bytes stored
pub keeps : (mode : ℕ) (tape table : List ℕ) (z : ℤ) (area : List ℕ) {r : Taken} {after : List ℕ} → TellsResult (taken mode tape table z area) r after
    → Keeps tape area r after
unfolding taken
keeps mode tape table z area a =
    let o = run mode (words mode table) z (length area) tape in
    result_keeps (moded mode o) z tape area
    (few_moded (length tape) (length area) (eqb mode 1) (eqb mode 5) (eqb mode 9) o (run_few mode (words mode table) z (length area) tape)) a

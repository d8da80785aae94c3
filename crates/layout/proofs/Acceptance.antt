-- What refusal 11 asks, in the code's terms, and what is known of a list that it lets pass. Assumes nothing.
use Prim.Native.Nat.{ℕ, ◌/◌, ◌%◌, ◌≤◌}
use native.Mathlib.Omega.{arith}
use mathlib.Core.Bool.{true, ◌&&◌}
use mathlib.Core.List.{List}
use mathlib.Core.Path.{◌≡◌, refl, sym, ◌∙◌}
use lib.ListN.{length}
use lib.Dec.{eqb, leb}
use borrow.Author.Tests.{eqb-true, le-leb, lt-leb, leb-true, leb-false, ltb-false, not-false}
use Rattle.machine.specs.Layout.{entries, sum, fives, each, proper, apart, layout_ok, setting_ok, layout_refusal}
use Rattle.machine.specs.Words.{size}
use Rattle.lists.proofs.Tests.{tested, and_true, passes}
use Rattle.laws.proofs.Laid.{tells_layout, tells_setting}
use Rattle.laws.proofs.Fives.{fives_length, entries_length, list_too_long}
use Rattle.layout.specs.Accepted.{Accepted}

one_five : (n : ℕ) → leb 1 (n / 5) ≡ leb 5 n
one_five n = tested (leb 5 n) (λ t. le-leb 1 (n / 5) (omega (arith, leb-true 5 n t)) ∙ sym t) (λ t. lt-leb 1 (n / 5) (omega (arith, leb-false 5 n t)) ∙ sym t)

-- what is asked, in the order in which the code asks it
pub all_asked : (ws : List ℕ) → (fives ws && layout_ok (entries ws)) ≡ (leb (length ws) 160 && (eqb (length ws % 5) 0 && (leb 5 (length ws)
    && (leb (sum (entries ws)) 128 && (each proper (entries ws) && apart (entries ws))))))
all_asked ws =
    tested (leb (length ws) 160)
    (λ t. rw (t, fives_length ws, entries_length ws, one_five (length ws), le-leb (length ws / 5) 32 (omega (arith, leb-true (length ws) 160 t))))
    (λ t. rw t (sym (list_too_long ws (leb-false (length ws) 160 t))))

pub accepted : (ws : List ℕ) → (fives ws && layout_ok (entries ws)) ≡ true → Accepted ws (length ws / 5) (sum (entries ws))
accepted ws e =
    let h = and_true {a = fives ws} e in
    let d = eqb-true (length ws % 5) 0 (sym (fives_length ws) ∙ h.0) in
    let l = (tells_layout (entries ws)).holds h.1 in
    let n = entries_length ws in
    record { fives = omega arith; processes = sym n; buffers = refl; few = omega (arith, l.few); small = l.room }

-- a list that isn't refused has passed rows 11 and 12
pub not_refused : (ws : List ℕ) (edition : ℕ) (counters : List ℕ) (room : ℕ) → layout_refusal ws edition counters room ≡ 0
    → Accepted ws (length ws / 5) (sum (entries ws)) × (length counters ≤ 16) × (size (length ws / 5) (sum (entries ws)) (length counters) ≤ room)
unfolding layout_refusal
not_refused ws edition counters room e =
    let p = passes _ ((λ z. omega arith), ((λ z. omega arith), tt)) e in
    let h = and_true {a = setting_ok edition counters} (not-false _ p.0) in (
      accepted ws h.1,
      ((tells_setting edition counters).holds h.0).few,
      rw entries_length at (ltb-false room (size (length (entries ws)) (sum (entries ws)) (length counters)) p.1.0),
    )

-- The marks of the names met so far tell most new names at once. Assumes nothing.
use mathlib.Core.Path.{◌≡◌, sym, ap, ◌∙◌}
use mathlib.Core.List.{List}
use mathlib.Core.Bool.{true, not, ◌&&◌, and-eq-true_iff}
use Prim.Native.Nat.{ℕ, ◌+◌, ◌-◌, ◌≤◌, ◌<◌}
use native.Mathlib.Omega.{arith}
use lib.ListN.{length, get_or, set, length-set}
use lib.Seq.{get_or-set_same, get_or-set_other}
use lib.Dec.{eqb}
use borrow.Author.Tests.{eqb-true}
use Rattle.machine.specs.Queue.{Range}
use Rattle.machine.specs.Sound.{process_at}
use Rattle.lists.proofs.Links.{cases}
use Rattle.lists.proofs.Tells.{all_true}
use Rattle.lists.proofs.Tests.{is_false}
use Rattle.sound.specs.Names.{mark, other_name, new_name}

abbrev mark_of : List ℕ → ℕ → ℕ
mark_of w q = mark (process_at w q 12) (process_at w q 13) (process_at w q 14)

-- the marks m of the processes 1 to p are set
pub record Marks (w m : List ℕ) (p : ℕ) : Type 0 where
  pub long : length m ≡ 256
  pub set_for : (q : ℕ) → Range p q → get_or m (mark_of w q) 0 ≡ 1

pub marks_none : (w m : List ℕ) → length m ≡ 256 → Marks w m 0
marks_none w m l = record { long = l; set_for = λ q r. absurd (omega arith) }

pub marks_more : (w m : List ℕ) (p h : ℕ) → Marks w m p → h ≡ mark_of w (p + 1) → h < 256 → Marks w (set m h 1) (p + 1)
marks_more w m p h M e l =
    record {
      long = length-set m h 1 ∙ M.long;
      set_for = λ q r. cases (mark_of w q) h
          (λ k. rw k (get_or-set_same m h 1 0 (omega (arith, M.long))))
          (λ n. get_or-set_other m h (mark_of w q) 1 0 n ∙ M.set_for q (r.0, small q r.1 n));
    }
  where
    small : (q : ℕ) → q ≤ p + 1 → (mark_of w q ≡ h → ⊥) → q ≤ p
    small q b n = cases q (p + 1) (λ k. absurd (n (ap (mark_of w) k ∙ sym e))) (λ k. omega arith)

-- where p's mark is not set, p's name is new
pub marks_new : (w m : List ℕ) (p h : ℕ) → Marks w m p → h ≡ mark_of w (p + 1) → get_or m h 0 ≡ 0
    → new_name w (p + 1 - 1) (process_at w (p + 1) 12) (process_at w (p + 1) 13) (process_at w (p + 1) 14) ≡ true
marks_new w m p h M e n = all_true (other_name w x y z) (p + 1 - 1) (λ q l u. ap not (is_false _ (λ t. same q l (omega arith) t)))
  where
    x : ℕ
    x = process_at w (p + 1) 12

    y : ℕ
    y = process_at w (p + 1) 13

    z : ℕ
    z = process_at w (p + 1) 14

    same : (q : ℕ) → 1 ≤ q → q ≤ p → (eqb (process_at w q 12) x && (eqb (process_at w q 13) y && eqb (process_at w q 14) z)) ≡ true → ⊥
    same q l u t =
        let a = (and-eq-true_iff (eqb (process_at w q 12) x) _).0 t in
        let b = (and-eq-true_iff (eqb (process_at w q 13) y) (eqb (process_at w q 14) z)).0 a.1 in
        let k : mark_of w q ≡ h = rw (eqb-true (process_at w q 12) x a.0, eqb-true (process_at w q 13) y b.0, eqb-true (process_at w q 14) z b.1)
        (sym e) in
        let s : get_or m h 0 ≡ 1 = rw k at (M.set_for q (l, u)) in
        omega arith

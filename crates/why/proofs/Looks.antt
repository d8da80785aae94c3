-- A record looked at by the clause of a number. Assumes nothing.
use mathlib.Core.Path.{◌≡◌, refl, ◌∙◌}
use mathlib.Core.Bool.{Bool}
use mathlib.Core.List.{List}
use Rattle.std.proofs.Common.{Option}
use Prim.Native.Nat.{ℕ}
use Rattle.why.specs.Clause.{Clause, clause_of, right, place}
use Rattle.why.specs.Looked.{named_if, Low, Looked}

module _ {w : List ℕ} where
  pub looks : (n : ℕ) (k : Clause) {c r : ℕ} {found : Option ℕ} → clause_of n ≡ k → c ≡ n → Looked w k r found → Looked w (clause_of c) r found
  looks n k {r = r} {found = found} e f h = rw (f, e) h

  pub named : (k : Clause) (r : ℕ) {b : Bool} {i : ℕ} {found : Option ℕ} → b ≡ right w k r → i ≡ place w k r → (found ≡ named_if b i) × Low found
      → Looked w k r found
  named k r e f h = record { is = h.0 ∙ (rw (e, f) refl); low = h.1 }

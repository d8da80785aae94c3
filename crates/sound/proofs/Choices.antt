-- Tests that hang on one another, beside those of laws/Tells. Assumes nothing.
use mathlib.Core.Path.{◌≡◌, refl}
use mathlib.Core.Logic.{◌⊎◌, inl, inr, ⊎_elim}
use mathlib.Core.Bool.{Bool, true, false, ◌&&◌, false≢true}
use Rattle.machine.specs.Queue.{if}
use Rattle.lists.proofs.Tells.{Tells}

-- a test that chooses
pub chosen : {a b c : Bool} {A B C : Type 0} → Tells a A → Tells b B → Tells c C → Tells (if a b c) ((A → B) × ((A → ⊥) → C))
chosen {a = true} x y z = record { holds = λ t. ((λ k. y.holds t), λ n. absurd (n (x.holds refl))); back = λ h. y.back (h.0 (x.holds refl)) }
chosen {a = false} x y z =
    record { holds = λ t. ((λ k. absurd (false≢true (x.back k))), λ n. z.holds t); back = λ h. z.back (h.1 (λ k. false≢true (x.back k))) }

-- the same, where the choice itself is wanted
pub branched : {a b c : Bool} {A B C : Type 0} → Tells a A → Tells b B → Tells c C → Tells (if a b c) ((A × B) ⊎ ((A → ⊥) × C))
branched {a = true} x y z =
    record { holds = λ t. inl (x.holds refl, y.holds t); back = λ h. ⊎_elim (λ k. y.back k.1) (λ k. absurd (k.0 (x.holds refl))) h }
branched {a = false} x y z =
    record {
      holds = λ t. inr (λ k. false≢true (x.back k), z.holds t);
      back = λ h. ⊎_elim (λ k. absurd (false≢true (x.back k.0))) (λ k. z.back k.1) h;
    }

-- the second test tells where the first holds
pub both_then : {a b : Bool} {A B : Type 0} → Tells a A → (A → Tells b B) → Tells (a && b) (A × B)
both_then {a = true} x y = record { holds = λ t. (x.holds refl, (y (x.holds refl)).holds t); back = λ h. (y h.0).back h.1 }
both_then {a = false} x y = record { holds = λ t. absurd (false≢true t); back = λ h. x.back h.0 }

pub always : Tells true (Unit {0})
always = record { holds = λ t. tt; back = λ h. refl }

-- where the fact fails, so does the test
pub untold : (a : Bool) {A : Type 0} → Tells a A → (A → ⊥) → a ≡ false
untold true x n = absurd (n (x.holds refl))
untold false x n = refl

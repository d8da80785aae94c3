-- Tests taken apart. Assumes nothing.
use mathlib.Core.Bool.{Bool, true, false, false≢true, ◌&&◌}
use mathlib.Core.Path.{◌≡◌, refl}

-- what holds of both ways out of a test
pub tested : {C : Type 0} (t : Bool) → (t ≡ true → C) → (t ≡ false → C) → C
tested true f g = f refl
tested false f g = g refl

pub both_true : {a b : Bool} → (a && b) ≡ true → (a ≡ true) × (b ≡ true)
both_true {a = true} e = (refl, e)
both_true {a = false} e = absurd (false≢true e)

pub first_false : {a b : Bool} → (a && b) ≡ false → b ≡ true → a ≡ false
first_false {a = true} {b = true} e f = e
first_false {a = true} {b = false} e f = absurd (false≢true f)
first_false {a = false} e f = refl

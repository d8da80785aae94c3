-- `sound::devices::four` meets its contract: devices that name nobody are in order. Assumes nothing.
use mathlib.Core.Path.{◌≡◌, refl}
use mathlib.Core.List.{List}
use mathlib.Core.Bool.{true, and-eq-true_iff}
use Prim.Native.Nat.{ℕ, ◌+◌}
use lib.ListN.{get_or}
use lib.Dec.{eqb}
use Rattle.sound.specs.Devices.{nobody, four}
use Rattle.sound.proofs.Found.{call_yes}
use Rattle.sound.proofs.Idle.{idle}
use Rattle.sound.proofs.devices.four.Goals as goal

nobody_four : (w : List ℕ) (d : ℕ) → nobody w d ≡ true → true ≡ four w d
nobody_four w d t =
    let h = (and-eq-true_iff (eqb (get_or w (7 + (d + 1)) 0) 0) _).0 t in
    let i = (and-eq-true_iff (eqb (get_or w (7 + (d + 2)) 0) 0) _).0 h.1 in
    let j = (and-eq-true_iff (eqb (get_or w (7 + (d + 3)) 0) 0) (eqb (get_or w (7 + (d + 4)) 0) 0)).0 i.1 in
    rw (idle w (d + 1) h.0, idle w (d + 2) i.0, idle w (d + 3) j.0, idle w (d + 4) j.1) refl

pub returns-then-nobody : goal.returns-then-nobody
returns-then-nobody c = nobody_four _ _ (call_yes c.before.nobody.ensures c.if-nobody.true)

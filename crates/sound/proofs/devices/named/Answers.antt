-- `sound::devices::named` meets its contract. The loop's invariant: the words passed are laid one over the other. Assumes nothing.
use mathlib.Core.Path.{◌≡◌, refl}
use Prim.Native.Nat.{ℕ, suc, ◌+◌, ◌-◌, ◌≤◌}
use native.Mathlib.Omega.{arith}
use mathlib.Core.List.{List}
use lib.ListN.{get_or}
use Rattle.std.specs.Int.Bits.{bit_or}
use Rattle.sound.specs.Devices.{named}
use Rattle.sound.proofs.devices.named.Goals as goal

named_more : (w : List ℕ) (d a : ℕ) → 1 ≤ d → a ≡ named w (d - 1) → bit_or a (get_or w (7 + d) 0) ≡ named w (d + 1 - 1)
unfolding named
named_more w d a h e = let f : d + 1 - 1 ≡ suc (d - 1) = omega arith in let g : suc (d - 1) ≡ d = omega arith in rw (f, e) (rw g refl)

pub loop-d-init : goal.loop-d-init
unfolding named
loop-d-init c = refl

pub loop-d-preserved : goal.loop-d-preserved
loop-d-preserved c = named_more _ _ _ c.loop-d.auto.d c.loop-d.invariant

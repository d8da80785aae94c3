-- What the loop of `devices::named` keeps: the words passed are laid one over the other. Assumes nothing.
use mathlib.Core.Path.{◌≡◌}
use Prim.Native.Nat.{◌-◌}
use Rattle.sound.specs.Devices.{named}
use Rattle.sound.proofs.devices.named.Given as goal

abbrev pub invariant-loop-d : goal.invariant-loop-d
invariant-loop-d l = l.all ≡ named l.words (l.d - 1)

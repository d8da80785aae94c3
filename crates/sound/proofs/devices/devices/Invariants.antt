-- What the loop of `devices::devices` keeps: the devices passed, four a pass, are in order. Assumes nothing.
use mathlib.Core.Path.{◌≡◌}
use mathlib.Core.Bool.{true}
use Prim.Native.Nat.{◌*◌}
use Rattle.lists.specs.Counts.{all}
use Rattle.sound.specs.Devices.{device}
use Rattle.sound.proofs.devices.devices.Given as goal

abbrev pub invariant-loop-fours : goal.invariant-loop-fours
invariant-loop-fours l = all (device l.words) (4 * l.fours) ≡ true

-- `monitor_sound` meets its contract: the check's answer as a word. Assumes nothing.
use mathlib.Core.Bool.{Bool, true, false, false≢true}
use mathlib.Core.List.{List}
use mathlib.Core.Logic.{◌↔◌}
use mathlib.Core.Path.{◌≡◌, refl}
use Prim.Native.Nat.{ℕ}
use mir.Val.{bool_byte}
use Rattle.machine.specs.Sound.{Sound}
use Rattle.monitor.specs.Promise.{SoundTold}
use Rattle.trap.proofs.monitor_sound.Goals as goal

told : {t : List ℕ} (r : Bool) → (r ≡ true) ↔ Sound t → SoundTold t (bool_byte r)
told true h = record { sound = λ S. refl; unsound = λ n. absurd (n (h.0 refl)) }
told false h = record { sound = λ S. absurd (false≢true (h.1 S)); unsound = λ n. refl }

pub returns : goal.returns
returns c = told _ c.sound.ensures

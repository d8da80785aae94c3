-- What the loop of `names::new_name` keeps: the processes passed have other names. Assumes nothing.
use mathlib.Core.Path.{◌≡◌}
use mathlib.Core.Bool.{true}
use Rattle.sound.specs.Names.{new_name}
use Rattle.sound.proofs.names.new_name.Given as goal

abbrev pub invariant-loop-q : goal.invariant-loop-q
invariant-loop-q l = new_name l.words l.q l.x l.y l.z ≡ true

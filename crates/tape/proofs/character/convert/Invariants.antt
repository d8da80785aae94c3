-- What the loop of `character::convert` keeps. Assumes nothing.
use mathlib.Core.Path.{◌≡◌}
use Prim.Native.Nat.{◌-◌}
use Rattle.tape.specs.Character.{look_up}
use Rattle.tape.specs.Promise.{whole, Based}
use Rattle.tape.proofs.character.convert.Given as goal

abbrev pub invariant-loop : goal.invariant-loop
invariant-loop l = Based l.b × (look_up 8 l.table (whole l.base) l.c ≡ look_up (8 - l.counter) l.table (whole l.b) l.c)

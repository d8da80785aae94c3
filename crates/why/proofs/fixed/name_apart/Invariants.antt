-- What the loop of `fixed::name_apart` keeps: the processes before q have other names. Assumes nothing.
use mathlib.Core.Path.{◌≡◌}
use mathlib.Core.Bool.{true, not}
use Prim.Native.Nat.{◌-◌}
use Rattle.lists.specs.Counts.{all}
use Rattle.why.specs.Asked.{same_name}
use Rattle.why.proofs.fixed.name_apart.Given as goal

abbrev pub invariant-loop-q : goal.invariant-loop-q
invariant-loop-q l = all (λ x. not (same_name l.words x l.p)) (l.q - 1) ≡ true

-- What the loop of `queues::meets` keeps. Assumes nothing.
use mathlib.Core.Path.{◌≡◌}
use Prim.Native.Nat.{◌-◌}
use Rattle.why.specs.QueueParts.{queues, meets}
use Rattle.why.specs.Looked.{number_of_kind}
use Rattle.why.proofs.queues.meets.Given as goal

abbrev pub invariant-loop : goal.invariant-loop
invariant-loop l =
    meets (queues l.words (number_of_kind l.kind)) (l.most - l.counter) l.here l.x
    ≡ meets (queues l.words (number_of_kind l.kind)) (queues l.words (number_of_kind l.kind)).records l.at l.x

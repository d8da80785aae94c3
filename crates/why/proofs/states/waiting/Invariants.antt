-- What the loop of `states::waiting` keeps: those before p that wait for s are counted. Assumes nothing.
use mathlib.Core.Path.{◌≡◌}
use Prim.Native.Nat.{◌+◌, ◌-◌, ◌≤◌}
use lib.ListN.{length}
use lib.Dec.{eqb}
use Rattle.machine.specs.Queue.{keep, from}
use Rattle.why.specs.QueueParts.{waiting_queues}
use Rattle.why.proofs.states.waiting.Given as goal

abbrev pub invariant-loop-p : goal.invariant-loop-p
invariant-loop-p l =
    (l.p ≤ l.processes + 1) × ((l.count ≤ l.p - 1) × (l.count ≡ length (keep (λ x. eqb ((waiting_queues l.words).home x) l.s) (from 1 (l.p - 1)))))

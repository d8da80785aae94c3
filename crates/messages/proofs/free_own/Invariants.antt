-- What the loop of `free_own` keeps. Assumes nothing.
use Rattle.machine.specs.Machine.{Machine}
use Rattle.machine.specs.Words.{Shows}
use Rattle.messages.specs.Conversations.{MayOwn}
use Rattle.messages.proofs.OwnRun.{Taken}
use Rattle.messages.proofs.free_own.Given as goal

abbrev pub invariant-loop-i : goal.invariant-loop-i
invariant-loop-i l = (m : Machine) → Shows l.t m → MayOwn l.p m → Taken m l.first l.i

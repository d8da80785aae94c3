-- What the loop of `records::own_run` keeps. Assumes nothing.
use mathlib.Core.Path.{◌≡◌}
use mathlib.Core.Bool.{true}
use Prim.Native.Nat.{◌+◌, ◌≤◌}
use Rattle.sound.specs.Records.{own_run, queued_of}
use Rattle.sound.proofs.records.own_run.Given as goal

abbrev pub invariant-loop-j : goal.invariant-loop-j
invariant-loop-j l = record {
  few : l.queued ≤ l.before + l.j;
  counted : l.queued ≡ queued_of l.words l.base (l.before + l.j);
  right : own_run l.words l.base l.p l.processes l.before l.j ≡ true;
}

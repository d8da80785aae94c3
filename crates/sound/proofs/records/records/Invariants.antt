-- What the loop of `records::records` keeps. Assumes nothing.
use mathlib.Core.Path.{◌≡◌}
use mathlib.Core.Bool.{true}
use Prim.Native.Nat.{◌≤◌}
use Rattle.machine.specs.Machine.{given}
use Rattle.lists.specs.Counts.{all}
use Rattle.sound.specs.Records.{owns, queued_of, record_legal}
use Rattle.sound.proofs.Marks.{Marks}
use Rattle.sound.proofs.records.records.Given as goal

abbrev pub invariant-loop-i : goal.invariant-loop-i
invariant-loop-i l = record {
  given_out : l.before ≡ given (owns l.words) l.i;
  few : l.before ≤ l.buffers;
  counted : l.queued ≡ queued_of l.words l.base l.before;
  right : all (record_legal l.words l.base l.buffers) l.i ≡ true;
  marked : Marks l.words l.marks l.i;
}

-- What the loop of `lay` keeps. Assumes nothing.
use Rattle.layout.proofs.Written.{Written}
use Rattle.layout.proofs.lay.Given as goal

abbrev pub invariant-loop-i : goal.invariant-loop-i
invariant-loop-i l = Written l.list l.edition l.counters l.initial.table l.processes l.buffers l.table l.i

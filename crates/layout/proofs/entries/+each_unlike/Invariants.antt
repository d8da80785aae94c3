-- What falls from a call of `each_unlike` to the next. Assumes nothing.
use lib.ListN.{length}
use Rattle.layout.proofs.entries.+each_unlike.Given as goal

abbrev pub decreases-each_unlike : goal.decreases-each_unlike
decreases-each_unlike l = length l.list.now

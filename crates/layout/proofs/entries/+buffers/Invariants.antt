-- What falls from a call of `buffers` to the next. Assumes nothing.
use lib.ListN.{length}
use Rattle.layout.proofs.entries.+buffers.Given as goal

abbrev pub decreases-buffers : goal.decreases-buffers
decreases-buffers l = length l.list.now

-- What falls from a call of `each_proper` to the next. Assumes nothing.
use lib.ListN.{length}
use Rattle.layout.proofs.entries.+each_proper.Given as goal

abbrev pub decreases-each_proper : goal.decreases-each_proper
decreases-each_proper l = length l.list.now

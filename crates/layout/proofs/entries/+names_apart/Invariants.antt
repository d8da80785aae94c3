-- What falls from a call of `names_apart` to the next. Assumes nothing.
use lib.ListN.{length}
use Rattle.layout.proofs.entries.+names_apart.Given as goal

abbrev pub decreases-names_apart : goal.decreases-names_apart
decreases-names_apart l = length l.list.now

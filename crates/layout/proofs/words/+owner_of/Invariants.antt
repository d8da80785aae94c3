-- What falls from a call of `owner_of` to the next. Assumes nothing.
use lib.ListN.{length}
use Rattle.layout.proofs.words.+owner_of.Given as goal

abbrev pub decreases-owner_of : goal.decreases-owner_of
decreases-owner_of l = length l.list.now

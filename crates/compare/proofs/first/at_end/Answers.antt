-- `first::at_end` meets its contract. Assumes nothing.
use Rattle.compare.proofs.Bytes.{none_end, some_end}
use Rattle.compare.proofs.first.at_end.Goals as goal

pub returns-in-empty : goal.returns-in-empty
returns-in-empty c = none_end _ c.in-empty.len_below

pub returns-in-len1-up : goal.returns-in-len1-up
returns-in-len1-up c = some_end _ c.in-len1-up.len_at_least

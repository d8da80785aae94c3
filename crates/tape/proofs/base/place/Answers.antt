-- `base::place` meets its contract. Assumes nothing.
use borrow.Author.Rules.{rules}
use Rattle.tape.proofs.Lookups.{placed}
use Rattle.tape.proofs.base.place.Goals as goal

pub returns : goal.returns
returns c = placed _ _ c.requires (search rules)

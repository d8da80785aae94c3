-- `owner_of` meets its contract: fewer than five words are no entry, five are one more, which has the buffer or leaves it to the others. The measure is
-- the list's length. Assumes nothing.
use Rattle.laws.proofs.Fives.{owner_none, owner_front, owner_more}
use Rattle.layout.proofs.words.+owner_of.Goals as goal

pub returns-in_default : goal.returns-in_default
returns-in_default t c = owner_none c.args.list.now c.in_default.len_below _ _

pub returns-then-b-own : goal.returns-then-b-own
returns-then-b-own t c = owner_front c.args.list.now c.in-len5-up.len_at_least c.args.p c.args.b c.if-b-own.true

pub returns-else-b-own : goal.returns-else-b-own
returns-else-b-own t c = owner_more c.args.list.now c.in-len5-up.len_at_least c.args.p c.args.b c.if-b-own.false c.owner_of.ensures

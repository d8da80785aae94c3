-- `lay_out` meets its contract: the layout by the words stored is that by the list, of which more than 160 words are refused whatever they are. Assumes
-- nothing.
use mathlib.Core.Path.{refl}
use Rattle.turn.proofs.Laying.{accepts, refuses}
use Rattle.turn.proofs.entries.lay_out.Goals as goal

pub returns-then-made-eq-DONE : goal.returns-then-made-eq-DONE
returns-then-made-eq-DONE c ws e z = accepts ws e c.requires.0 z c.layout-made.ensures c.if-made-eq-DONE.true

pub returns : goal.returns
returns c ws e z = refuses ws e c.requires.0 z c.layout-made.ensures c.if-made-eq-DONE.false refl

-- `turn` meets its contract: the turn of what was read of the line. Assumes nothing.
use mathlib.Core.Path.{◌≡◌, ap, ◌∙◌}
use Rattle.lines.specs.Line.{shape}
use Rattle.turn.specs.InWords.{shape_read}
use Rattle.turn.proofs.Turns.{read_back}
use Rattle.turn.proofs.Run.turn.Goals as goal

pub returns : goal.returns
returns c =
    let line = c.args.line.now in
    let e : shape_read c.read-read.result ≡ shape line = ap shape_read c.read-read.ensures ∙ read_back (shape line) in
    rw e at c.take_turn.ensures

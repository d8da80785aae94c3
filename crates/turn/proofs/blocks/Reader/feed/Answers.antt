-- `feed` meets its contract: the first line stands whole in the block and has its turn, or its bytes are taken one by one. Assumes nothing.
use mathlib.Core.Path.{◌≡◌, refl, sym, ap, ◌∙◌}
use lib.ListN.{take}
use Rattle.lines.specs.Line.{shape}
use Rattle.turn.specs.InWords.{shape_read}
use Rattle.turn.proofs.Turns.{read_back}
use Rattle.turn.proofs.Feeding.{none_begun, feeds_line}
use Rattle.turn.proofs.blocks.Reader.feed.Goals as goal

pub returns : goal.returns
returns c =
    let stands = c.first_line-read.ensures c.in_default.not-Other in
    let line = take 26 c.args.block.now in
    let e : shape_read c.first_line-read.result ≡ shape line = ap shape_read stands.read ∙ read_back (shape line) in
    feeds_line stands.ends (sym stands.size) stands.none (λ begun b. rw (none_begun b stands.none) refl) (rw e at c.take_turn.ensures)

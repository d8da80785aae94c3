-- `take_block` meets its contract: lines are taken until none of the block is left. Assumes nothing.
use mathlib.Core.Path.{refl, ◌∙◌}
use native.Mathlib.Omega.{arith}
use Rattle.replay.proofs.Opening.{block_none, block_more}
use Rattle.replay.proofs.Streaming.{answers_none, block_answered}
use Rattle.replay.proofs.take_block.Goals as goal

pub loop-taken-init : goal.loop-taken-init
loop-taken-init g c =
    record {
      taken = block_none c.args.block.now c.requires.out;
      written = λ input h. answers_none c.args.streams.now.failed (g.W.Write.contents c.args.streams.now.output) input;
      input = refl;
      within = omega arith;
    }

pub loop-taken-preserved : goal.loop-taken-preserved
loop-taken-preserved g c =
    let l = c.loop-taken.invariant in
    let e = c.write_lines-taken.ensures in
    record {
      taken = block_more c.args.block.now l.taken e.taken.0;
      written = block_answered c.args.block.now l.taken e.taken.0 l.written e.written;
      input = e.input ∙ l.input;
      within = e.taken.0.within;
    }

-- `read_all` meets its contract: block after block is read until reading has come to its end. Assumes nothing.
use mathlib.Core.Path.{◌≡◌, sym, ◌∙◌}
use native.Mathlib.Omega.{arith}
use lib.ListN.{length}
use Rattle.replay.specs.Open.{most_reads}
use Rattle.replay.proofs.Reading.{going_none, going_open, going_on, reads_end, reads_out}
use Rattle.replay.proofs.Streaming.{streaming_none, streaming_on, streaming_ends, streaming_out}
use Rattle.replay.proofs.read_all.Goals as goal

pub loop-init : goal.loop-init
loop-init g c =
    record {
      going = going_none c.requires;
      streaming = streaming_none c.args.streams.now.failed (g.R.Read.remaining c.args.streams.now.input) (g.W.Write.contents c.args.streams.now.output) _;
    }

pub read_block-taken-requires : goal.read_block-taken-requires
read_block-taken-requires g c = going_open c.requires c.loop.invariant.going

pub returns-then-ends_reading-clause-read : goal.returns-then-ends_reading-clause-read
returns-then-ends_reading-clause-read g c =
    let e = c.read_block-taken.ensures in
    reads_end c.read_block-taken.new.block c.loop.invariant.going e.few e.taken (sym c.ends_reading.ensures ∙ c.if-ends_reading.true)

pub returns-then-ends_reading-clause-streamed : goal.returns-then-ends_reading-clause-streamed
returns-then-ends_reading-clause-streamed g c =
    let e = c.read_block-taken.ensures in
    let same : length c.read_block-taken.new.block ≡ length c.args.block.now = c.read_block-taken.auto.block ∙ c.loop.auto.block in
    rw same at
    (streaming_ends c.read_block-taken.new.block c.read_block-taken.result c.loop.invariant.streaming e.taken e.given e.written e.end
    (sym c.ends_reading.ensures ∙ c.if-ends_reading.true))

pub loop-preserved : goal.loop-preserved
loop-preserved g c =
    let l = c.loop.invariant in
    let e = c.read_block-taken.ensures in
    let block = c.read_block-taken.new.block in
    let goes = sym c.ends_reading.ensures ∙ c.if-ends_reading.false in
    record {
      going = going_on block l.going e.few e.taken goes;
      streaming = streaming_on block c.read_block-taken.result l.streaming e.taken e.given e.written e.few goes;
    }

-- after so many reads that there can be no more
pub returns-clause-read : goal.returns-clause-read
returns-clause-read g c =
    let n : c.loop.counter ≡ most_reads = omega (arith, c.loop-test.false, c.loop.auto.counter-end) in
    reads_out (rw n at c.loop.invariant.going)

pub returns-clause-streamed : goal.returns-clause-streamed
returns-clause-streamed g c =
    let n : c.loop.counter ≡ most_reads = omega (arith, c.loop-test.false, c.loop.auto.counter-end) in
    streaming_out (rw n at c.loop.invariant.streaming)

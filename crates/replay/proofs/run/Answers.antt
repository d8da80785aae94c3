-- `run` meets its contract: `out` has room, and at its start the run has no input. Assumes nothing.
use native.Mathlib.Omega.{arith}
use Rattle.replay.proofs.Opening.{opened}
use Rattle.replay.proofs.Streaming.{replayed_from_start}
use Rattle.replay.proofs.run.Goals as goal

pub replay-requires : goal.replay-requires
replay-requires g c = opened _ _ c.new-kept.ensures (omega (arith, c.large_buffer-out.ensures))

pub returns : goal.returns
returns g c n bytes known few =
    replayed_from_start bytes c.new-kept.ensures c.replay.ensures.answered n (omega (arith, c.large_buffer-block.ensures)) known few

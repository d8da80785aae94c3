-- `replay` meets its contract: all is read, and then the input has its end. Assumes nothing.
use mathlib.Core.List.{◌++◌}
use Rattle.replay.proofs.Reading.{was_read}
use Rattle.replay.proofs.Streaming.{all_answered}
use Rattle.replay.proofs.replay.Goals as goal

pub end-requires : goal.end-requires
end-requires g c = was_read c.requires c.read_all-taken.ensures.read

pub returns-clause-replayed : goal.returns-clause-replayed
returns-clause-replayed g c =
    let k = c.read_all-taken.ensures.read in
    record { bytes = k.bytes; before = _; ends = λ input h. c.end.ensures.ends (input ++ k.bytes) (k.holds input h) }

pub returns-clause-answered : goal.returns-clause-answered
returns-clause-answered g c = all_answered c.requires c.read_all-taken.ensures.streamed c.end.ensures.written

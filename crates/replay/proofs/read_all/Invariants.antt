-- What the loop of `read_all` keeps: what was read is behind the input, a byte at least for each read (`Going`); and it is what the reader gave, and
-- what it adds is written (`Streaming`). Assumes nothing.
use Rattle.replay.specs.Open.{lent}
use Rattle.replay.proofs.Reading.{Going}
use Rattle.replay.proofs.Streaming.{Streaming}
use Rattle.replay.proofs.read_all.Given as goal

abbrev pub invariant-loop : goal.invariant-loop
invariant-loop g l =
    let i = l.initial in
    record {
      going : Going (lent i.kept) (lent l.kept) l.out l.counter;
      streaming : Streaming i.streams.failed l.streams.failed (g.R.Read.remaining i.streams.input) (g.R.Read.remaining l.streams.input)
          (g.W.Write.contents i.streams.output) (g.W.Write.contents l.streams.output) (lent i.kept) (lent l.kept) l.counter;
    }

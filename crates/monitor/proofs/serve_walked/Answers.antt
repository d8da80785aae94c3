-- `serve_walked` meets its contract: what a call came to, in numbers. Assumes nothing.
use Rattle.monitor.proofs.CallEnds.{settled_walked}
use Rattle.monitor.proofs.serve_walked.Goals as goal

pub returns : goal.returns
returns c = settled_walked c.settled.ensures c.answered.ensures

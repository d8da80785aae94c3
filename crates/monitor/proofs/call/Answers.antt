-- `call` meets its contract: the first half of `call_walked`. Assumes nothing.
use Rattle.monitor.proofs.call.Goals as goal

pub returns : goal.returns
returns c = c.call_walked.ensures.called

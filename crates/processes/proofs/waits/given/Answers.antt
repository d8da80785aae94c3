-- `waits::given` meets its contract: the message is read, and goes into the answer. Assumes nothing.
use Rattle.answers.proofs.Promises.{can}
use Rattle.processes.proofs.waits.given.Goals as goal

pub done-requires : goal.done-requires
done-requires c = can c.requires (λ m w i. tt)

pub returns : goal.returns
returns c m w i = rw (← c.message.ensures m w i) (c.done.ensures m w tt)

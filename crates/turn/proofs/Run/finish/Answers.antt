-- `finish` meets its contract: nothing is left to do, or the layout is done, and written only if it is refused. Assumes nothing.
use Rattle.turn.proofs.Ending.{end_silent, end_done, end_refused}
use Rattle.turn.proofs.Run.finish.Goals as goal

pub returns-in_default : goal.returns-in_default
returns-in_default c s k = end_silent c.args.self.now.list c.args.self.now.progress c.in_default.not-Gathering s k

pub returns-in-Ok : goal.returns-in-Ok
returns-in-Ok c s k =
    end_done c.args.self.now.list (λ ws e z. rw c.in-Ok.is at (c.lay_out.ensures ws e z)) s (rw c.in-Gathering.is at k)

pub returns-in-Err : goal.returns-in-Err
returns-in-Err c s k =
    end_refused c.args.self.now.list (λ ws e z. rw c.in-Err.is at (c.lay_out.ensures ws e z)) c.write_answer.ensures s (rw c.in-Gathering.is at k)

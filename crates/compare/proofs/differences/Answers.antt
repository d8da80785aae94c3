-- `differences` meets its contract: one pass counts, and one fills. Assumes nothing.
use Rattle.compare.proofs.Answer.{answers_none, answers_short, answers_all}
use Rattle.compare.proofs.differences.Goals as goal

pub returns-then-count-eq0 : goal.returns-then-count-eq0
returns-then-count-eq0 c = answers_none c.before.before.before.pass-count.ensures c.if-count-eq0.true

pub returns-then-room-count : goal.returns-then-room-count
returns-then-room-count c = answers_short c.before.before.before.before.pass-count.ensures c.if-room-count.true

pub returns : goal.returns
returns c =
    let f = c.before.before.before.before in
    answers_all f.before.before.before.before.pass-count.ensures c.before.before.pass.ensures f.if-room-count.false

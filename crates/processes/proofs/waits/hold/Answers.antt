-- `waits::hold` meets its contract: the message is read, then leaves the queue, is held, and its taker has no reason any more. Assumes nothing.
use native.Mathlib.Omega.{arith}
use Rattle.machine.specs.Moves.{unlink}
use Rattle.table.specs.Fits.{MayTakeFirst}
use Rattle.table.specs.Promise.{Does}
use Rattle.table.proofs.Taking.{taken_is, taken_unlinks, taken_is_out}
use Rattle.answers.proofs.Promises.{can}
use Rattle.processes.proofs.waits.hold.Goals as goal
use Rattle.processes.proofs.waits.hold.Goals.{After-unlink_first}

-- ---- the places behind each call, each from the next
-- ---- what the words show without the message
leaves : (e : After-unlink_first) → let a = (e).args in
    Does a.t.now e.unlink_first.new.t (MayTakeFirst a.p a.b) (unlink a.p a.b)
leaves e m w may = e.unlink_first.ensures m w (taken_unlinks may.0, may.1)

-- ---- the calls
pub given-answer-requires : goal.given-answer-requires
given-answer-requires c = can c.requires (λ m w may. taken_is may.0)

pub unlink_first-requires : goal.unlink_first-requires
unlink_first-requires c = can c.before.requires (λ m w may. (taken_unlinks may.0, may.1))

pub set_standing-requires : goal.set_standing-requires
set_standing-requires c =
    let e = c.before.before.before in
    let p = (e).requires in
    record { m = _; shows = leaves (goal.at.set_standing-requires c).After-unlink_first p.m p.shows p.may; may = taken_is_out p.may.0 }

pub set_process_word-requires : goal.set_process_word-requires
set_process_word-requires c =
    let e = c.before.before.before in
    let p = (e).requires in
    let s = e.set_standing.ensures _ (leaves (goal.at.set_process_word-requires c).After-unlink_first p.m p.shows p.may) (taken_is_out p.may.0) in
    record { m = _; shows = s; may = (p.may.0.process, omega arith, omega arith) }

pub returns : goal.returns
returns c m w may =
    let e = c.before.before.before.before.before.before in
    let s1 = e.set_standing.ensures _ (leaves (goal.at.returns c).After-unlink_first m w may) (taken_is_out may.0) in
    let s2 = c.before.before.set_process_word.ensures _ s1 (may.0.process, omega arith, omega arith) in
    record { answer = (e).given-answer.ensures m w (taken_is may.0); words = s2 }

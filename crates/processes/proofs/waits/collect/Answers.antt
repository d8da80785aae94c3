-- `waits::collect` meets its contract: the answer is read, then leaves the queue, is freed, and its taker has no reason any more. Assumes nothing.
use native.Mathlib.Omega.{arith}
use Rattle.machine.specs.Moves.{unlink, free}
use Rattle.table.specs.Fits.{MayTake}
use Rattle.table.specs.Promise.{Does}
use Rattle.table.proofs.Taking.{taken_is, taken_unlinks, taken_is_out}
use Rattle.answers.proofs.Promises.{can}
use Rattle.processes.proofs.waits.collect.Goals as goal
use Rattle.processes.proofs.waits.collect.Goals.{After-free, After-unlink}

-- ---- the places behind each call, each from the next
-- ---- what the words show there
leaves : (e : After-unlink) → let a = (e).args in Does a.t.now e.unlink.new.t (MayTake a.p a.b) (unlink a.p a.b)
leaves e m w may = e.unlink.ensures m w (taken_unlinks may)

frees : (e : After-free) → let a = (e).args in
    Does a.t.now e.free.new.t (MayTake a.p a.b) (λ m. free a.b (unlink a.p a.b m))
frees e m w may = e.free.ensures _ (leaves (goal.at.After-free e).After-unlink m w may) (taken_is_out may)

-- ---- the calls
pub given-answer-requires : goal.given-answer-requires
given-answer-requires c = can c.requires (λ m w may. taken_is may)

pub unlink-requires : goal.unlink-requires
unlink-requires c = can c.before.requires (λ m w may. taken_unlinks may)

pub free-requires : goal.free-requires
free-requires c =
    let e = c.before.before.before in
    let p = (e).requires in
    record { m = _; shows = leaves (goal.at.free-requires c).After-unlink p.m p.shows p.may; may = taken_is_out p.may }

pub set_process_word-requires : goal.set_process_word-requires
set_process_word-requires c =
    let e = c.before.before.before in
    let p = (e).requires in
    record { m = _; shows = frees (goal.at.set_process_word-requires c).After-free p.m p.shows p.may; may = (p.may.process, omega arith, omega arith) }

pub returns : goal.returns
returns c m w may =
    let e = c.before.before.before.before.before.before in
    let s = c.before.before.set_process_word.ensures _ (frees (goal.at.returns c).After-free m w may) (may.process, omega arith, omega arith) in
    record { answer = (e).given-answer.ensures m w (taken_is may); words = s }

-- `withdraw` meets its contract: out of the queue, and free. Assumes nothing.
use Rattle.answers.proofs.Promises.{can}
use Rattle.table.proofs.Taking.{taken_unlinks, taken_is_out}
use Rattle.clean.proofs.withdraw.Goals as goal

pub unlink-requires : goal.unlink-requires
unlink-requires c = can c.before.before.requires (λ m s may. taken_unlinks may)

pub free-requires : goal.free-requires
free-requires c =
    let p = c.before.before.before.before.before.before.requires in
    record { m = _; shows = c.before.before.before.unlink.ensures p.m p.shows (taken_unlinks p.may); may = taken_is_out p.may }

pub returns : goal.returns
returns c m s may =
    let here = c.before.before.before.before.before.before in
    c.before.before.free.ensures _ (here.unlink.ensures m s (taken_unlinks may)) (taken_is_out may)

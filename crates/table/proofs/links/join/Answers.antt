-- `links::join` meets its contract: both links in turn. Assumes nothing.
use native.Mathlib.Omega.{arith}
use Rattle.table.proofs.links.join.Goals as goal

pub set_link-requires-2 : goal.set_link-requires-2
set_link-requires-2 c =
    let p = c.before.before.before.before.before.before.requires in
    let s1 = c.before.before.before.set_link.ensures p.m p.g p.shows (record { low = omega arith; linkable = p.may.from }) in
    record { m = p.m; g = _; shows = s1; may = record { low = omega arith; linkable = p.may.to } }

pub returns : goal.returns
returns c m g s may =
    let s1 = c.before.before.before.before.before.before.set_link.ensures m g s (record { low = omega arith; linkable = may.from }) in
    c.before.before.set_link-2.ensures m _ s1 (record { low = omega arith; linkable = may.to })

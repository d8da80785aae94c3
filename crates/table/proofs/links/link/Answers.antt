-- `links::link` meets its contract. Assumes nothing.
use native.Mathlib.Omega.{arith}
use Rattle.table.proofs.Linking.{link_read, link_inside}
use Rattle.table.proofs.links.link.Goals as goal

pub offset_bounds-t-of_link : goal.offset_bounds-t-of_link
offset_bounds-t-of_link c = let p = c.before.before.requires in omega (arith, link_inside p.g p.shows _ _ _ p.may)

pub bounds-t-of_link : goal.bounds-t-of_link
bounds-t-of_link c = let p = c.before.before.before.requires in rw c.before.of_link.ensures (link_inside p.g p.shows _ _ _ p.may)

pub returns : goal.returns
returns c m g s may = rw c.before.of_link.ensures (link_read g s _ _ _ may)

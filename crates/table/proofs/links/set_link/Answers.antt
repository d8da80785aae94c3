-- `links::set_link` meets its contract. Assumes nothing.
use native.Mathlib.Omega.{arith}
use Rattle.table.proofs.Linking.{link_stored, link_inside}
use Rattle.table.proofs.links.set_link.Goals as goal

pub offset_bounds-t-i : goal.offset_bounds-t-i
offset_bounds-t-i c = let p = c.requires in omega (arith, link_inside p.g p.shows _ _ _ p.may)

pub bounds-t-i : goal.bounds-t-i
bounds-t-i c = let p = c.requires in rw c.of_link-i.ensures (link_inside p.g p.shows _ _ _ p.may)

pub returns : goal.returns
returns c m g s may = rw c.of_link-i.ensures (link_stored g s _ _ _ c.args.y may)

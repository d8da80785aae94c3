-- `links::insert` meets its contract: the new number is linked between the two. Assumes nothing.
use Rattle.table.specs.Links.{queue_in, neighbours}
use Rattle.table.proofs.Linking.{as_neighbours, links_found, links_inside}
use Rattle.table.proofs.Changes.{insert_before, insert_links, insert_after, inserted}
use Rattle.table.proofs.links.insert.Goals as goal

pub set_link-requires : goal.set_link-requires
set_link-requires c =
    let p = c.requires in
    let a = c.args in
    record { m = p.m; g = neighbours p.m; shows = as_neighbours p.shows; may = insert_before p.m (queue_in a.queue) p.may }

pub set_links-requires : goal.set_links-requires
set_links-requires c =
    let after-set-link = c.before.before.before in
    let after-of-member = after-set-link.before.before in
    let start = after-of-member in
    let p = start.requires in
    let a = start.args in
    let w = queue_in a.queue in
    let found = insert_links p.m w p.may (links_found p.shows w a.x (after-of-member.of_member-i.ensures)) in
    let s = after-set-link.set_link.ensures p.m _ (as_neighbours p.shows) (insert_before p.m w p.may) in
    links_inside _ s w _ _ found

pub set_link-requires-2 : goal.set_link-requires-2
set_link-requires-2 c =
    let after-set-links = c.before.before.before in
    let after-set-link = after-set-links.before.before.before.before in
    let after-of-member = after-set-link.before.before in
    let start = after-of-member in
    let p = start.requires in
    let a = start.args in
    let w = queue_in a.queue in
    let found = insert_links p.m w p.may
    (links_found p.shows w a.x (after-of-member.of_member-i.ensures)) in
    let s1 = after-set-link.set_link.ensures p.m _ (as_neighbours p.shows) (insert_before p.m w p.may) in
    record { m = p.m; g = _; shows = after-set-links.set_links.ensures p.m _ w _ s1 found; may = insert_after p.m w p.may }

pub returns : goal.returns
returns c m r s may puts =
    let after-set-links = c.before.before.before.before.before.before in
    let after-set-link = after-set-links.before.before.before.before in
    let after-of-member = after-set-link.before.before in
    let start = after-of-member.before.before.before in
    let a = start.args in
    let w = queue_in a.queue in
    let found = insert_links m w may
    (links_found s w a.x
    (after-of-member.of_member-i.ensures)) in
    let s1 = after-set-link.set_link.ensures m _ (as_neighbours s) (insert_before m w may) in
    let s2 = after-set-links.set_links.ensures m _ w _ s1 found in
    inserted m w may r puts (c.before.before.set_link-2.ensures m _ s2 (insert_after m w may))

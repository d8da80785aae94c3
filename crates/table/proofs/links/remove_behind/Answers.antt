-- `links::remove_behind` meets its contract: what follows is read, its neighbours are joined, then it has no links. Assumes nothing.
use native.Mathlib.Omega.{arith}
use mathlib.Core.Path.{◌∙◌}
use borrow.Author.Rules.{rules}
use Rattle.table.specs.Links.{queue_in, neighbours}
use Rattle.table.proofs.Linking.{as_neighbours, links_found, links_inside, next_read}
use Rattle.table.proofs.Changes.{remove_is, remove_links, remove_joins, removed}
use Rattle.table.proofs.links.remove_behind.Goals as goal

pub of_member-i-requires : goal.of_member-i-requires
of_member-i-requires c =
    let p = c.requires in
    let a = c.args in
    let one = remove_is p.m (queue_in a.queue) p.may.0 in
    (omega arith, one)

pub word_at-next-requires : goal.word_at-next-requires
word_at-next-requires c =
    let p = c.requires in
    let a = c.args in
    let w = queue_in a.queue in
    let found = remove_links p.m w p.may.0 (links_found p.shows w a.x (c.of_member-i.ensures)) in
    let inside = links_inside _ (as_neighbours p.shows) w _ _ found in
    omega arith

pub returns : goal.returns
returns c m s may =
    let here = c.before.before.before.before.before.before in
    let a = here.args in
    let w = queue_in a.queue in
    let found = remove_links m w may.0 (links_found s w a.x (here.before.before.before.before.of_member-i.ensures)) in
    let e = here.before.before.word_at-next.ensures ∙ next_read _ (as_neighbours s) w _ _ found in
    let s1 = here.join.ensures m _ (as_neighbours s) (remove_joins m w may.0 e may.1) in
    removed m w may.0 e may.1 (c.before.before.set_links.ensures m _ w _ s1 found)

pub join-requires : goal.join-requires
join-requires c =
    let p = c.requires in
    let a = c.args in
    let w = queue_in a.queue in
    let s = as_neighbours p.shows in
    let found = remove_links p.m w p.may.0 (links_found p.shows w a.x (c.of_member-i.ensures)) in
    let e = c.word_at-next.ensures ∙ next_read _ s w _ _ found in
    record { m = p.m; g = neighbours p.m; shows = s; may = remove_joins p.m w p.may.0 e p.may.1 }

pub set_links-requires : goal.set_links-requires
set_links-requires c =
    let here = c in
    let p = here.requires in
    let a = here.args in
    let w = queue_in a.queue in
    let found = remove_links p.m w p.may.0 (links_found p.shows w a.x (here.of_member-i.ensures)) in
    let inside = links_inside _ (as_neighbours p.shows) w _ _ found in
    search rules

-- `links::remove` meets its contract: what stands before it is read, and it leaves from behind that. Assumes nothing.
use native.Mathlib.Omega.{arith}
use mathlib.Core.Path.{◌∙◌}
use Rattle.table.specs.Links.{queue_in}
use Rattle.table.proofs.Linking.{as_neighbours, links_found, links_inside, previous_read}
use Rattle.table.proofs.Changes.{remove_is, remove_links}
use Rattle.table.proofs.links.remove.Goals as goal

pub of_member-i-requires : goal.of_member-i-requires
of_member-i-requires c =
    let p = c.requires in
    let a = c.args in
    let one = remove_is p.m (queue_in a.queue) p.may in
    (omega arith, one)

pub overflow_add-i : goal.overflow_add-i
overflow_add-i c =
    let p = c.requires in
    let a = c.args in
    let w = queue_in a.queue in
    let found = remove_links p.m w p.may (links_found p.shows w a.x (c.of_member-i.ensures)) in
    let inside = links_inside _ (as_neighbours p.shows) w _ _ found in
    omega arith

pub word_at-previous-requires : goal.word_at-previous-requires
word_at-previous-requires c =
    let p = c.requires in
    let a = c.args in
    let w = queue_in a.queue in
    let found = remove_links p.m w p.may (links_found p.shows w a.x (c.of_member-i.ensures)) in
    links_inside _ (as_neighbours p.shows) w _ _ found

pub remove_behind-requires : goal.remove_behind-requires
remove_behind-requires c =
    let p = c.requires in
    let a = c.args in
    let w = queue_in a.queue in
    let found = remove_links p.m w p.may (links_found p.shows w a.x (c.of_member-i.ensures)) in
    record { m = p.m; shows = p.shows; may = (p.may, c.word_at-previous.ensures ∙ previous_read _ (as_neighbours p.shows) w _ _ found) }

pub returns : goal.returns
returns c m s may =
    let after-word-at = c.before.before.before.before in
    let after-of-member = after-word-at.before.before in
    let start = after-of-member in
    let a = start.args in
    let w = queue_in a.queue in
    let found = remove_links m w may (links_found s w a.x (after-of-member.of_member-i.ensures)) in
    c.before.before.remove_behind.ensures m s (may, after-word-at.word_at-previous.ensures ∙ previous_read _ (as_neighbours s) w _ _ found)

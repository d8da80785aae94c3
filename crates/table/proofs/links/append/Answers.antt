-- `links::append` meets its contract: the last is read, and x goes in behind it. Assumes nothing.
use Rattle.table.specs.Links.{queue_in, neighbours}
use Rattle.table.proofs.Linking.{as_neighbours}
use Rattle.table.proofs.Queues.{add_reads, add_puts, add_inserts}
use Rattle.table.proofs.links.append.Goals as goal

pub link-last-requires : goal.link-last-requires
link-last-requires c =
    let p = c.requires in
    let a = c.args in
    record { m = p.m; g = neighbours p.m; shows = as_neighbours p.shows; may = add_reads p.m (queue_in a.queue) p.may }

pub insert-requires : goal.insert-requires
insert-requires c =
    let p = c.requires in
    let a = c.args in
    let w = queue_in a.queue in
    let e = c.before.link-last.ensures p.m _ (as_neighbours p.shows) (add_reads p.m w p.may) in
    record { m = p.m; shows = p.shows; may = add_inserts p.m w p.may e }

pub returns : goal.returns
returns c m s may =
    let a = c.before.before.before.before.before.before.before.args in
    let w = queue_in a.queue in
    let e = c.before.before.before.before.link-last.ensures m _ (as_neighbours s) (add_reads m w may) in
    c.before.before.insert.ensures m _ s (add_inserts m w may e) (add_puts m w may e)

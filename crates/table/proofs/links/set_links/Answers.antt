-- `links::set_links` meets its contract: both links in turn. Assumes nothing.
use Rattle.table.proofs.Linking.{links_stored}
use Rattle.table.proofs.links.set_links.Goals as goal

pub returns : goal.returns
returns c m g w x s a = links_stored g s w x _ _ _ a

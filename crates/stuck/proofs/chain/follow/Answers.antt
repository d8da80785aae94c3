-- `chain::follow` meets its contract: nobody is visited at first, and what comes back tells the chain. Assumes nothing.
use mathlib.Core.Path.{refl}
use native.Mathlib.Omega.{arith}
use Rattle.stuck.proofs.Listing.{unvisited_all, lists_chain}
use Rattle.stuck.proofs.chain.follow.Goals as goal

pub process_step-end-requires : goal.process_step-end-requires
process_step-end-requires c =
    let p = c.before.before.before.requires in
    (p.0, (p.1.0, record { marks = refl; list = p.1.1.1; left = rw p.1.1.0 (unvisited_all _) }))

pub returns : goal.returns
returns c =
    let p = c.before.before.before.before.requires in
    lists_chain (omega (arith, p.0.fixed.P32, p.1.1.0)) c.process_step-end.ensures

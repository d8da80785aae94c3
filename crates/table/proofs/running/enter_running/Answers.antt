-- `running::enter_running` meets its contract: it goes in where it is found to. Assumes nothing.
use Prim.Native.Nat.{ℕ, ◌+◌}
use native.Mathlib.Omega.{arith}
use mathlib.Core.Path.{ap}
use Rattle.machine.specs.Machine.{priority}
use Rattle.table.proofs.Queues.{enter_inserts}
use Rattle.table.proofs.Walk.{passes_fewer}
use Rattle.table.proofs.running.enter_running.Goals as goal

pub insert-requires : goal.insert-requires
insert-requires c =
    let p = c.requires in
    let found = c.before.behind-gap.ensures.at p.m p.shows p.may.fits in
    record { m = p.m; shows = p.shows; may = enter_inserts p.m p.may (found.puts _) found.follows }

pub overflow_add-result : goal.overflow_add-result
overflow_add-result c =
    let after-behind = c.before.before.before.before.before in
    let after-bar = after-behind.before in
    let start = after-bar.before.before.before in
    let p = start.requires in
    let found = after-behind.behind-gap.ensures in
    omega (
      arith,
      found.few p.m p.shows,
      (found.at p.m p.shows p.may.fits).passes,
      passes_fewer (priority p.m) after-bar.bar.result p.may,
    )

pub returns : goal.returns
returns c =
    let after-insert = c.before.before.before in
    let after-behind = after-insert.before.before in
    let after-bar = after-behind.before in
    let start = after-bar.before.before.before in
    let found = after-behind.behind-gap.ensures.at in
    let bar = after-bar.bar.ensures in
    record {
      words =
          λ m s may.
          (let puts = rw (bar m s may.process) at
          ((found m s may.fits).puts start.args.p) in
          after-insert.insert.ensures m _ s (enter_inserts m may puts (found m s may.fits).follows) puts);
      gives = λ m s may. ap (λ (n : ℕ). n + 1) (rw (bar m s may.process) at (found m s may.fits).passes);
    }

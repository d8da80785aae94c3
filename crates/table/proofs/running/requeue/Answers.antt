-- `running::requeue` meets its contract: none, or one that stays, or one that leaves and enters. Assumes nothing.
use native.Mathlib.Omega.{arith}
use mathlib.Core.Path.{sym}
use borrow.Author.Tests.{eq-eqb, ne_eqb}
use Rattle.table.proofs.Queues.{leaves_enters}
use Rattle.table.proofs.Foremost.{stays_shown, stays_passing}
use Rattle.table.proofs.running.requeue.Goals as goal

pub returns-then-p-eq0 : goal.returns-then-p-eq0
returns-then-p-eq0 c =
    let none = eq-eqb c.before.before.args.p 0 c.if-p-eq0.true in
    record { words = λ m s may. rw none s; gives = λ m s may. rw none }

pub stays-requires : goal.stays-requires
stays-requires c =
    let p = c.requires in
    record { m = p.m; shows = p.shows; may = p.may c.if-p-eq0.false }

pub returns-then-stays : goal.returns-then-stays
returns-then-stays c =
    let some = c.if-p-eq0.false in
    let is = ne_eqb c.args.p 0 some in
    let first = c.stays.ensures c.if-stays.true in
    record {
      words = λ m s may. rw is (stays_shown m (may some) (first m s (may some)) s);
      gives = λ m s may. rw is (sym (stays_passing m (may some) (first m s (may some))));
    }

pub leave_running-requires : goal.leave_running-requires
leave_running-requires c =
    let p = c.requires in
    record { m = p.m; shows = p.shows; may = p.may c.if-p-eq0.false }

pub enter_running-requires : goal.enter_running-requires
enter_running-requires c =
    let after-leave-running = c in
    let past1 = after-leave-running.before.before.before.before.before in
    let start = past1 in
    let p = start.requires in
    let may = p.may past1.if-p-eq0.false in
    record { m = _; shows = after-leave-running.leave_running.ensures p.m p.shows may; may = leaves_enters may }

pub overflow_sub-result : goal.overflow_sub-result
overflow_sub-result c =
    let after-leave-running = c.before.before.before.before.before.before in
    let past1 = after-leave-running.before.before.before.before.before in
    let start = past1.before.before in
    let p = start.requires in
    let may = p.may past1.if-p-eq0.false in
    let leaves = after-leave-running.leave_running.ensures p.m p.shows may in
    omega (arith, c.before.before.enter_running.ensures.gives _ leaves (leaves_enters may))

pub returns : goal.returns
returns c =
    let after-leave-running = c.before.before.before.before.before.before in
    let past1 = after-leave-running.before.before.before.before.before in
    let start = past1.before.before in
    let some = past1.if-p-eq0.false in
    let enters = c.before.before.enter_running.ensures in
    let leaves = after-leave-running.leave_running.ensures in
    let is = ne_eqb start.args.p 0 some in
    record {
      words = λ m s may. rw is (enters.words _ (leaves m s (may some)) (leaves_enters (may some)));
      gives = λ m s may. rw is (let k = enters.gives _ (leaves m s (may some)) (leaves_enters (may some)) in omega arith);
    }

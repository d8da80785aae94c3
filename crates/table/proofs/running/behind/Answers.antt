-- `running::behind` meets its contract. The loop's invariant: up to `at` all are of priority `bar` or higher, `follower` follows, and `passed`
-- they are, fewer than a word counts. Assumes nothing.
use native.Mathlib.Omega.{arith}
use mathlib.Core.Logic.{inl, ⊎_elim}
use mathlib.Core.Path.{refl, sym, ◌∙◌}
use Prim.Native.Nat.{ℕ, ◌<◌, ◌+◌}
use Rattle.machine.specs.Machine.{Machine, priority}
use Rattle.machine.specs.Words.{Shows}
use Rattle.table.specs.Fits.{MayWalk}
use Rattle.table.specs.Links.{neighbours, Processes, MayLink}
use Rattle.table.proofs.Store.{first_word}
use Rattle.table.proofs.Linking.{as_neighbours}
use Rattle.table.proofs.Walk.{Walk, may_ask, walk_begins, walk_ends, walk_stops, walk_goes}
use Rattle.table.proofs.running.behind.Goals as goal
use Rattle.table.proofs.running.behind.Goals.{After-shared_slice_known-1, Else-process_word-bar}

-- what the walk has come to may be asked for what follows
may_follow : (m : Machine) {bar at gone : ℕ} → MayWalk m → Walk m.P (priority m) bar m.running at gone → MayLink (Processes 0) 0 at m
may_follow m may k = record { low = omega arith; linkable = (omega arith, λ l. ⊎_elim (λ e. absurd (omega arith)) (may.within _) (k.within _ (inl refl))) }

pub link-follower-requires : goal.link-follower-requires
link-follower-requires c =
    let p = c.before.requires in
    let k = walk_begins (priority p.m) c.before.args.bar p.may in
    record { m = p.m; g = neighbours p.m; shows = as_neighbours p.shows; may = may_follow p.m p.may k }

pub loop-follower-init : goal.loop-follower-init
loop-follower-init c m s may =
    let k = walk_begins (priority m) c.before.before.args.bar may in
    (k, c.link-follower.ensures m _ (as_neighbours s) (may_follow m may k))

pub process_word-requires : goal.process_word-requires
process_word-requires c =
    let p = c.before.before.before.before.requires in
    let k = c.before.loop-follower.invariant p.m p.shows p.may in
    record { m = p.m; shows = p.shows; may = may_ask p.m _ p.may k.1 c.loop-follower-test.true }

-- the number of processes is a word
few : (c : After-shared_slice_known-1) (m : Machine) → Shows c.before.args.t.now m → m.P < 65536
few c m s = omega (arith, c.shared_slice_known-1.given 0, first_word s)

pub returns-then-process_word-bar : goal.returns-then-process_word-bar
returns-then-process_word-bar c =
    let some = c.before.before.loop-follower-test.true in
    record {
      at = λ m s may. (let k = c.loop-follower.invariant m s may in
          let other = c.before.process_word.ensures m s (may_ask m _ may k.1 some) in
          walk_stops k.0 k.1 some (rw other at c.if-process_word-bar.true));
      few = few (goal.at.returns-then-process_word-bar c).After-shared_slice_known-1;
    }

-- one further
goes : (c : Else-process_word-bar) (m : Machine) → Shows c.args.t.now m → MayWalk m
    → Walk m.P (priority m) c.args.bar m.running c.loop-follower.follower
    (c.loop-follower.passed + 1)
goes c m s may =
    let k = c.loop-follower.invariant m s may in
    let some = c.before.before.loop-follower-test.true in
    let other = c.before.process_word.ensures m s (may_ask m _ may k.1 some) in
    walk_goes k.0 k.1 some (rw other at c.if-process_word-bar.false)

pub link-follower-requires-in-loop-follower : goal.link-follower-requires-in-loop-follower
link-follower-requires-in-loop-follower c =
    let p = c.before.before.before.before.before.before.requires in
    record { m = p.m; g = neighbours p.m; shows = as_neighbours p.shows; may = may_follow p.m p.may (goes c p.m p.shows p.may) }

-- so that the count is a word too
counted : (c : Else-process_word-bar) → c.loop-follower.passed + 1 < 65536
counted c =
    let p = c.requires in
    omega (arith, (goes c p.m p.shows p.may).short, c.shared_slice_known-1.given 0, first_word p.shows)

pub overflow_add-passed : goal.overflow_add-passed
overflow_add-passed c = omega (arith, counted (goal.at.overflow_add-passed c).Else-process_word-bar)

pub loop-follower-smaller : goal.loop-follower-smaller
loop-follower-smaller c = omega (arith, counted (goal.at.loop-follower-smaller c).Else-process_word-bar)

pub loop-follower-preserved : goal.loop-follower-preserved
loop-follower-preserved c m s may =
    let k = goes (goal.at.loop-follower-preserved c).Else-process_word-bar m s may in
    (k, c.link-follower-in-loop-follower.ensures m _ (as_neighbours s) (may_follow m may k))

pub returns : goal.returns
returns c =
    record {
      at = λ m s may. (let k = c.before.loop-follower.invariant m s may in walk_ends k.0 (sym k.1 ∙ c.loop-follower-test.false));
      few = few (goal.at.returns c).After-shared_slice_known-1;
    }

-- `tick_one` meets its contract: the delay is none, falls, or falls to 0 so that p wakes. Assumes nothing.
use mathlib.Core.Path.{◌≡◌, sym, ◌∙◌}
use native.Mathlib.Omega.{arith}
use Rattle.machine.specs.Machine.{Machine, delay}
use Rattle.machine.specs.Words.{Shows}
use Rattle.table.specs.Promise.{Gives}
use Rattle.table.proofs.LegalFits.{legal_wake}
use Rattle.clock.specs.Clock.{MayTick}
use Rattle.clock.proofs.Ticking.{delay_word, delay_set, asleep, tick_none, tick_falls, tick_wakes, sleeps_on, wakes_up}
use Rattle.clock.proofs.tick_one.Goals as goal
use Rattle.clock.proofs.tick_one.Goals.{After-process_word-delay, Else-delay-gt1}

-- ---- the places: the delay read, set, and found to end, each from the next
-- ---- the delay that was read, and the one that is to end
delay_read : (e : After-process_word-delay) → let a = e.args in Gives a.t.now (MayTick a.p) (λ m. delay m a.p) e.process_word-delay.result
delay_read e m s may = e.process_word-delay.ensures m s (delay_word may.1)

one : (e : Else-delay-gt1) → (e).process_word-delay.result ≡ 1
one e = omega arith

ends : (e : Else-delay-gt1) → let a = (e).args in (m : Machine) → Shows a.t.now m → MayTick a.p m → delay m a.p ≡ 1
ends e m s may = sym (delay_read (goal.at.Else-delay-gt1 e).After-process_word-delay m s may) ∙ one e

-- ---- none, or it falls
pub returns-then-delay-eq0 : goal.returns-then-delay-eq0
returns-then-delay-eq0 c =
    record {
      words = λ m s may. tick_none _ m (delay_read (goal.at.returns-then-delay-eq0 c).After-process_word-delay m s may) c.if-delay-eq0.true s;
      arrives = λ m s may. sleeps_on _ m (omega (arith, delay_read (goal.at.returns-then-delay-eq0 c).After-process_word-delay m s may));
    }

-- ---- it falls to 0
pub wake-requires : goal.wake-requires
wake-requires c =
    let e = c.before in
    let p = (e).requires in
    let sleeps = asleep p.may.0 p.may.1 (ends (goal.at.wake-requires c).Else-delay-gt1 p.m p.shows p.may) in
    record {
      m = _;
      shows = e.set_process_word.ensures p.m p.shows (delay_set p.may.1);
      may = legal_wake p.may.0 _ p.may.1 sleeps;
    }

pub returns : goal.returns
returns c =
    let e = c.before.before.before.before in
    let falls = e.set_process_word.ensures in
    let wakes = c.before.before.wake.ensures in
    record {
      words = λ m s may. (let sleeps = asleep may.0 may.1 (ends (goal.at.returns c).Else-delay-gt1 m s may) in
          tick_wakes _ m (delay_read (goal.at.returns c).After-process_word-delay m s may) (one (goal.at.returns c).Else-delay-gt1)
          (wakes.words _ (falls m s (delay_set may.1)) (legal_wake may.0 _ may.1 sleeps)));
      arrives = λ m s may. (let sleeps = asleep may.0 may.1 (ends (goal.at.returns c).Else-delay-gt1 m s may) in
          wakes.gives _ (falls m s (delay_set may.1)) (legal_wake may.0 _ may.1 sleeps) ∙
          wakes_up _ m (ends (goal.at.returns c).Else-delay-gt1 m s may) sleeps.0);
    }

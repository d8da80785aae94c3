-- `tick` meets its contract: all delays fall, who was current goes behind its equals, the ages grow, and the answers tell those that woke
-- and the move. Assumes nothing.
use mathlib.Core.Path.{◌≡◌, ap, ◌∙◌}
use Prim.Native.Nat.{ℕ}
use Rattle.machine.specs.Machine.{Machine, zeros}
use Rattle.machine.specs.Moves.{requeue}
use Rattle.machine.specs.Refusal.{refusal}
use Rattle.machine.specs.Step.{done, woken, grown, ticked, effect, step}
use Rattle.machine.specs.Walk.{Walk, effort, walk}
use Rattle.machine.specs.Legal.{Legal}
use Rattle.machine.specs.Words.{Shows}
use Rattle.laws.proofs.Walks.{waking_entries}
use Rattle.table.specs.Fits.{MayRequeue}
use Rattle.table.specs.Promise.{Does}
use Rattle.table.specs.Links.{moving_on}
use Rattle.clock.proofs.Ticking.{may_requeue, requeue_ticks}
use Rattle.clock.proofs.tick.Goals as goal
use Rattle.clock.proofs.tick.Goals.{After-grow_all, After-requeue-moved, After-tick_all-woken}

-- the wakes' walk and the move's, each in its place
abbrev apart : Walk → ℕ → Walk
apart w moved = record { entries = w.entries; passed = w.passed; most = w.most; moved = moved }

told_apart : {v w : Walk} {k n : ℕ} → v ≡ w → k ≡ n → apart v k ≡ apart w n
told_apart e f = rw (e, f)

-- ---- the places behind each call, each from the next
-- ---- who was current goes behind its equals
may_move : (e : After-tick_all-woken) (m : Machine) → Shows e.args.t.now m → Legal m → MayRequeue e.current-current.result (woken m)
may_move e m s L = may_requeue L (e.current-current.ensures m s tt)

pub requeue-moved-requires : goal.requeue-moved-requires
requeue-moved-requires c =
    let e = c in
    let p = e.requires in
    record {
      m = _;
      shows = e.tick_all-woken.ensures.words p.m p.shows p.may;
      may =
          may_move (goal.at.requeue-moved-requires c).After-tick_all-woken p.m p.shows p.may;
    }

moves : (e : After-requeue-moved) → let s = e in
    Does s.args.t.now e.requeue-moved.new.t Legal (λ m. requeue s.current-current.result (woken m))
moves e m s L = e.requeue-moved.ensures.words _ (e.tick_all-woken.ensures.words m s L) (may_move (goal.at.After-requeue-moved e).After-tick_all-woken m s L)

-- ---- the ages grow
pub grow_all-requires : goal.grow_all-requires
grow_all-requires c =
    let e = c in
    let p = e.requires in
    record { m = _; shows = moves (goal.at.grow_all-requires c).After-requeue-moved p.m p.shows p.may; may = tt }

grows : (e : After-grow_all) → let s = e in
    Does s.args.t.now e.grow_all.new.t Legal (λ m. grown (requeue s.current-current.result (woken m)))
grows e m s L = e.grow_all.ensures _ (moves (goal.at.After-grow_all e).After-requeue-moved m s L) tt

-- ---- the answer
pub done-requires : goal.done-requires
done-requires c =
    let e = c in
    let p = e.requires in
    record { m = _; shows = grows (goal.at.done-requires c).After-grow_all p.m p.shows p.may; may = tt }

pub returns : goal.returns
unfolding step walk refusal effect effort
returns c =
    let e = c in
    let f = e in
    let all = f.tick_all-woken.ensures in
    record {
      serves = λ m s L. (let words = requeue_ticks m (f.current-current.ensures m s tt) (grows (goal.at.returns c).After-grow_all m s L) in
          let woken = ap (λ (w : Walk). w.entries) (all.walk m s L) ∙ waking_entries L in
          record { answer = c.done.ensures _ words tt ∙ ap (λ (k : ℕ). (done k 0 zeros (ticked m)).answer) woken; words = words });
      walks = λ m s L. (let by = f.current-current.ensures m s tt in
          let far = e.requeue-moved.ensures.gives _ (all.words m s L) (may_move (goal.at.returns c).After-tick_all-woken m s L) ∙
          ap (λ (p : ℕ). moving_on p (woken m)) by in
          told_apart (all.walk m s L) far);
    }

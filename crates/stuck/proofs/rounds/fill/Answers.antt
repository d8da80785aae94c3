-- `rounds::fill` meets its contract. The loop's invariant: the room has the rings of the first a processes, and behind them what was there.
-- Assumes nothing.
use Prim.Native.Nat.{◌+◌, ◌<◌}
use native.Mathlib.Omega.{arith}
use Rattle.machine.specs.Queue.{Range}
use Rattle.machine.specs.Sound.{P_of}
use Rattle.stuck.proofs.Growing.{filling_none, filling_left, filling_fits, filling_more, filling_done}
use Rattle.stuck.proofs.rounds.fill.Goals as goal
use Rattle.stuck.proofs.rounds.fill.Goals.{In-loop-at}

-- in the loop there is a process left
left : (c : In-loop-at) → c.before.loop-at.a < P_of c.before.before.before.before.args.t.now
left c = filling_left c.before.before.before.before.requires.1 c.before.loop-at.invariant c.loop-at-test.true

pub loop-at-init : goal.loop-at-init
loop-at-init c = filling_none

pub overflow_add-a : goal.overflow_add-a
overflow_add-a c = omega (arith, left (goal.at.overflow_add-a c).In-loop-at, c.before.before.before.before.requires.0.fixed.P32)

pub overflow_cast-a : goal.overflow_cast-a
overflow_cast-a c = omega (arith, left (goal.at.overflow_cast-a c).In-loop-at, c.before.before.before.before.before.requires.0.fixed.P32)

pub offset_bounds-sizes-a : goal.offset_bounds-sizes-a
offset_bounds-sizes-a c = omega (arith, left (goal.at.offset_bounds-sizes-a c).In-loop-at, c.before.before.before.before.before.requires.0.fixed.P32)

pub bounds-sizes-a : goal.bounds-sizes-a
bounds-sizes-a c = omega (arith, left (goal.at.bounds-sizes-a c).In-loop-at, c.before.before.before.before.before.requires.0.fixed.P32)

pub put_ring-at-requires : goal.put_ring-at-requires
put_ring-at-requires c =
    let s = c.before.before in
    let p = s.before.before.before.before.requires in
    let i : Range (P_of s.before.before.before.before.args.t.now) (s.before.loop-at.a + 1) =
    (omega arith, omega (arith, left (goal.at.put_ring-at-requires c).In-loop-at)) in
    (p.0, record { is = i; members = p.1.sizes _ i; fits = filling_fits s.before.loop-at.invariant (left (goal.at.put_ring-at-requires c).In-loop-at) p.1 })

pub loop-at-smaller : goal.loop-at-smaller
loop-at-smaller c = omega (arith, left (goal.at.loop-at-smaller c).In-loop-at)

pub loop-at-preserved : goal.loop-at-preserved
loop-at-preserved c =
    let s = c in
    filling_more s.loop-at.invariant (left (goal.at.loop-at-preserved c).In-loop-at) c.put_ring-at.auto.room c.put_ring-at.ensures

pub shape_of-room : goal.shape_of-room
shape_of-room c = c.before.loop-at.invariant.same

pub returns : goal.returns
returns c = filling_done c.before.before.before.before.requires.1 c.before.loop-at.invariant c.loop-at-test.false

-- `rounds::put_ring` meets its contract: no ring, or its members and a 0. Assumes nothing.
use Prim.Native.Nat.{◌+◌, ◌≤◌}
use native.Mathlib.Omega.{arith}
use lib.ListN.{length}
use Rattle.stuck.proofs.Growing.{put_none, put_fits, put_some}
use Rattle.stuck.proofs.rounds.put_ring.Goals as goal
use Rattle.stuck.proofs.rounds.put_ring.Goals.{Else-n-eq0}

pub returns-then-n-eq0 : goal.returns-then-n-eq0
returns-then-n-eq0 c = put_none c.before.before.before.requires.1 c.if-n-eq0.true

-- a ring that is to go into the room fits, with the 0 behind it
fits : (c : Else-n-eq0) → c.before.before.before.args.at + c.before.before.before.args.n + 1 ≤ length c.before.before.before.args.room.now
fits c = put_fits c.before.before.before.requires.1 c.if-n-eq0.false

pub write-requires : goal.write-requires
write-requires c = let p = c.before.before.before.before.requires in (p.0, (p.1.is, omega (arith, fits (goal.at.write-requires c).Else-n-eq0)))

pub overflow_add-room : goal.overflow_add-room
overflow_add-room c = omega (arith, fits (goal.at.overflow_add-room c).Else-n-eq0)

pub offset_bounds-room-at : goal.offset_bounds-room-at
offset_bounds-room-at c = omega (arith, fits (goal.at.offset_bounds-room-at c).Else-n-eq0)

pub bounds-room-at : goal.bounds-room-at
bounds-room-at c = omega (arith, fits (goal.at.bounds-room-at c).Else-n-eq0, c.write.auto.room)

pub overflow_add-result : goal.overflow_add-result
overflow_add-result c = omega (arith, fits (goal.at.overflow_add-result c).Else-n-eq0)

pub overflow_add-result-2 : goal.overflow_add-result-2
overflow_add-result-2 c = omega (arith, fits (goal.at.overflow_add-result-2 c).Else-n-eq0)

pub returns : goal.returns
returns c =
    let s = c.before.before.before.before in
    put_some s.before.before.before.requires.1 s.if-n-eq0.false _ c.before.before.write.ensures

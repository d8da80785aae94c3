-- `rounds::members` meets its contract. The loop's invariant: n links lead from a to p, no more than lead round. Assumes nothing.
use native.Mathlib.Omega.{arith}
use Rattle.stuck.proofs.Fits.{sound_fits}
use Rattle.stuck.proofs.Counting.{counting_one, counting_back, counting_few, counting_waits, counting_goes}
use Rattle.stuck.proofs.Leading.{leads_waits}
use Rattle.stuck.proofs.rounds.members.Goals as goal

pub holder-p-requires : goal.holder-p-requires
holder-p-requires c = let p = c.before.requires in (p.0, (p.1.0, leads_waits (sound_fits p.0) _ p.1.0 p.1.1))

pub loop-p-init : goal.loop-p-init
loop-p-init c =
    let p = c.before.before.requires in
    counting_one (sound_fits p.0) p.1.0 p.1.1 c.holder-p.ensures.0 c.holder-p.ensures.1

pub holder-p-requires-in-loop-p : goal.holder-p-requires-in-loop-p
holder-p-requires-in-loop-p c =
    let p = c.before.before.before.before.requires in
    let g = c.before.loop-p.invariant in
    (p.0, (g.is, counting_waits (sound_fits p.0) p.1.0 p.1.1 g))

pub overflow_add-n : goal.overflow_add-n
overflow_add-n c =
    let s = c.before.before in
    let p = s.before.before.before.requires in
    omega (arith, counting_few (sound_fits p.0) p.1.0 p.1.1 s.loop-p.invariant c.before.loop-p-test.true, p.0.fixed.P32)

pub loop-p-smaller : goal.loop-p-smaller
loop-p-smaller c =
    let s = c.before.before in
    let p = s.before.before.before.requires in
    omega (arith, counting_few (sound_fits p.0) p.1.0 p.1.1 s.loop-p.invariant c.before.loop-p-test.true)

pub loop-p-preserved : goal.loop-p-preserved
loop-p-preserved c =
    let s = c.before.before in
    let p = s.before.before.before.requires in
    counting_goes (sound_fits p.0) p.1.0 p.1.1 s.loop-p.invariant c.before.loop-p-test.true c.holder-p-in-loop-p.ensures.0 c.holder-p-in-loop-p.ensures.1

pub returns : goal.returns
returns c =
    let p = c.before.before.before.before.requires in
    counting_back (sound_fits p.0) p.1.0 p.1.1 c.before.loop-p.invariant c.loop-p-test.false

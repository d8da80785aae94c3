-- `meetings::lowest` meets its contract. The loop's invariant: low is the lowest of the n + 1 processes from p to q. Assumes nothing.
use Rattle.stuck.proofs.Fits.{sound_fits}
use Rattle.stuck.proofs.Lowest.{going_round_none, going_round_waits, going_round_over, going_round_closes, going_round_stays}
use Rattle.stuck.proofs.Lowest.{going_round_falls}
use Rattle.stuck.proofs.meetings.lowest.Goals as goal
use Rattle.stuck.proofs.meetings.lowest.Goals.{then-q-low, else-q-low}

pub loop-n-init : goal.loop-n-init
loop-n-init c = going_round_none c.requires.1.0

pub holder-q-requires : goal.holder-q-requires
holder-q-requires c = (c.requires.0, (c.loop-n.invariant.is, going_round_waits c.loop-n.invariant c.requires.1.1))

pub returns-then-q-p : goal.returns-then-q-p
returns-then-q-p c = going_round_closes c.loop-n.invariant c.requires.1.1 c.holder-q.ensures.0 c.if-q-p.true

pub loop-n-preserved : goal.loop-n-preserved
loop-n-preserved c =
    let g = c.loop-n.invariant in
    let o = c.holder-q.ensures in
    elim c.if-q-low.branch [
      | then-q-low w ↦ rw w.low-is (going_round_falls g c.requires.1.1 o.0 c.loop-n-test.true o.1 w.if-q-low.true)
      | else-q-low w ↦ rw w.low-is (going_round_stays g c.requires.1.1 o.0 c.loop-n-test.true o.1 w.if-q-low.false)
    ]

pub returns : goal.returns
returns c = going_round_over c.loop-n.invariant c.requires.1.1 (sound_fits c.requires.0) c.requires.1.0 c.loop-n-test.false

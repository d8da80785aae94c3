-- `rounds::measure` meets its contract. The loop's invariant: the rings of the first a processes are counted, and their words;
-- and these processes are met. Assumes nothing.
use native.Mathlib.Omega.{arith}
use Rattle.stuck.proofs.Marks.{met_none}
use Rattle.stuck.proofs.Growing.{measuring_none, measuring_yes, measuring_no, measuring_done, members_most}
use Rattle.stuck.proofs.rounds.measure.Goals as goal
use Rattle.stuck.proofs.rounds.measure.Goals.{then-n-ne0, else-n-ne0}

pub bounds-t-0 : goal.bounds-t-0
bounds-t-0 c = omega (arith, c.requires.0.long)

pub loop-before-init : goal.loop-before-init
loop-before-init c = (measuring_none c.requires.1, met_none)

pub size-n-requires : goal.size-n-requires
size-n-requires c =
    (c.requires.0, ((omega arith, omega arith), c.loop-before.invariant.1))

pub overflow_cast-sizes : goal.overflow_cast-sizes
overflow_cast-sizes c = omega arith

pub offset_bounds-sizes-a : goal.offset_bounds-sizes-a
offset_bounds-sizes-a c = omega (arith, c.requires.0.fixed.P32)

pub bounds-sizes-a : goal.bounds-sizes-a
bounds-sizes-a c = omega (arith, c.requires.0.fixed.P32)

pub overflow_add-rings : goal.overflow_add-rings
overflow_add-rings c = omega arith

-- the ring found is no longer than there are processes, and there are no more than 32
pub overflow_add-words : goal.overflow_add-words
overflow_add-words c =
    omega (arith, members_most c.loop-before.invariant.0 c.requires.0.fixed.P32 c.size-n.ensures.0)

pub overflow_add-words-then-n-ne0 : goal.overflow_add-words-then-n-ne0
overflow_add-words-then-n-ne0 c =
    omega (
      arith,
      members_most c.loop-before.invariant.0 c.requires.0.fixed.P32 c.size-n.ensures.0,
      c.loop-before.invariant.0.words_most,
      c.loop-before.invariant.0.few,
      c.requires.0.fixed.P32,
    )

pub loop-before-preserved : goal.loop-before-preserved
loop-before-preserved c =
    let g = c.loop-before.invariant.0 in
    let few = c.requires.0.fixed.P32 in (
      elim c.if-n-ne0.branch [
        | then-n-ne0 w ↦ rw (w.rings-is, w.words-is) (measuring_yes g few c.size-n.ensures.0 c.loop-before-test.true w.if-n-ne0.true)
        | else-n-ne0 w ↦ rw (w.rings-is, w.words-is) (measuring_no g few c.size-n.ensures.0 c.loop-before-test.true w.if-n-ne0.false)
      ],
      c.size-n.ensures.1,
    )

pub returns : goal.returns
returns c = measuring_done c.loop-before.invariant.0 c.loop-before-test.false

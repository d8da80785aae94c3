-- `steps::Place::step` meets its contract. Assumes nothing.
use mathlib.Core.Path.{refl}
use native.Mathlib.Omega.{arith}
use Rattle.compare.proofs.Bytes.{size_in, from_length}
use Rattle.compare.proofs.Stepping.{pair_steps, front_steps, within_some, advances}
use Rattle.compare.proofs.steps.Place.step.Goals as goal
use Rattle.compare.proofs.steps.Place.step.Goals.{then-x-self+else-k-gt0, else-x-self}

pub returns-then-k-gt0 : goal.returns-then-k-gt0
returns-then-k-gt0 c = advances (front_steps c.front-k.ensures.whole (omega arith) c.ends.ensures) refl refl

pub overflow_add-self-2 : goal.overflow_add-self-2
overflow_add-self-2 c =
    elim c.if-x-self.branch [
      | then-x-self+else-k-gt0 w ↦ rw w.self-is (omega (arith, size_in _ c.both-pair.ensures.size_one, from_length c.args.one.now c.args.self.now.one))
      | else-x-self w ↦ rw w.self-is (omega (arith, size_in _ c.both-pair.ensures.size_one, from_length c.args.one.now c.args.self.now.one))
    ]

pub overflow_add-self-3 : goal.overflow_add-self-3
overflow_add-self-3 c =
    elim c.if-x-self.branch [
      | then-x-self+else-k-gt0 w ↦ rw w.self-is (omega (arith, size_in _ c.both-pair.ensures.size_two, from_length c.args.two.now c.args.self.now.two))
      | else-x-self w ↦ rw w.self-is (omega (arith, size_in _ c.both-pair.ensures.size_two, from_length c.args.two.now c.args.self.now.two))
    ]

pub returns : goal.returns
returns c =
    let s = pair_steps c.both-pair.ensures (within_some c.requires) in
    elim c.if-x-self.branch [
      | then-x-self+else-k-gt0 w ↦ rw w.self-is (advances s refl refl)
      | else-x-self w ↦ rw w.self-is (advances s refl refl)
    ]

-- `character::settle` meets its contract. Assumes nothing.
use native.Mathlib.Omega.{arith}
use borrow.Author.Tests.{ne_eqb, le-leb, lt-leb}
use Rattle.tape.specs.Character.{settled}
use Rattle.tape.proofs.character.settle.Goals as goal

pub returns-in-128 : goal.returns-in-128
unfolding settled
returns-in-128 c = record { settles = λ z. rw c.in-128.is }

pub returns-in-132 : goal.returns-in-132
unfolding settled
returns-in-132 c = record { settles = λ z. rw c.in-132.is }

pub returns-in_default : goal.returns-in_default
unfolding settled
returns-in_default c = record {
  settles = λ z. rw (
    ne_eqb c.args.class 0 c.requires,
    ne_eqb c.args.class 128 (λ e. omega arith),
    ne_eqb c.args.class 132 (λ e. omega arith),
    lt-leb 136 c.args.class (omega arith),
  );
}

pub returns-in-136-to-65535 : goal.returns-in-136-to-65535
unfolding settled
returns-in-136-to-65535 c = record {
  settles = λ z. rw (
    ne_eqb c.args.class 0 c.requires,
    ne_eqb c.args.class 128 (λ e. omega arith),
    ne_eqb c.args.class 132 (λ e. omega arith),
    le-leb 136 c.args.class (omega arith),
  );
}

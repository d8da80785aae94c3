-- `character::convert` meets its contract. The loop's invariant: as many lookups from the base as it is come to the same. Assumes nothing.
use mathlib.Core.Path.{◌∙◌}
use Prim.Native.Nat.{◌+◌, ◌-◌}
use native.Mathlib.Omega.{arith}
use Rattle.std.proofs.lemmas.Result.{err_from_is_err_and}
use Rattle.tape.specs.Promise.{whole}
use Rattle.tape.proofs.Lookups.{step_misses, step_delivers, step_settles, step_down, step_up, look_ends}
use Rattle.tape.proofs.character.convert.Goals as goal
use Rattle.tape.proofs.character.convert.Goals.{in-129, in-130}

pub returns-then-table-i : goal.returns-then-table-i
returns-then-table-i c =
    record {
      means = step_misses _ (8 - (c.loop.counter + 1)) _ _ _ c.requires.0 (omega arith) c.loop.invariant.1 c.place-i.ensures
          c.if-table-i.true;
      based = tt;
    }

pub returns-then-word-lt-CLASS_WORDS : goal.returns-then-word-lt-CLASS_WORDS
returns-then-word-lt-CLASS_WORDS c =
    record {
      means = step_delivers _ (8 - (c.loop.counter + 1)) _ _ _ c.requires.0 (omega arith) c.loop.invariant.1 c.place-i.ensures
          c.if-table-i.false c.value-v.ensures c.if-word-lt-CLASS_WORDS.true;
      based = c.loop.invariant.0;
    }

pub returns-in_err-kind-in_default : goal.returns-in_err-kind-in_default
returns-in_err-kind-in_default c =
    let p = err_from_is_err_and c.from_residual.result c.from_residual.ensures.1 in
    rw (p.1, p.2)
    (record {
      means = c.in_err-kind-in_default.ensures.settles (whole c.loop.b)
          ∙ step_settles _ (8 - (c.loop.counter + 1)) _ _ _ c.requires.0 (omega arith) c.loop.invariant.1 c.place-i.ensures
          c.if-table-i.false c.value-v.ensures (λ e. omega arith) (λ e. omega arith);
      based = tt;
    })

pub returns-in_default : goal.returns-in_default
returns-in_default c =
    record {
      means = c.in_ok-kind-in_default.ensures.settles (whole c.loop.b)
          ∙ step_settles _ (8 - (c.loop.counter + 1)) _ _ _ c.requires.0 (omega arith) c.loop.invariant.1 c.place-i.ensures
          c.if-table-i.false c.value-v.ensures (λ e. omega arith) (λ e. omega arith);
      based = c.loop.invariant.0;
    }

pub loop-preserved : goal.loop-preserved
loop-preserved c =
    elim c.match-word-div256.branch [
      | in-129 w ↦ rw w.b-is (
        w.down-b.ensures.1,
        step_down _ (8 - (c.loop.counter + 1)) _ _ _ c.requires.0 (omega arith) c.loop.invariant.1 c.place-i.ensures
            c.if-table-i.false c.value-v.ensures _ w.in-129.is w.down-b.ensures.0,
      )
      | in-130 w ↦ rw w.b-is (
        w.up-b.ensures.1,
        step_up _ (8 - (c.loop.counter + 1)) _ _ _ c.requires.0 (omega arith) c.loop.invariant.1 c.place-i.ensures
            c.if-table-i.false c.value-v.ensures _ w.in-130.is w.up-b.ensures.0,
      )
    ]

pub returns : goal.returns
returns c = record { means = look_ends c.args.table.now _ c.args.c (omega arith) c.loop.invariant.1; based = tt }

-- `failing` meets its contract. Assumes nothing.
use mathlib.Core.Path.{◌≡◌, ◌∙◌}
use Prim.Native.Nat.{◌-◌}
use native.Mathlib.Omega.{arith}
use Rattle.why.specs.Clause.{clause_of, records}
use Rattle.why.proofs.Faults.{lowest_none}
use Rattle.why.proofs.Found.{lowest_next}
use Rattle.why.proofs.Telling.{sorted_by, found_right, fails_at, fails_not}
use Rattle.why.proofs.failing.Goals as goal

pub loop-r-init : goal.loop-r-init
loop-r-init c = (omega arith, lowest_none _)

pub look-requires : goal.look-requires
look-requires c =
    let e = c.records-r-end.ensures.0 ∙ sorted_by c.args.words.now c.args.c c.requires.1 in
    (record { ready = c.requires.0; is = (omega arith, omega (arith, e)) }, c.requires.1)

pub returns-in-Some : goal.returns-in-Some
returns-in-Some c =
    let e = c.records-r-end.ensures.0 ∙ sorted_by c.args.words.now c.args.c c.requires.1 in
    fails_at c.args.words.now c.args.c c.loop-r.r (omega arith) (omega (arith, e)) c.loop-r.invariant.1 c.in-Some.ensures

pub loop-r-preserved : goal.loop-r-preserved
loop-r-preserved c =
    (omega arith, lowest_next c.loop-r.r (omega arith) (omega arith) _ c.loop-r.invariant.1 (found_right c.look.ensures c.in_default.is))

pub returns : goal.returns
returns c =
    let e = c.records-r-end.ensures.0 ∙ sorted_by c.args.words.now c.args.c c.requires.1 in
    let f : c.loop-r.r - 1 ≡ records c.args.words.now (clause_of c.args.c) = omega (arith, e) in
    fails_not c.args.words.now c.args.c (rw f at c.loop-r.invariant.1)

pub returns-in_default : goal.returns-in_default
returns-in_default c =
    let e = c.records-r-end.ensures.0 ∙ sorted_by c.args.words.now c.args.c c.requires.1 in
    fails_not c.args.words.now c.args.c
    (lowest_next c.loop-r.r (omega arith) (omega (arith, e)) _ c.loop-r.invariant.1 (found_right c.look.ensures c.in_default.is))

-- The last clause of `buffers_semaphores`, which is told by what it isn't. Assumes nothing.
use mathlib.Core.Path.{◌≡◌, refl}
use native.Mathlib.Omega.{arith}
use Rattle.why.specs.Clause.{clause_of, Counter}
use Rattle.why.proofs.Looks.{looks, named}
use Rattle.why.proofs.clauses.buffers_semaphores.Goals as goal

pub counter-requires : goal.counter-requires
unfolding clause_of
counter-requires c = let e : c.args.c ≡ 39 = omega arith in (c.requires.0.ready.sized (omega arith), rw e at c.requires.0.is)

pub semaphore_place-requires : goal.semaphore_place-requires
unfolding clause_of
semaphore_place-requires c = let e : c.args.c ≡ 39 = omega arith in (c.requires.0.ready.sized (omega arith), (rw e at c.requires.0.is, omega arith))

pub returns-in_default : goal.returns-in_default
unfolding clause_of
returns-in_default c =
    let e : c.args.c ≡ 39 = omega arith in
    looks 39 Counter refl e (named Counter c.args.r c.counter.ensures c.semaphore_place.ensures.0 c.named_if-in_default.ensures)

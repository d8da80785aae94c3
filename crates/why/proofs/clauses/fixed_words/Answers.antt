-- The last clause of `fixed_words`, which is told by what it isn't. Assumes nothing.
use mathlib.Core.Path.{◌≡◌, refl}
use native.Mathlib.Omega.{arith}
use Rattle.why.specs.Clause.{clause_of, Owner}
use Rattle.why.proofs.Looks.{looks, named}
use Rattle.why.proofs.clauses.fixed_words.Goals as goal

pub owner-requires : goal.owner-requires
unfolding clause_of
owner-requires c = let e : c.args.c ≡ 14 = omega arith in (c.requires.0.ready.sized (omega arith), rw e at c.requires.0.is)

pub buffer_place-requires : goal.buffer_place-requires
unfolding clause_of
buffer_place-requires c = let e : c.args.c ≡ 14 = omega arith in (c.requires.0.ready.sized (omega arith), (rw e at c.requires.0.is, omega arith))

pub returns-in_default : goal.returns-in_default
unfolding clause_of
returns-in_default c =
    let e : c.args.c ≡ 14 = omega arith in
    looks 14 Owner refl e (named Owner c.args.r c.owner.ensures c.buffer_place.ensures.0 c.named_if-in_default.ensures)

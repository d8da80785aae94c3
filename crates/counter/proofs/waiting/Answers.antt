-- `waiting` meets its contract: not below zero, and minus the rest. Assumes nothing.
use Prim.Native.Nat.{◌≤◌}
use mathlib.Core.Path.{sym, ◌∙◌}
use borrow.Author.Tests.{leb-true, not-true, not-false}
use Rattle.counter.proofs.Signs.{minus_fits, minus_cast, minus_is, nobody, minus_it}
use Rattle.counter.proofs.waiting.Goals as goal

pub returns-then-not-below_zero : goal.returns-then-not-below_zero
returns-then-not-below_zero c = let a = c.before.before.args in nobody a.word (sym c.before.below_zero.ensures ∙ not-true _ c.if-not-below_zero.true-raw)

-- below zero
high : (c : goal.After-signed) → 32768 ≤ c.before.before.before.args.word
high c = leb-true 32768 _ (sym c.before.before.below_zero.ensures ∙ not-false _ c.before.if-not-below_zero.false-raw)

pub overflow_sub-result : goal.overflow_sub-result
overflow_sub-result c = minus_fits c.before.before.before.ranges.word.fits c.signed.ensures (high c) c.before.before.before.requires

pub overflow_cast-result : goal.overflow_cast-result
overflow_cast-result c = minus_cast c.before.before.before.ranges.word.fits c.signed.ensures (high c) c.before.before.before.requires

pub returns : goal.returns
returns c =
    let s = c.before.before.before in
    minus_it s.args.word (high c) (minus_is s.ranges.word.fits c.signed.ensures (high c) s.requires)

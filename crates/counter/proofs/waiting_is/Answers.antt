-- `waiting_is` meets its contract: the lowest, and any other. Assumes nothing.
use Rattle.counter.proofs.Signs.{lowest, is_waiting}
use Rattle.counter.proofs.waiting_is.Goals as goal

pub returns-then-word-eq-BELOW_ZERO : goal.returns-then-word-eq-BELOW_ZERO
returns-then-word-eq-BELOW_ZERO c = let a = c.before.args in lowest a.word a.n c.if-word-eq-BELOW_ZERO.true

pub waiting-requires : goal.waiting-requires
waiting-requires c = c.if-word-eq-BELOW_ZERO.false

pub returns : goal.returns
returns c =
    let s = c.before.before in
    is_waiting s.args.word s.args.n s.ranges.word.fits c.before.if-word-eq-BELOW_ZERO.false c.waiting.ensures

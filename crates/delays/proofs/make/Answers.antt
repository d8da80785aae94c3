-- `make` meets its contract: two refusals, and the two words of an empty queue. Assumes nothing.
use mathlib.Core.Path.{sym}
use Rattle.delays.specs.declared.refusal.Refusal.TheVariants.{WrongNumber, WordsTooFew}
use Rattle.delays.proofs.Reading.{makes_refused, unless_passed, make_none, make_many, make_short, make_passes}
use Rattle.delays.proofs.make.Goals as goal
use Rattle.delays.proofs.make.Goals.{then-processes-eq0-via-then-processes-eq0, then-processes-eq0-via-else-processes-eq0+then-processes-gt-MOST}

pub returns-then-processes-eq0 : goal.returns-then-processes-eq0
returns-then-processes-eq0 c =
    elim c.then-processes-eq0.branch [
      | then-processes-eq0-via-then-processes-eq0 w ↦ makes_refused WrongNumber (make_none _ _ w.if-processes-eq0.true)
      | then-processes-eq0-via-else-processes-eq0+then-processes-gt-MOST w ↦
          makes_refused WrongNumber (make_many _ _ w.if-processes-eq0.false w.if-processes-gt-MOST.true)
    ]

pub returns-then-t-words_for : goal.returns-then-t-words_for
returns-then-t-words_for c =
    makes_refused WordsTooFew (make_short _ _ c.if-processes-eq0.false c.if-processes-gt-MOST.false (rw c.words_for.ensures at c.if-t-words_for.true))

pub returns : goal.returns
returns c =
    let n = make_passes _ _ c.if-processes-eq0.false c.if-processes-gt-MOST.false (rw c.words_for.ensures at c.if-t-words_for.false) in
    record { number = n; words = unless_passed _ _ _ (sym n) }

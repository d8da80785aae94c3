-- `begin` meets its contract: the layout by the entries, and its refusal or the call on the machine laid out. Assumes nothing.
use mathlib.Core.Path.{refl}
use native.Mathlib.Omega.{arith}
use Rattle.turn.proofs.Turns.{laid_legal, layout_refused, layout_answered}
use Rattle.turn.proofs.Run.begin.Goals as goal

pub returns-in-Err-clause-begins : goal.returns-in-Err-clause-begins
returns-in-Err-clause-begins c ws k =
    layout_refused c.args.call (rw c.in-Err.is at (c.lay_out.ensures ws k.1 k.0)) refl refl c.write_answer.ensures

pub answer_call-requires : goal.answer_call-requires
answer_call-requires c =
    (laid_legal c.requires (λ ws e z. rw c.in_default.is at (c.lay_out.ensures ws e z)), omega arith, c.requires.fits)

pub returns-clause-begins : goal.returns-clause-begins
returns-clause-begins c ws k = layout_answered c.args.call (rw c.in_default.is at (c.lay_out.ensures ws k.1 k.0)) refl c.answer_call.ensures

-- `answer_or_free` meets its contract, for a held buffer and for another. Assumes nothing.
use native.Mathlib.Omega.{arith}
use mathlib.Core.Bool.{false}
use mathlib.Core.Path.{◌≡◌, sym, ◌∙◌}
use borrow.Author.Tests.{eq-eqb, ne_eqb}
use Rattle.machine.specs.Machine.{Machine, owner, standing}
use Rattle.machine.specs.Moves.{free}
use Rattle.machine.specs.Words.{Shows}
use Rattle.lists.proofs.Tests.{differ}
use Rattle.table.specs.Promise.{Gives}
use Rattle.answers.proofs.Walks.{wake_if_arrives}
use Rattle.answers.proofs.Promises.{can}
use Rattle.messages.specs.Conversations.{MayAnswerOrFree}
use Rattle.messages.proofs.answer_or_free.Goals as goal
use Rattle.messages.proofs.answer_or_free.Goals.{After-buffer_word, Else-buffer_word-ne-HELD}

-- ---- the standing read
standing_read : (e : After-buffer_word) → let a = e.args in
    Gives a.t.now (MayAnswerOrFree a.a) (λ m. standing m a.a) e.buffer_word.result
standing_read e m w may = e.buffer_word.ensures m w (may.frees.is, omega arith, omega arith)

-- ---- held
held : (e : Else-buffer_word-ne-HELD) → let a = e.before.args in (m : Machine) → Shows a.t.now m → MayAnswerOrFree a.a m → standing m a.a ≡ 2
held e m w may = sym (standing_read (goal.at.Else-buffer_word-ne-HELD e).After-buffer_word m w may) ∙ e.if-buffer_word-ne-HELD.false

-- `send_answer_refusal` meets its contract: row 2, row 6 or none. Assumes nothing.
use native.Mathlib.Omega.{arith}
use mathlib.Core.Bool.{false}
use mathlib.Core.Path.{◌≡◌, sym, ◌∙◌}
use Rattle.machine.specs.Machine.{Machine, zeros}
use Rattle.machine.specs.Refusal.{outside}
use Rattle.machine.specs.Words.{Shows}
use Rattle.lists.proofs.Tests.{inside}
use Rattle.answers.proofs.Promises.{can}
use Rattle.messages.proofs.Sending.{answer_by_none, answer_outside, answer_barred, answer_accepted}
use Rattle.messages.proofs.send_answer_refusal.Goals as goal
use Rattle.messages.proofs.send_answer_refusal.Goals.{Else-outside}

pub returns-then-holder-eq0 : goal.returns-then-holder-eq0
returns-then-holder-eq0 c m w u = answer_by_none m _ zeros (c.before.current-holder.ensures m w tt) c.if-holder-eq0.true

pub returns-then-outside : goal.returns-then-outside
returns-then-outside c m w u =
    let runs = c.before.before.before in
    let o = rw (c.before.before.buffers.ensures m w tt) at c.before.outside.ensures in
    answer_outside m _ zeros (runs.before.current-holder.ensures m w tt) runs.if-holder-eq0.false (sym o ∙ c.if-outside.true)

-- ---- a process runs, and the buffer is one
within : (e : Else-outside) (m : Machine) → Shows (e).args.t.now m → outside (e).args.a m.B ≡ false
within e m w = sym (rw (e.before.before.buffers.ensures m w tt) at e.before.outside.ensures) ∙ e.if-outside.false

pub returns-then-receiver-holder : goal.returns-then-receiver-holder
returns-then-receiver-holder c m w u =
    let e = c.before in
    let i = inside m.B _ (within (goal.at.returns-then-receiver-holder c).Else-outside m w) in
    answer_barred m _ zeros (e.before.current-holder.ensures m w tt) e.if-holder-eq0.false (within (goal.at.returns-then-receiver-holder c).Else-outside m w)
    (c.before.before.buffer_word-receiver.ensures m w (i, omega arith, omega arith))
    (c.before.buffer_word-standing.ensures m w (i, omega arith, omega arith))
    c.if-receiver-holder.true

pub returns : goal.returns
returns c m w u =
    let e = c.before in
    let i = inside m.B _ (within (goal.at.returns c).Else-outside m w) in
    answer_accepted m _ zeros (e.before.current-holder.ensures m w tt) e.if-holder-eq0.false (within (goal.at.returns c).Else-outside m w)
    (c.before.before.buffer_word-receiver.ensures m w (i, omega arith, omega arith))
    (c.before.buffer_word-standing.ensures m w (i, omega arith, omega arith))
    c.if-receiver-holder.false

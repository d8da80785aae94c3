-- `processes::stop_refusal` meets its contract: row 4, row 7 or none. Assumes nothing.
use native.Mathlib.Omega.{arith}
use mathlib.Core.Bool.{false}
use mathlib.Core.Path.{◌≡◌, sym, ◌∙◌}
use borrow.Author.Tests.{eq-eqb, ne_eqb}
use Rattle.machine.specs.Machine.{Machine, state}
use Rattle.machine.specs.Refusal.{outside, first, refusal}
use Rattle.machine.specs.Words.{Shows}
use Rattle.lists.proofs.Tests.{inside, found_outside}
use Rattle.answers.proofs.Promises.{can}
use Rattle.processes.proofs.stop_refusal.Goals as goal
use Rattle.processes.proofs.stop_refusal.Goals.{After-process_word, Else-outside}

-- ---- a is tested, and its state read
pub returns-then-outside : goal.returns-then-outside
unfolding refusal first
returns-then-outside c m w L =
    let e = c.before in
    rw (found_outside e.args.a (e.before.processes.ensures m w tt) e.outside.ensures c.if-outside.true)

within : (e : Else-outside) → let a = e.before.args in (m : Machine) → Shows a.t.now m → outside a.a m.P ≡ false
within e m w = found_outside e.before.args.a (e.before.before.processes.ensures m w tt) e.before.outside.ensures e.if-outside.false

pub process_word-requires : goal.process_word-requires
process_word-requires c = can c.before.requires (λ m w L. (inside m.P _ (within (goal.at.process_word-requires c).Else-outside m w), omega arith, omega arith))

state_read : (e : After-process_word) → let a = e.before.before.args in
    (m : Machine) → Shows a.t.now m → e.process_word.result ≡ state m a.a
state_read e m w = e.process_word.ensures m w (inside m.P _ (within (goal.at.After-process_word e).Else-outside m w), omega arith, omega arith)

pub returns-then-process_word-eq-STOPPED : goal.returns-then-process_word-eq-STOPPED
unfolding refusal first
returns-then-process_word-eq-STOPPED c m w L =
    let o = within (goal.at.returns-then-process_word-eq-STOPPED c).Else-outside m w in
    let read = state_read (goal.at.returns-then-process_word-eq-STOPPED c).After-process_word m w in
    rw (o, eq-eqb _ 0 (sym read ∙ c.if-process_word-eq-STOPPED.true))

pub returns : goal.returns
unfolding refusal first
returns c m w L =
    let o = within (goal.at.returns c).Else-outside m w in
    let read = state_read (goal.at.returns c).After-process_word m w in
    rw (o, ne_eqb _ 0 (λ k. c.if-process_word-eq-STOPPED.false (read ∙ k)))

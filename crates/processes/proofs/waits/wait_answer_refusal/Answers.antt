-- `waits::wait_answer_refusal` meets its contract: row 2, row 6 or none. Assumes nothing.
use native.Mathlib.Omega.{arith}
use mathlib.Core.Bool.{false, or-false}
use mathlib.Core.Path.{◌≡◌, sym, ◌∙◌}
use lib.Dec.{eqb}
use borrow.Author.Tests.{eq-eqb, ne_eqb}
use Rattle.machine.specs.Machine.{Machine}
use Rattle.machine.specs.Refusal.{outside, first, refusal}
use Rattle.machine.specs.Words.{Shows}
use Rattle.lists.proofs.Tests.{inside}
use Rattle.answers.proofs.Promises.{can}
use Rattle.processes.proofs.waits.wait_answer_refusal.Goals as goal
use Rattle.processes.proofs.waits.wait_answer_refusal.Goals.{Else-outside}

pub returns-then-p-eq0 : goal.returns-then-p-eq0
unfolding refusal first
returns-then-p-eq0 c m w L = rw (← c.before.current-p.ensures m w tt, eq-eqb _ 0 c.if-p-eq0.true)

pub buffers-requires : goal.buffers-requires
buffers-requires c = can c.before.before.before.requires (λ m w L. tt)

pub returns-then-outside : goal.returns-then-outside
unfolding refusal first
returns-then-outside c m w L =
    let o = rw (c.before.before.buffers.ensures m w tt) at c.before.outside.ensures in
    rw (← c.before.before.before.before.current-p.ensures m w tt, ne_eqb _ 0 c.before.before.before.if-p-eq0.false, sym o ∙ c.if-outside.true)

-- ---- a process runs, and the buffer is one
within : (e : Else-outside) (m : Machine) → Shows (e).args.t.now m → outside (e).args.a m.B ≡ false
within e m w = sym (rw (e.before.before.buffers.ensures m w tt) at e.before.outside.ensures) ∙ e.if-outside.false

pub buffer_word-owner-requires : goal.buffer_word-owner-requires
buffer_word-owner-requires c = can (c).requires (λ m w L. (
  inside m.B _ (within (goal.at.buffer_word-owner-requires c).Else-outside m w),
  omega arith,
  omega arith,
))

pub buffer_word-standing-requires : goal.buffer_word-standing-requires
buffer_word-standing-requires c = can (c.before).requires (λ m w L.
    (inside m.B _ (within (goal.at.buffer_word-standing-requires c).Else-outside m w), omega arith, omega arith))

pub returns-then-owner-p : goal.returns-then-owner-p
unfolding refusal first
returns-then-owner-p c m w L =
    let e = c.before.before.before in
    let i = inside m.B _ (within (goal.at.returns-then-owner-p c).Else-outside m w) in
    let own = c.before.before.buffer_word-owner.ensures m w (i, omega arith, omega arith) in
    let standing = c.before.buffer_word-standing.ensures m w (i, omega arith, omega arith) in
    rw (
      ← e.before.current-p.ensures m w tt,
      ne_eqb _ 0 e.if-p-eq0.false,
      within (goal.at.returns-then-owner-p c).Else-outside m w,
      or-false (eqb (m.buffer _ 4) 4),
      ← own,
      ← standing,
      c.if-owner-p.true,
    )

pub returns : goal.returns
unfolding refusal first
returns c m w L =
    let e = c.before.before.before in
    let i = inside m.B _ (within (goal.at.returns c).Else-outside m w) in
    let own = c.before.before.buffer_word-owner.ensures m w (i, omega arith, omega arith) in
    let standing = c.before.buffer_word-standing.ensures m w (i, omega arith, omega arith) in
    rw (
      ← e.before.current-p.ensures m w tt,
      ne_eqb _ 0 e.if-p-eq0.false,
      within (goal.at.returns c).Else-outside m w,
      or-false (eqb (m.buffer _ 4) 4),
      ← own,
      ← standing,
      c.if-owner-p.false,
    )

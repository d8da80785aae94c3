-- `clean_buffer` meets its contract: by the owner, by the receiver, or not at all. Assumes nothing.
use mathlib.Core.Path.{◌≡◌, sym, ◌∙◌}
use native.Mathlib.Omega.{arith}
use Rattle.machine.specs.Machine.{Machine, owner, receiver}
use Rattle.machine.specs.Words.{Shows}
use Rattle.table.specs.Promise.{Gives}
use Rattle.answers.proofs.Promises.{can}
use Rattle.clean.specs.Clean.{MayClean, MayCleanOwn, MayCleanReceived}
use Rattle.clean.proofs.Cleaning.{cleans, cleans_to_under, neither}
use Rattle.clean.proofs.clean_buffer.Goals as goal
use Rattle.clean.proofs.clean_buffer.Goals.{After-buffer_word, After-buffer_word-2, Then-buffer_word-p, Then-buffer_word-p-2}

-- ---- the places behind each read, each from the next, and what was read
owner_read : (e : After-buffer_word) → let a = e.args in Gives a.t.now (MayClean a.b) (λ m. owner m a.b) e.buffer_word.result
owner_read e m s may = e.buffer_word.ensures m s (may.1, omega arith, omega arith)

receiver_read : (e : After-buffer_word-2) → let a = e.args in
    Gives a.t.now (MayClean a.b) (λ m. receiver m a.b) e.buffer_word-2.result
receiver_read e m s may = e.buffer_word-2.ensures m s (may.1, omega arith, omega arith)

-- ---- p is the owner
may_own : (e : Then-buffer_word-p) → let a = e.args in (m : Machine) → Shows a.t.now m → MayClean a.b m → MayCleanOwn a.p a.b m
may_own e m s may = (may.0, may.1, sym (owner_read (goal.at.Then-buffer_word-p e).After-buffer_word m s may) ∙ e.if-buffer_word-p.true)

-- ---- p is the receiver
not_owner : (e : After-buffer_word-2) → let a = e.args in
    (m : Machine) → Shows a.t.now m → MayClean a.b m → owner m a.b ≡ a.p → ⊥
not_owner e m s may k = e.if-buffer_word-p.false (owner_read (goal.at.After-buffer_word-2 e).After-buffer_word m s may ∙ k)

may_received : (e : Then-buffer_word-p-2) → let a = e.args in
    (m : Machine) → Shows a.t.now m → MayClean a.b m → MayCleanReceived a.p a.b m
may_received e m s may = (
  may.0,
  may.1,
  not_owner (goal.at.Then-buffer_word-p-2 e).After-buffer_word-2 m s may,
  sym (receiver_read (goal.at.Then-buffer_word-p-2 e).After-buffer_word-2 m s may) ∙ e.if-buffer_word-p-2.true,
)

-- ---- p is neither
pub returns : goal.returns
returns c = cleans (λ m s may. (
  _,
  neither _ _ m (not_owner (goal.at.returns c).After-buffer_word-2 m s may)
      (λ e. c.if-buffer_word-p-2.false (receiver_read (goal.at.returns c).After-buffer_word-2 m s may ∙ e)),
  s,
))

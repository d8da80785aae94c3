-- `answer_with` meets its contract: the owner and whether it waits are read first, then the buffer goes back and the owner may wake. Assumes nothing.
use native.Mathlib.Omega.{arith}
use Rattle.machine.specs.Exchange.{words_in}
use Rattle.machine.specs.Machine.{Machine, Words, owner}
use Rattle.machine.specs.Moves.{answered, waiting}
use Rattle.table.specs.Promise.{Does, Gives}
use Rattle.answers.proofs.Promises.{can}
use Rattle.messages.specs.Conversations.{MayAnswer}
use Rattle.messages.proofs.Joins.{read_returns, read_wakes, read_answers, read_arrives}
use Rattle.messages.proofs.conversations.answer_with.Goals as goal
use Rattle.messages.proofs.conversations.answer_with.Goals.{After-buffer_word-owner, After-give_back, After-waits_for-waits}

-- ---- the places behind each call, each from the next
-- ---- what was asked, what is read there, and what the words show
abbrev May : After-buffer_word-owner → Machine → Type 0
May e = MayAnswer e.args.b

abbrev answer : After-buffer_word-owner → Words
answer e = words_in e.args.words

owner_read : (e : After-buffer_word-owner) → Gives e.args.t.now (May e) (λ m. owner m e.args.b) e.buffer_word-owner.result
owner_read e m w may = e.buffer_word-owner.ensures m w (may.joins.buffer.is, omega arith, omega arith)

waits_read : (e : After-waits_for-waits) → let s = e in Gives s.args.t.now (May (goal.at.After-waits_for-waits e).After-buffer_word-owner)
    (waiting s.args.b) e.waits_for-waits.result
waits_read e m w may =
    let o = owner_read (goal.at.After-waits_for-waits e).After-buffer_word-owner m w may in
    rw o at (e.waits_for-waits.ensures m w (rw o may.joins.process))

gives : (e : After-give_back) → let s = e in
    Does s.args.t.now e.give_back.new.t (May (goal.at.After-give_back e).After-buffer_word-owner)
    (answered s.args.b (answer (goal.at.After-give_back e).After-buffer_word-owner))
gives e m w may = e.give_back.ensures m w (read_returns m _ (owner_read (goal.at.After-give_back e).After-buffer_word-owner m w may) may)

pub returns : goal.returns
returns c =
    let e = c.before.before.before.before.before.before in
    let s = e in
    let wakes = c.before.before.wake_if.ensures in
    record {
      words = λ m w may. (let o = owner_read (goal.at.returns c).After-buffer_word-owner m w may in
          let k = waits_read (goal.at.returns c).After-waits_for-waits m w may in
          read_answers m _ o k (answer (goal.at.returns c).After-buffer_word-owner)
          (wakes.words _ (gives (goal.at.returns c).After-give_back m w may) (read_wakes m _ o k may)));
      arrives = λ m w may. (let o = owner_read (goal.at.returns c).After-buffer_word-owner m w may in
          let k = waits_read (goal.at.returns c).After-waits_for-waits m w may in
          read_arrives m _ o k (answer (goal.at.returns c).After-buffer_word-owner)
          (wakes.arrives _ (gives (goal.at.returns c).After-give_back m w may) (read_wakes m _ o k may)));
    }

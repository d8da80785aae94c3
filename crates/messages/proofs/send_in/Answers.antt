-- `send_in` meets its contract: the state of the receiver is first, then the buffer goes to it and it may wake. Assumes nothing.
use lib.Dec.{lit<, lit≤}
use Rattle.machine.specs.Exchange.{words_in}
use Rattle.machine.specs.Machine.{Machine, Words, state}
use Rattle.machine.specs.Step.{queued}
use Rattle.table.specs.Promise.{Does, Gives}
use Rattle.messages.specs.Conversations.{MaySend}
use Rattle.messages.proofs.Sending.{state_wakes, state_sends, state_arrives}
use Rattle.messages.proofs.send_in.Goals as goal
use Rattle.messages.proofs.send_in.Goals.{After-process_word-waits, After-queue}

-- ---- the places behind the and behind the buffer's way into the queue
-- ---- what was asked, what is there, and what the words show
abbrev May : After-process_word-waits → Machine → Type 0
May e = MaySend e.args.a e.args.b

abbrev message : After-process_word-waits → Words
message e = words_in e.args.words

state_read : (e : After-process_word-waits) → Gives e.args.t.now (May e) (λ m. state m e.args.a) e.process_word-waits.result
state_read e m w may = e.process_word-waits.ensures m w (may.joins.process, lit≤ tt, lit< tt)

queues : (e : After-queue) → let s = e in let a = s.args in
    Does a.t.now e.queue.new.t (May (goal.at.After-queue e).After-process_word-waits)
    (queued a.a a.b (message (goal.at.After-queue e).After-process_word-waits))
queues e m w may = e.queue.ensures m w may.joins

-- ---- the calls
pub returns : goal.returns
returns c =
    let e = c.before.before.before.before.before.before in
    let s = e in
    let wakes = c.before.before.wake_if.ensures in
    record {
      words = λ m w may. (let k = state_read (goal.at.returns c).After-process_word-waits m w may in
          state_sends m _ _ k (message (goal.at.returns c).After-process_word-waits)
          (wakes.words _ (queues (goal.at.returns c).After-queue m w may) (state_wakes m _ _ k may)));
      arrives = λ m w may. (let k = state_read (goal.at.returns c).After-process_word-waits m w may in
          state_arrives m _ _ k (message (goal.at.returns c).After-process_word-waits)
          (wakes.arrives _ (queues (goal.at.returns c).After-queue m w may) (state_wakes m _ _ k may)));
    }

-- `give_back` meets its contract: words, standing and place in the queue in turn. Assumes nothing.
use Rattle.machine.specs.Exchange.{words_in}
use Rattle.machine.specs.Machine.{Machine, Words, put_buffer}
use Rattle.machine.specs.Moves.{write}
use Rattle.table.specs.Promise.{Does}
use Rattle.messages.specs.Conversations.{MayReturn}
use Rattle.messages.proofs.Joins.{answer_appends}
use Rattle.messages.proofs.conversations.give_back.Goals as goal
use Rattle.messages.proofs.conversations.give_back.Goals.{After-set_standing, After-write}

-- ---- the places behind each call, each from the next
-- ---- what was asked, and what the words show there
abbrev May : After-write → Machine → Type 0
May e = MayReturn e.args.p e.args.b

abbrev answer : After-write → Words
answer e = words_in e.args.words

writes : (e : After-write) → Does e.args.t.now e.write.new.t (May e) (write e.args.b (answer e))
writes e m w may = e.write.ensures m w may.0.buffer.is

stands : (e : After-set_standing) → let s = e in let a = s.args in
    Does a.t.now e.set_standing.new.t (May (goal.at.After-set_standing e).After-write)
    (λ m. put_buffer a.b 4 3 (write a.b (answer (goal.at.After-set_standing e).After-write) m))
stands e m w may = e.set_standing.ensures _ (writes (goal.at.After-set_standing e).After-write m w may) may.0.buffer

pub append-requires : goal.append-requires
append-requires c =
    let e = c.before.before.before in
    let p = (e).requires in
    record {
      m = _;
      shows = stands (goal.at.append-requires c).After-set_standing p.m p.shows p.may;
      may =
          answer_appends p.m p.may.0 (answer (goal.at.append-requires c).After-write) p.may.1;
    }

pub returns : goal.returns
returns c m w may =
    let e = c.before.before.before.before.before.before in
    rw may.1 (c.before.before.append.ensures _ (stands (goal.at.returns c).After-set_standing m w may)
    (answer_appends m may.0 (answer (goal.at.returns c).After-write) may.1))

-- `queue` meets its contract: receiver, standing, message and place in the queue in turn. Assumes nothing.
use Rattle.machine.specs.Exchange.{words_in}
use Rattle.machine.specs.Machine.{Machine, Words, put_buffer}
use Rattle.machine.specs.Moves.{write}
use Rattle.table.specs.Promise.{Does}
use Rattle.messages.specs.Conversations.{MayJoin}
use Rattle.messages.proofs.Joins.{message_appends, received_in_no_queue}
use Rattle.messages.proofs.queue.Goals as goal
use Rattle.messages.proofs.queue.Goals.{After-set_receiver, After-set_standing, After-write}

-- ---- the places behind each call, each from the next
-- ---- what was asked
abbrev May : After-set_receiver → Machine → Type 0
May e = MayJoin e.args.a e.args.b

abbrev message : After-set_receiver → Words
message e = words_in e.args.words

-- ---- what the words show there
receives : (e : After-set_receiver) → Does e.args.t.now e.set_receiver.new.t (May e) (put_buffer e.args.b 3 e.args.a)
receives e m w j = e.set_receiver.ensures m w (j.buffer, j.process.1)

stands : (e : After-set_standing) → let s = e in let a = s.args in
    Does a.t.now e.set_standing.new.t (May (goal.at.After-set_standing e).After-set_receiver) (λ m. put_buffer a.b 4 1 (put_buffer a.b 3 a.a m))
stands e m w j = e.set_standing.ensures _ (receives (goal.at.After-set_standing e).After-set_receiver m w j) (received_in_no_queue m j)

writes : (e : After-write) → let s = e in let a = s.args in
    Does a.t.now e.write.new.t (May (goal.at.After-write e).After-set_receiver)
    (λ m. write a.b (message (goal.at.After-write e).After-set_receiver) (put_buffer a.b 4 1 (put_buffer a.b 3 a.a m)))
writes e m w j = e.write.ensures _ (stands (goal.at.After-write e).After-set_standing m w j) j.buffer.is

-- ---- the calls
pub set_standing-requires : goal.set_standing-requires
set_standing-requires c =
    let e = c.before.before.before in
    let p = e.requires in
    record { m = _; shows = receives (goal.at.set_standing-requires c).After-set_receiver p.m p.shows p.may; may = received_in_no_queue p.m p.may }

pub write-requires : goal.write-requires
write-requires c =
    let e = c.before.before.before in
    let p = (e).requires in
    record { m = _; shows = stands (goal.at.write-requires c).After-set_standing p.m p.shows p.may; may = p.may.buffer.is }

pub append-requires : goal.append-requires
append-requires c =
    let e = c.before.before.before in
    let s = e in
    let p = s.requires in
    record {
      m = _;
      shows = writes (goal.at.append-requires c).After-write p.m p.shows p.may;
      may =
          message_appends p.m p.may (message (goal.at.append-requires c).After-set_receiver);
    }

pub returns : goal.returns
returns c m w j =
    let e = c.before.before.before.before.before.before in
    c.before.before.append.ensures _ (writes (goal.at.returns c).After-write m w j) (message_appends m j (message (goal.at.returns c).After-set_receiver))

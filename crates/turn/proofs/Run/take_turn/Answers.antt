-- `take_turn` meets its contract: an entry is gathered, the first call, a line of another shape, any later call, a late entry, and a run that has
-- ended. Assumes nothing.
use mathlib.Core.Path.{refl}
use Rattle.turn.specs.InWords.{shape_read, entry_read, list_after}
use Rattle.turn.proofs.Turns.{turn_gathers, turn_begins, other_gathering, turn_serves, late_entry, other_running, turn_ended}
use Rattle.turn.proofs.Turns.{list_over, room_entry, room_other, room_ended}
use Rattle.turn.proofs.Run.take_turn.Goals as goal

pub returns-in-Entry : goal.returns-in-Entry
unfolding list_after
returns-in-Entry c =
    let e = entry_read c.in-Entry.entry in
    record {
      leads = rw c.in-Entry.is (λ s k. turn_gathers e c.gather.ensures s (rw c.in-Gathering.is at k));
      list = rw (c.in-Gathering.is, c.in-Entry.is) c.gather.ensures.list;
      room = rw c.in-Entry.is (λ s k. room_entry _ e s);
    }

pub returns-in-Call : goal.returns-in-Call
unfolding list_after
returns-in-Call c =
    let y = turn_begins c.in-Call.call c.begin.ensures.begins in
    record {
      leads = rw c.in-Call.is (λ s k. (y s (rw c.in-Gathering.is at k)).0);
      list = rw c.in-Call.is c.begin.ensures.list;
      room = rw c.in-Call.is (λ s k. (y s (rw c.in-Gathering.is at k)).1);
    }

pub returns-in-Other : goal.returns-in-Other
unfolding list_after
returns-in-Other c =
    record {
      leads = rw (c.in-Other.is, c.in-Gathering.is) (other_gathering c.write_other.ensures);
      list = rw c.in-Other.is refl;
      room = rw c.in-Other.is (λ s k. room_other _ s);
    }

pub returns-in-Call-read : goal.returns-in-Call-read
unfolding list_after
returns-in-Call-read c =
    let y = turn_serves c.in-Call-read.call c.answer_call.ensures in
    record {
      leads = rw (c.in-Call-read.is, c.in-Running.is) (λ s k. (y s k).0);
      list = rw c.in-Call-read.is refl;
      room = rw c.in-Call-read.is (λ s k. (y s (rw c.in-Running.is at k)).1);
    }

pub returns-in-Entry-read : goal.returns-in-Entry-read
unfolding list_after
returns-in-Entry-read c =
    record {
      leads = rw (c.in-Entry-read.is, c.in-Running.is) (late_entry _ c.write_other-in-Entry-read.ensures);
      list = rw (c.in-Entry-read.is, c.in-Running.is) refl;
      room = rw c.in-Entry-read.is (λ s k. room_entry _ _ s);
    }

pub returns-in-Other-read : goal.returns-in-Other-read
unfolding list_after
returns-in-Other-read c =
    record {
      leads = rw (c.in-Other-read.is, c.in-Running.is) (other_running c.write_other-in-Other-read.ensures);
      list = rw c.in-Other-read.is refl;
      room = rw c.in-Other-read.is (λ s k. room_other _ s);
    }

pub returns-in-Ended : goal.returns-in-Ended
returns-in-Ended c =
    let x = shape_read c.args.read in
    record {
      leads = rw c.in-Ended.is (turn_ended x);
      list = rw c.in-Ended.is (list_over x _);
      room = λ s k. room_ended _ _ _ x s (rw c.in-Ended.is at k);
    }

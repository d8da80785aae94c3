-- `answer_call` meets its contract: the call's answer line, and behind it the lines of the rows that the call put into the room. Assumes nothing.
use Rattle.laws.proofs.Decoded.{shows_sound}
use Rattle.turn.proofs.Answering.{called_step, called_room, called_lines, lines_fit}
use Rattle.turn.proofs.calls.answer_call.Goals as goal

pub serve-answer-requires : goal.serve-answer-requires
serve-answer-requires c = let can = c.requires.0 in shows_sound can.shows can.may

pub write_rows-requires : goal.write_rows-requires
write_rows-requires c =
    let can = c.requires.0 in
    lines_fit can.may can.shows c.requires.1 c.serve-answer.ensures c.rows_after.ensures c.write_answer-next.ensures
    c.requires.2 c.write_answer-next.auto.out c.serve-answer.auto.room

pub returns : goal.returns
returns c m w L =
    record {
      words = (called_step L w c.requires.1 c.serve-answer.ensures).words;
      written = called_lines L w c.requires.1 c.serve-answer.ensures c.rows_after.ensures c.write_answer-next.ensures c.write_rows.ensures;
      room = called_room L w c.requires.1 c.serve-answer.ensures;
    }

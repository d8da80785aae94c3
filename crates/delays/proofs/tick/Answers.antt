-- `tick` meets its contract: the first falls, those due are gathered and the list begins behind them. Assumes nothing.
use Rattle.delays.proofs.Reading.{ticks_done, ticks_words, ticks_room, ticks_count}
use Rattle.delays.proofs.tick.Goals as goal

pub returns : goal.returns
returns c =
    let size = c.in_ok-roomy.ensures.passes.0 in
    let e = c.next-first.ensures.0 in
    let f = c.earlier.ensures in
    let g = c.gather-due.ensures in
    let w = c.put_next.ensures in
    ticks_done c.in_ok-roomy.ensures.number (ticks_count size e f g w) (ticks_words size e f g w) (ticks_room size e f g w)

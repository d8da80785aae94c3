-- `waits::receiver` meets its contract: a word of a sound table is that of the machine it shows. Assumes nothing.
use native.Mathlib.Omega.{arith}
use Rattle.stuck.proofs.Fits.{can_read_buffer, read_buffer}
use Rattle.stuck.proofs.waits.receiver.Goals as goal

pub buffer_word-requires : goal.buffer_word-requires
buffer_word-requires c = can_read_buffer c.before.requires.0 c.before.requires.1 (omega arith) (omega arith)

pub returns : goal.returns
returns c = read_buffer c.before.before.requires.0 c.before.before.requires.1 (omega arith) (omega arith) c.buffer_word.ensures

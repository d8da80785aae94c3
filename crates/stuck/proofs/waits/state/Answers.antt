-- `waits::state` meets its contract: a word of a sound table is that of the machine it shows. Assumes nothing.
use native.Mathlib.Omega.{arith}
use Rattle.stuck.proofs.Fits.{can_read_process, read_process}
use Rattle.stuck.proofs.waits.state.Goals as goal

pub process_word-requires : goal.process_word-requires
process_word-requires c = can_read_process c.before.requires.0 c.before.requires.1 (omega arith) (omega arith)

pub returns : goal.returns
returns c = read_process c.before.before.requires.0 c.before.before.requires.1 (omega arith) (omega arith) c.process_word.ensures

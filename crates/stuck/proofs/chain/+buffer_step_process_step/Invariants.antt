-- What falls from a call of `process_step` and `buffer_step` to the next: the processes not yet visited, twice, and between two of them stands a buffer.
-- Assumes nothing.
use Prim.Native.Nat.{◌+◌, ◌*◌}
use Rattle.stuck.proofs.chain.+buffer_step_process_step.Given as goal

abbrev pub decreases-buffer_step : goal.decreases-buffer_step
decreases-buffer_step l = 2 * l.left + 1

abbrev pub decreases-process_step : goal.decreases-process_step
decreases-process_step l = 2 * l.left

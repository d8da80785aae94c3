-- `first::both` meets its contract: the run of bytes that are the same decides. Assumes nothing.
use native.Mathlib.Omega.{arith}
use Rattle.compare.proofs.Bytes.{run_fits}
use Rattle.compare.proofs.first.both.Goals as goal

pub overflow_add-result : goal.overflow_add-result
overflow_add-result c = omega (arith, run_fits c.args.one.now c.run-k.result c.run-k.ensures.size_one c.line_size.ensures)

pub overflow_add-result-2 : goal.overflow_add-result-2
overflow_add-result-2 c = omega (arith, run_fits c.args.two.now c.run-k.result c.run-k.ensures.size_two c.line_size-2.ensures)

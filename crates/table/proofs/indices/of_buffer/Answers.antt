-- `indices::of_buffer` meets its contract: a word is below 65536, so that no sum wraps. Assumes nothing.
use native.Mathlib.Omega.{arith}
use Rattle.table.proofs.indices.of_buffer.Goals as goal

pub overflow_cast-result : goal.overflow_cast-result
overflow_cast-result c = omega (arith, c.shared_slice_known-1.given 0)

pub overflow_mul-result : goal.overflow_mul-result
overflow_mul-result c = omega (arith, c.shared_slice_known-1.given 0)

pub overflow_add-result : goal.overflow_add-result
overflow_add-result c = omega (arith, c.shared_slice_known-1.given 0)

pub overflow_add-result-2 : goal.overflow_add-result-2
overflow_add-result-2 c = omega (arith, c.shared_slice_known-1.given 0)

pub overflow_add-result-3 : goal.overflow_add-result-3
overflow_add-result-3 c = omega (arith, c.shared_slice_known-1.given 0)

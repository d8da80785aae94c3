-- `sound::records::own_run` meets its contract. The loop's invariant: the buffers passed are p's and right, and those queued are counted. Assumes nothing.
use mathlib.Core.Path.{◌≡◌, refl}
use mathlib.Core.Bool.{Bool, true, false}
use mathlib.Core.List.{List}
use lib.ListN.{get_or}
use Prim.Native.Nat.{ℕ, ◌+◌, ◌≤◌}
use native.Mathlib.Omega.{arith}
use Rattle.machine.specs.Queue.{if}
use Rattle.lists.specs.Counts.{bit}
use Rattle.lists.proofs.Counting.{all_none, all_more, all_fails, count_start, count_next}
use Rattle.sound.specs.Buffers.{queued, own_buffer}
use Rattle.sound.specs.Queues.{failed}
use Rattle.sound.proofs.Found.{if_no, counted, failing}
use Rattle.sound.proofs.records.own_run.Goals as goal

-- 1 or 0 of a buffer that is right, else failed
module _ (w : List ℕ) (start p n r : ℕ) (is : r ≡ if (own_buffer w start p n) (bit (queued (get_or w (start + 4) 0))) failed) where
  bit_most : (x : Bool) → bit x ≤ 1
  bit_most true = omega arith
  bit_most false = omega arith

  own_counted : (r ≡ failed → ⊥) → (own_buffer w start p n ≡ true) × ((r ≡ bit (queued (get_or w (start + 4) 0))) × (r ≤ 1))
  own_counted k = let h = counted (own_buffer w start p n) _ r is k in (h.0, (h.1, omega (arith, bit_most (queued (get_or w (start + 4) 0)), h.1)))

  own_failing : r ≡ failed → own_buffer w start p n ≡ false
  own_failing e = failing (own_buffer w start p n) (bit (queued (get_or w (start + 4) 0))) r is e
      (λ t z. omega (arith, bit_most (queued (get_or w (start + 4) 0)), z))

pub loop-j-init : goal.loop-j-init
loop-j-init c = let h = count_start _ _ _ c.requires.so_far in record { few = h.0; counted = h.1; right = all_none _ }

pub returns-then-here-eq-FAILED : goal.returns-then-here-eq-FAILED
returns-then-here-eq-FAILED c =
    if_no _ _ _ _ (all_fails _ _ _ c.loop-j-test.true (own_failing _ _ _ _ _ c.own_buffer-here.ensures c.if-here-eq-FAILED.true)) refl

pub loop-j-preserved : goal.loop-j-preserved
loop-j-preserved c =
    let i = c.loop-j.invariant in
    let h = own_counted _ _ _ _ _ c.own_buffer-here.ensures c.if-here-eq-FAILED.false in
    record { few = omega (arith, h.1.1); counted = count_next _ _ _ _ _ i.counted h.1.0; right = all_more _ _ i.right h.0 }

-- docs/MONITOR.md, 9, "a counter below zero is minus the number waiting; otherwise nobody waits", as a test of a counter's word: 32,768, the lowest, would
-- be minus more than a 16-bit number. Assumes nothing: these are definitions.
use Rattle.std.specs.Prelude.{Bool, false, not, ◌&&◌, ◌≡◌, refl, ℕ, ◌+◌, ◌-◌, eqb}
use Rattle.machine.specs.Numbers.{counter_below_zero}
use Rattle.machine.specs.Queue.{if}
use Rattle.machine.specs.Machine.{below_zero}

-- minus the counter, or nobody
abbrev pub waiting : ℕ → ℕ
waiting c = if (below_zero c) (65536 - c) 0

-- n is that number; the lowest counter has none
abbrev pub waiting_is : ℕ → ℕ → Bool
waiting_is c n = if (below_zero c) (not (eqb c counter_below_zero) && eqb (c + n) 65536) (eqb n 0)

-- ---- by computation: at 0, at -1, at -32,767 and at 32,767
pub waiting_rows : (waiting 0 ≡ 0) × (waiting 65535 ≡ 1) × (waiting 32769 ≡ 32767) × (waiting 32767 ≡ 0) × (waiting_is 32768 32768 ≡ false)
waiting_rows = (refl, refl, refl, refl, refl)

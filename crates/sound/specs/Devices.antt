-- The tests on devices, numbered from 1, as the code makes them. Assumes nothing: these are definitions.
use Rattle.std.specs.Prelude.{Bool, ◌&&◌, ◌||◌, List, ℕ, zero, suc, ◌+◌, get_or, eqb, leb}
use Rattle.std.specs.Int.Bits.{bit_or}
use Rattle.machine.specs.Numbers.{state_waits_interrupt, edition_second, device_count}
use Rattle.machine.specs.Records.{header_edition, device_base, process_state, process_device}
use Rattle.machine.specs.Queue.{if}
use Rattle.machine.specs.Machine.{kept}
use Rattle.machine.specs.Sound.{P_of, process_at}
use Rattle.lists.specs.Counts.{all}

-- a process of that state and device waits for device d
abbrev pub waits_for : ℕ → ℕ → ℕ → Bool
waits_for state device d = eqb state state_waits_interrupt && eqb device d

-- process p waits for device d
abbrev pub waiter : List ℕ → ℕ → ℕ → Bool
waiter w p d = leb p (P_of w) && waits_for (process_at w p process_state) (process_at w p process_device) d

-- device d names nobody, or a process that waits for it, or in edition 1 keeps an interrupt
unfoldable pub device : List ℕ → ℕ → Bool
device w d = eqb (get_or w (device_base + d) 0) 0
    || if (eqb (get_or w (device_base + d) 0) kept) (eqb (get_or w header_edition 0) edition_second) (waiter w (get_or w (device_base + d) 0) d)

-- the words of the devices 1 to n, laid one over the other
unfoldable pub named : List ℕ → ℕ → ℕ
named w zero = 0
named w (suc n) = bit_or (named w n) (get_or w (device_base + suc n) 0)

-- the four devices behind d name nobody
abbrev pub nobody : List ℕ → ℕ → Bool
nobody w d = eqb (get_or w (device_base + (d + 1)) 0) 0 && (eqb (get_or w (device_base + (d + 2)) 0) 0 && (eqb (get_or w (device_base + (d + 3)) 0) 0
    && eqb (get_or w (device_base + (d + 4)) 0) 0))

-- the four devices behind d
abbrev pub four : List ℕ → ℕ → Bool
four w d = device w (d + 1) && (device w (d + 2) && (device w (d + 3) && device w (d + 4)))

abbrev pub devices : List ℕ → Bool
devices w = all (device w) device_count

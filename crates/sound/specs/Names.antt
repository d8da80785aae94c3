-- The tests on names, as the code makes them. Assumes nothing: these are definitions.
use Rattle.std.specs.Prelude.{Bool, not, ◌&&◌, List, ℕ, ◌+◌, ◌*◌, ◌/◌, ◌%◌, eqb}
use Rattle.machine.specs.Records.{process_name, process_second_name, process_third_name}
use Rattle.machine.specs.Sound.{process_at}
use Rattle.lists.specs.Counts.{all}

-- process q has another name than x y z
abbrev pub other_name : List ℕ → ℕ → ℕ → ℕ → ℕ → Bool
other_name w x y z q = not (eqb (process_at w q process_name) x && (eqb (process_at w q process_second_name) y && eqb (process_at w q process_third_name) z))

-- the processes 1 to n have other names than x y z
abbrev pub new_name : List ℕ → ℕ → ℕ → ℕ → ℕ → Bool
new_name w n x y z = all (other_name w x y z) n

-- a number below 256 for a name
abbrev pub mark : ℕ → ℕ → ℕ → ℕ
mark x y z = (x * 40503 + y * 31153 + z * 21269) / 4096 % 256

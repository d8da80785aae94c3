-- What is known of a list that refusal 11 lets pass, as the words are written. Assumes nothing: these are definitions.
use Rattle.std.specs.Prelude.{◌≡◌, List, ℕ, ◌≤◌, ◌*◌, length}
use Rattle.machine.specs.Numbers.{most_processes, most_buffers}
use Rattle.machine.specs.Records.{entry_width}
use Rattle.machine.specs.Queue.{Range}
use Rattle.machine.specs.Layout.{entries, sum}

-- a list of n processes and k buffers
pub record Accepted (ws : List ℕ) (n k : ℕ) : Type 0 where
  pub fives : length ws ≡ entry_width * n
  pub processes : n ≡ length (entries ws)
  pub buffers : k ≡ sum (entries ws)
  pub few : n ≤ most_processes
  pub small : k ≤ most_buffers

-- such a list, and one of its processes
abbrev pub AcceptedFor : List ℕ → ℕ → Type 0
AcceptedFor ws p = Accepted ws (length (entries ws)) (sum (entries ws)) × Range (length (entries ws)) p

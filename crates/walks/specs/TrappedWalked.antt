-- What a call told with its walk does to the words of the register record and of the walk. Assumes nothing: these are definitions.
use Rattle.std.specs.Prelude.{◌≡◌, List, ℕ, get_or}
use Rattle.machine.specs.Walk.{Walk}
use Rattle.monitor.specs.Promise.{CalledWalked}
use Rattle.trap.specs.Trapped.{words, answer, answered, registers}

-- four words as a walk
abbrev pub walk : List ℕ → Walk
walk l = record { entries = get_or l 0 0; passed = get_or l 1 0; most = get_or l 2 0; moved = get_or l 3 0 }

-- the call that the words of the registers say, from before to after, and the words of the walk afterwards
pub record TrappedWalked (t u s v before after w : List ℕ) : Type 0 where
  pub stays : registers after ≡ answered (registers before) (answer (registers after))
  pub called : CalledWalked t u s v (registers before).call (registers before).a (registers before).b (words (registers before))
      (answer (registers after)) (walk w)

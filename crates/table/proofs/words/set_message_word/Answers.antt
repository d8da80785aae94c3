-- `words::set_message_word` meets its contract. Assumes nothing.
use native.Mathlib.Omega.{arith}
use mathlib.Core.Path.{◌≡◌}
use mathlib.Core.List.{List}
use Prim.Native.Nat.{ℕ, ◌+◌}
use lib.ListN.{get_or}
use Rattle.machine.specs.Machine.{Machine}
use Rattle.machine.specs.Words.{Header, Buffer, index, Shows}
use Rattle.table.specs.Fits.{MessageWord}
use Rattle.table.proofs.Plain.{content_stored}
use Rattle.table.proofs.words.set_message_word.Goals as goal

-- where the word stands
stands : {t : List ℕ} {m : Machine} (b g i : ℕ) → Shows t m → MessageWord b g i m → i + g ≡ index (get_or t 0 0) (get_or t 1 0) (Buffer b g)
stands b g i s may = omega (arith, may.3, s.table.at (Header 0) (omega arith))

pub returns : goal.returns
returns c m s may =
    let a = c.args in
    rw (stands a.b a.g a.start s may) (content_stored s a.b a.g a.x may.0 (omega (arith, may.1)) may.2)

-- Promises used by a caller: what the machine of one promise may also do. Assumes nothing.
use mathlib.Core.List.{List}
use Prim.Native.Nat.{ℕ}
use Rattle.machine.specs.Machine.{Machine}
use Rattle.machine.specs.Words.{Shows}
use Rattle.table.specs.Promise.{Can}

-- words that show a machine of which A holds show one of which B holds, where B follows
pub can : {t : List ℕ} {A B : Machine → Type 0} → Can t A → ((m : Machine) → Shows t m → A m → B m) → Can t B
can c f = record { m = c.m; shows = c.shows; may = f c.m c.shows c.may }

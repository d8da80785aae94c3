-- `show` meets its contract: no row, or the buffer's row. Assumes nothing.
use mathlib.Core.List.{[]}
use mathlib.Core.Path.{◌≡◌, sym, ◌∙◌}
use Prim.Native.Nat.{◌+◌, ◌≤◌}
use native.Mathlib.Nat.{add-zero}
use native.Mathlib.Omega.{arith}
use lib.ListN.{length}
use borrow.Author.Tests.{not-true, not-false}
use Rattle.machine.specs.Queue.{Range}
use Rattle.machine.specs.Machine.{Machine}
use Rattle.machine.specs.Refusal.{row_width}
use Rattle.machine.specs.Step.{row}
use Rattle.machine.specs.Words.{Shows}
use Rattle.answers.proofs.Promises.{can}
use Rattle.listing.specs.Rows.{rows_of}
use Rattle.listing.proofs.Rows.{row_shown, row_hidden}
use Rattle.listing.proofs.show.Goals as goal
use Rattle.listing.proofs.show.Goals.{After-buffer_word-age, Else-not-is_shown}

-- ---- the buffer is shown, and its row's words are read one after the other
own_row : (e : Else-not-is_shown) → let a = e.args in (m : Machine) → Shows a.t.now m → Range m.B a.b → rows_of m a.a a.b ≡ row m a.b []
own_row e m w i = row_shown m _ _ (sym (e.is_shown.ensures m w i) ∙ not-false _ e.if-not-is_shown.false-raw)

-- the row fits into the room
fits : (e : After-buffer_word-age) → let a = e.args in a.at + row_width ≤ length a.room.now
fits e = let p = e.requires in rw (own_row (goal.at.After-buffer_word-age e).Else-not-is_shown p.m p.shows p.may.0) at p.may.1

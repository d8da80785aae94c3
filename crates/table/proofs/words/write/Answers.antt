-- `words::write` meets its contract: each word in turn. Assumes nothing.
use native.Mathlib.Omega.{arith}
use mathlib.Core.List.{List}
use mathlib.Core.Path.{◌≡◌}
use Prim.Native.Nat.{ℕ, ◌≤◌, ◌<◌}
use lib.ListN.{get_or}
use lib.Dec.{lit<, lit≤}
use Rattle.machine.specs.Queue.{Range}
use Rattle.machine.specs.Machine.{Machine}
use Rattle.machine.specs.Words.{Header, Buffer, index, Shows}
use Rattle.table.specs.Fits.{MessageWord}
use Rattle.table.proofs.words.write.Goals as goal

-- each word of the message may be written, from where the record was found to start
may_write : {t : List ℕ} {m : Machine} {b i : ℕ} (g : ℕ) → 6 ≤ g → g < 10 → Shows t m → i ≡ index (get_or t 0 0) (get_or t 1 0) (Buffer b 0)
    → Range m.B b → MessageWord b g i m
may_write g l h s e r = (r, l, h, omega (arith, e, s.table.at (Header 0) (omega arith)))

pub set_message_word-requires : goal.set_message_word-requires
set_message_word-requires c =
    let p = c.requires in
    record { m = p.m; shows = p.shows; may = may_write 6 (lit≤ tt) (lit< tt) p.shows c.before.of_buffer-start.ensures p.may }

pub set_message_word-requires-2 : goal.set_message_word-requires-2
set_message_word-requires-2 c =
    let after-set-message-word = c.before.before.before in
    let after-of-buffer = after-set-message-word.before.before in
    let start = after-of-buffer in
    let p = start.requires in
    let e = after-of-buffer.of_buffer-start.ensures in
    let s1 = after-set-message-word.set_message_word.ensures p.m p.shows (may_write 6 (lit≤ tt) (lit< tt) p.shows e p.may) in
    record { m = _; shows = s1; may = may_write 7 (lit≤ tt) (lit< tt) p.shows e p.may }

pub set_message_word-requires-3 : goal.set_message_word-requires-3
set_message_word-requires-3 c =
    let here = c.before.before.before.before.before.before.before in
    let p = here.requires in
    let e = here.before.before.of_buffer-start.ensures in
    let s1 = here.set_message_word.ensures p.m p.shows (may_write 6 (lit≤ tt) (lit< tt) p.shows e p.may) in
    let s2 = c.before.before.before.set_message_word-2.ensures _ s1 (may_write 7 (lit≤ tt) (lit< tt) p.shows e p.may) in
    record { m = _; shows = s2; may = may_write 8 (lit≤ tt) (lit< tt) p.shows e p.may }

pub set_message_word-requires-4 : goal.set_message_word-requires-4
set_message_word-requires-4 c =
    let after-set-message-word3 = c.before.before.before in
    let after-set-message-word2 = after-set-message-word3.before.before.before.before in
    let after-set-message-word = after-set-message-word2.before.before.before.before in
    let after-of-buffer = after-set-message-word.before.before in
    let start = after-of-buffer in
    let p = start.requires in
    let e = after-of-buffer.of_buffer-start.ensures in
    let s1 = after-set-message-word.set_message_word.ensures p.m p.shows (may_write 6 (lit≤ tt) (lit< tt) p.shows e p.may) in
    let s2 = after-set-message-word2.set_message_word-2.ensures _ s1 (may_write 7 (lit≤ tt) (lit< tt) p.shows e p.may) in
    let s3 = after-set-message-word3.set_message_word-3.ensures _ s2 (may_write 8 (lit≤ tt) (lit< tt) p.shows e p.may) in
    record { m = _; shows = s3; may = may_write 9 (lit≤ tt) (lit< tt) p.shows e p.may }

pub returns : goal.returns
returns c m s may =
    let after-set-message-word3 = c.before.before.before.before.before.before in
    let after-set-message-word2 = after-set-message-word3.before.before.before.before in
    let after-set-message-word = after-set-message-word2.before.before.before.before in
    let after-of-buffer = after-set-message-word.before.before in
    let e = after-of-buffer.of_buffer-start.ensures in
    let s1 = after-set-message-word.set_message_word.ensures m s (may_write 6 (lit≤ tt) (lit< tt) s e may) in
    let s2 = after-set-message-word2.set_message_word-2.ensures _ s1 (may_write 7 (lit≤ tt) (lit< tt) s e may) in
    let s3 = after-set-message-word3.set_message_word-3.ensures _ s2 (may_write 8 (lit≤ tt) (lit< tt) s e may) in
    c.before.before.set_message_word-4.ensures _ s3 (may_write 9 (lit≤ tt) (lit< tt) s e may)

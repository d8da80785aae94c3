-- `moves::off_device` meets its contract, whether p waits for a device or not. Assumes nothing.
use native.Mathlib.Omega.{arith}
use mathlib.Core.Path.{sym, ◌∙◌}
use lib.Dec.{lit<, lit≤}
use Rattle.table.proofs.Plain.{off_none, off_one}
use Rattle.table.proofs.moves.off_device.Goals as goal

pub process_word-device-requires : goal.process_word-device-requires
process_word-device-requires c = let p = c.requires in record { m = p.m; shows = p.shows; may = (p.may.process, lit≤ tt, lit< tt) }

pub returns-then-device-eq0 : goal.returns-then-device-eq0
returns-then-device-eq0 c m s may =
    let e = c.before.process_word-device.ensures m s (may.process, lit≤ tt, lit< tt) in
    off_none m _ (sym e ∙ c.if-device-eq0.true) s

pub set_device_word-requires : goal.set_device_word-requires
set_device_word-requires c =
    let p = c.requires in
    let e = c.before.before.process_word-device.ensures p.m p.shows (p.may.process, lit≤ tt, lit< tt) in
    let some = c.before.if-device-eq0.false in
    record { m = p.m; shows = p.shows; may = omega (arith, e, p.may.device) }

pub returns : goal.returns
returns c m s may =
    let here = c.before.before.before.before in
    let e = here.before.process_word-device.ensures m s (may.process, lit≤ tt, lit< tt) in
    let some = here.if-device-eq0.false in
    off_one m here.before.before.before.before.args.p e some (c.before.before.set_device_word.ensures m s (omega (arith, e, may.device)))

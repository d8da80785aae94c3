-- `semaphores::off_semaphore` meets its contract, whether p waits for a semaphore or not. Assumes nothing.
use mathlib.Core.Path.{sym, ◌∙◌}
use lib.Dec.{lit<, lit≤}
use Rattle.table.proofs.Plain.{off_no_semaphore}
use Rattle.table.proofs.semaphores.off_semaphore.Goals as goal

pub process_word-s-requires : goal.process_word-s-requires
process_word-s-requires c = let p = c.requires in record { m = p.m; shows = p.shows; may = (p.may.0, lit≤ tt, lit< tt) }

pub returns-then-s-eq0 : goal.returns-then-s-eq0
returns-then-s-eq0 c m w may =
    let e = c.before.process_word-s.ensures m w (may.0, lit≤ tt, lit< tt) in
    off_no_semaphore m _ (sym e ∙ c.if-s-eq0.true) w

pub leave_semaphore-requires : goal.leave_semaphore-requires
leave_semaphore-requires c =
    let p = c.requires in
    let e = c.before.before.process_word-s.ensures p.m p.shows (p.may.0, lit≤ tt, lit< tt) in
    record { m = p.m; shows = p.shows; may = rw e (p.may.1 (λ k. c.before.if-s-eq0.false (e ∙ k))) }

pub returns : goal.returns
returns c m w may =
    let here = c.before.before.before.before in
    let e = here.before.process_word-s.ensures m w (may.0, lit≤ tt, lit< tt) in
    rw (sym e) (c.before.before.leave_semaphore.ensures m w (rw e (may.1 (λ k. here.if-s-eq0.false (e ∙ k)))))

-- `running::stays` meets its contract: the first of the queue and who follows it are asked. Assumes nothing.
use native.Mathlib.Omega.{arith}
use mathlib.Core.Bool.{false≢true}
use mathlib.Core.Path.{sym, ◌∙◌}
use Prim.Native.Nat.{ℕ}
use borrow.Author.Tests.{ltb-true}
use Rattle.machine.specs.Machine.{Machine, priority}
use Rattle.table.specs.Fits.{MayLeave}
use Rattle.table.specs.Links.{neighbours, Processes, MayLink}
use Rattle.table.proofs.Linking.{as_neighbours}
use Rattle.table.proofs.Walk.{may_ask}
use Rattle.table.proofs.Foremost.{foremost, is_some}
use Rattle.table.proofs.running.stays.Goals as goal

may_follow : (m : Machine) {p : ℕ} → MayLeave p m → MayLink (Processes 0) 0 p m
may_follow m may = record { low = omega arith; linkable = (omega arith, λ l. may.fits.within _ may.stands) }

pub returns-then-current-p : goal.returns-then-current-p
returns-then-current-p c e = absurd (false≢true e)

pub link-follower-requires : goal.link-follower-requires
link-follower-requires c =
    let p = c.before.before.before.requires in
    record { m = p.m; g = neighbours p.m; shows = as_neighbours p.shows; may = may_follow p.m p.may }

pub returns-then-follower-eq0 : goal.returns-then-follower-eq0
returns-then-follower-eq0 c e m s may =
    let link = c.before in
    let test = link.before in
    foremost (priority m) m.running _ _ may.stands may.fits.once (sym (test.before.current.ensures m s tt) ∙ test.if-current-p.false)
    (link.link-follower.ensures m _ (as_neighbours s) (may_follow m may)) (λ z. absurd (z c.if-follower-eq0.true))

pub process_word-requires : goal.process_word-requires
process_word-requires c =
    let p = c.before.before.before.before.before.requires in
    let follows = c.before.link-follower.ensures p.m _ (as_neighbours p.shows) (may_follow p.m p.may) in
    record { m = p.m; shows = p.shows; may = may_ask p.m _ p.may.fits follows c.if-follower-eq0.false }

pub process_word-requires-2 : goal.process_word-requires-2
process_word-requires-2 c =
    let p = c.before.before.before.before.before.before.requires in
    record { m = p.m; shows = p.shows; may = ((is_some p.m p.may, (p.may.fits.within _ p.may.stands).0), omega arith, omega arith) }

pub returns : goal.returns
returns c e m s may =
    let link = c.before.before.before in
    let test = link.before in
    let follows = link.link-follower.ensures m _ (as_neighbours s) (may_follow m may) in
    let own = c.process_word-2.ensures m s ((is_some m may, (may.fits.within _ may.stands).0), omega arith, omega arith) in
    let next = c.before.process_word.ensures m s (may_ask m _ may.fits follows c.before.before.if-follower-eq0.false) in
    foremost (priority m) m.running _ _ may.stands may.fits.once (sym (test.before.current.ensures m s tt) ∙ test.if-current-p.false)
    follows (λ z. omega (arith, ltb-true c.before.process_word.result c.process_word-2.result e))

-- `semaphores::lower` meets its contract: refused, or current takes one off. Assumes nothing.
use mathlib.Core.Path.{◌≡◌, sym, ◌∙◌}
use Rattle.machine.specs.Machine.{Machine}
use Rattle.machine.specs.Refusal.{refusal}
use Rattle.machine.specs.Request.{Lower}
use Rattle.machine.specs.Legal.{Legal}
use Rattle.machine.specs.Words.{Shows}
use Rattle.answers.proofs.Exits.{refused_serves, exit_is}
use Rattle.answers.proofs.Promises.{can}
use Rattle.answers.proofs.Served.{refused_comes}
use Rattle.processes.specs.Semaphores.{MayTakeOne}
use Rattle.processes.proofs.Lowering.{may_take_one, lower_steps}
use Rattle.processes.proofs.semaphores.lower.Goals as goal
use Rattle.processes.proofs.semaphores.lower.Goals.{After-current-p, In_ok-lower_refusal}

pub returns-in_err-lower_refusal : goal.returns-in_err-lower_refusal
returns-in_err-lower_refusal c = refused_serves _ (λ m w L. c.in_err-lower_refusal.ensures m w L) (exit_is c.from_residual.ensures.1)

-- ---- no line applies, and current is read
none : (e : In_ok-lower_refusal) → let a = e.args in (m : Machine) → Shows a.t.now m → Legal m → refusal m (Lower a.a) ≡ 0
none e m w L = sym (e.in_ok-lower_refusal.ensures m w L)

may : (e : After-current-p) → let a = e.args in
    (m : Machine) → Shows a.t.now m → Legal m → MayTakeOne e.current-p.result a.a m
may e m w L = may_take_one L _ (e.current-p.ensures m w tt) (none (goal.at.After-current-p e).In_ok-lower_refusal m w L)

pub current-p-requires : goal.current-p-requires
current-p-requires c = can c.requires (λ m w L. tt)

pub take_one-requires : goal.take_one-requires
take_one-requires c = can c.requires (may (goal.at.take_one-requires c).After-current-p)

pub plainly-requires : goal.plainly-requires
plainly-requires c =
    let takes = c in
    let e = takes in
    let p = e.requires in
    record { m = _; shows = takes.take_one.ensures p.m p.shows (may (goal.at.plainly-requires c).After-current-p p.m p.shows p.may); may = tt }

pub returns : goal.returns
returns c m w L =
    let takes = c in
    let e = takes in
    let s = takes.take_one.ensures m w (may (goal.at.returns c).After-current-p m w L) in
    rw (lower_steps L _ (e.current-p.ensures m w tt) (none (goal.at.returns c).In_ok-lower_refusal m w L))
    (record { answer = c.plainly.ensures _ s tt; words = s })

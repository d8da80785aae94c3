-- `processes::stop` meets its contract: refused, or the process stops. Assumes nothing.
use mathlib.Core.Path.{sym, ◌∙◌}
use Rattle.machine.specs.Step.{effect}
use Rattle.answers.proofs.Exits.{refused_serves, exit_is}
use Rattle.answers.proofs.Promises.{can}
use Rattle.answers.proofs.Served.{refused_comes, accepted_comes}
use Rattle.processes.proofs.Accepted.{may_stop}
use Rattle.processes.proofs.stop.Goals as goal

pub returns-in_err-stop_refusal : goal.returns-in_err-stop_refusal
returns-in_err-stop_refusal c = refused_serves _ (λ m w L. c.in_err-stop_refusal.ensures m w L) (exit_is c.from_residual.ensures.1)

pub stop-requires : goal.stop-requires
stop-requires c =
    can c.requires
    (λ m w L. may_stop L (sym (c.in_ok-stop_refusal.ensures m w L)))

pub plainly-requires : goal.plainly-requires
plainly-requires c =
    let here = c in
    let p = here.requires in
    let e = sym (here.in_ok-stop_refusal.ensures p.m p.shows p.may) in
    record { m = _; shows = c.stop.ensures p.m p.shows (may_stop p.may e); may = tt }

pub returns : goal.returns
unfolding effect
returns c m w L =
    let here = c in
    let e = sym (here.in_ok-stop_refusal.ensures m w L) in
    let s = here.stop.ensures m w (may_stop L e) in
    accepted_comes m _ e (record { answer = c.plainly.ensures _ s tt; words = s })

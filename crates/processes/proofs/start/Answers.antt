-- `processes::start` meets its contract: refused, or the process wakes. Assumes nothing.
use mathlib.Core.Path.{◌≡◌, sym, ◌∙◌}
use Rattle.machine.specs.Machine.{Machine}
use Rattle.machine.specs.Refusal.{refusal}
use Rattle.machine.specs.Request.{Start}
use Rattle.machine.specs.Step.{effect}
use Rattle.machine.specs.Legal.{Legal}
use Rattle.machine.specs.Words.{Shows}
use Rattle.answers.proofs.Promises.{can}
use Rattle.answers.proofs.Served.{accepted_comes}
use Rattle.answers.proofs.Exits.{refused_walks, exit_is}
use Rattle.processes.proofs.Accepted.{may_start}
use Rattle.processes.proofs.Entering.{start_walks}
use Rattle.processes.proofs.start.Goals as goal
use Rattle.processes.proofs.start.Goals.{In_ok-start_refusal}

pub returns-in_err-start_refusal : goal.returns-in_err-start_refusal
returns-in_err-start_refusal c = refused_walks (λ m w L. c.in_err-start_refusal.ensures m w L) (exit_is c.from_residual.ensures.1)

-- ---- no line applies
none : (e : In_ok-start_refusal) → let a = e.args in (m : Machine) → Shows a.t.now m → Legal m → refusal m (Start a.a) ≡ 0
none e m w L = sym (e.in_ok-start_refusal.ensures m w L)

pub wake-position-requires : goal.wake-position-requires
wake-position-requires c = can c.requires (λ m w L. may_start L (none (goal.at.wake-position-requires c).In_ok-start_refusal m w L))

pub plainly-requires : goal.plainly-requires
plainly-requires c =
    let wakes = c in
    let e = wakes in
    let p = e.requires in
    record {
      m = _;
      shows = wakes.wake-position.ensures.words p.m p.shows
          (may_start p.may (none (goal.at.plainly-requires c).In_ok-start_refusal p.m p.shows p.may));
      may = tt;
    }

pub returns : goal.returns
unfolding effect
returns c =
    let wakes = c.wake-position.ensures in
    let e = c in
    record {
      serves = λ m w L. (let z = none (goal.at.returns c).In_ok-start_refusal m w L in
          let s = wakes.words m w (may_start L z) in
          accepted_comes m _ z (record { answer = c.entered.ensures.answer ∙ c.plainly.ensures _ s tt; words = s }));
      walks = λ m w L. (let z = none (goal.at.returns c).In_ok-start_refusal m w L in
          start_walks m _ z (wakes.gives m w (may_start L z)) c.entered.ensures.walk);
    }

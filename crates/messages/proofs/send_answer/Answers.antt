-- `send_answer` meets its contract: refused, or the buffer is answered or freed. Assumes nothing.
use mathlib.Core.Path.{◌≡◌, sym, ◌∙◌}
use Rattle.machine.specs.Machine.{Machine, zeros}
use Rattle.machine.specs.Refusal.{refusal}
use Rattle.machine.specs.Request.{SendAnswer}
use Rattle.machine.specs.Step.{effect}
use Rattle.machine.specs.Legal.{Legal}
use Rattle.machine.specs.Words.{Shows}
use Rattle.answers.proofs.Promises.{can}
use Rattle.answers.proofs.Served.{accepted_comes}
use Rattle.answers.proofs.Exits.{refused_walks, exit_is}
use Rattle.messages.specs.Conversations.{MayAnswerOrFree}
use Rattle.messages.proofs.Sending.{answer_words, may_answer_or_free, send_answer_walks}
use Rattle.messages.proofs.send_answer.Goals as goal
use Rattle.messages.proofs.send_answer.Goals.{In_ok-send_answer_refusal}

pub returns-in_err-send_answer_refusal : goal.returns-in_err-send_answer_refusal
returns-in_err-send_answer_refusal c =
    refused_walks (λ m w L. c.in_err-send_answer_refusal.ensures m w tt ∙ answer_words m _ _) (exit_is c.from_residual.ensures.1)

-- ---- no line applies
none : (e : In_ok-send_answer_refusal) (m : Machine) → Shows e.args.t.now m → refusal m (SendAnswer e.args.a zeros) ≡ 0
none e m w = sym (e.in_ok-send_answer_refusal.ensures m w tt)

may : (e : In_ok-send_answer_refusal) (m : Machine) → Shows e.args.t.now m → Legal m → MayAnswerOrFree e.args.a m
may e m w L = may_answer_or_free L e.args.a (none e m w)

pub answer_or_free-position-requires : goal.answer_or_free-position-requires
answer_or_free-position-requires c = can c.before.requires (may (goal.at.answer_or_free-position-requires c).In_ok-send_answer_refusal)

pub plainly-requires : goal.plainly-requires
plainly-requires c =
    let did = c in
    let e = did in
    let p = e.requires in
    record {
      m = _;
      shows = did.answer_or_free-position.ensures.words p.m p.shows (may (goal.at.plainly-requires c).In_ok-send_answer_refusal p.m p.shows p.may);
      may = tt;
    }

pub returns : goal.returns
unfolding effect
returns c =
    let did = c in
    let e = did in
    let does = did.answer_or_free-position.ensures in
    record {
      serves = λ m w L. (let s = does.words m w (may (goal.at.returns c).In_ok-send_answer_refusal m w L) in
          let told = c.entered.ensures.answer ∙ c.plainly.ensures _ s tt in
          accepted_comes m _ (sym (answer_words m _ _) ∙ none (goal.at.returns c).In_ok-send_answer_refusal m w) (record { answer = told; words = s }));
      walks = λ m w L. send_answer_walks m _ _ (sym (answer_words m _ _) ∙ none (goal.at.returns c).In_ok-send_answer_refusal m w)
          (does.arrives m w (may (goal.at.returns c).In_ok-send_answer_refusal m w L)) c.entered.ensures.walk;
    }

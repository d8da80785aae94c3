-- `send` meets its contract: rows 2, 4, 8 and 5 in their order, or the lowest free own buffer goes to the receiver. Assumes nothing.
use native.Mathlib.Omega.{arith}
use mathlib.Core.Bool.{false}
use mathlib.Core.Path.{◌≡◌, refl, sym, ◌∙◌}
use Rattle.machine.specs.Machine.{Machine, Words, current}
use Rattle.machine.specs.Refusal.{outside, free_own, refusal}
use Rattle.machine.specs.Request.{Send}
use Rattle.machine.specs.Legal.{Legal}
use Rattle.machine.specs.Words.{Shows}
use Rattle.answers.proofs.Promises.{can}
use Rattle.answers.proofs.Served.{accepted_comes}
use Rattle.answers.proofs.Walks.{refused_walked}
use Rattle.messages.specs.Conversations.{MaySend}
use Rattle.messages.proofs.OwnRun.{may_own}
use Rattle.messages.proofs.Sending.{send_by_none, send_outside, send_to_oneself, send_without, send_accepted}
use Rattle.messages.proofs.Sending.{send_effect, send_walks, may_send_lowest}
use Rattle.messages.proofs.send.Goals as goal
use Rattle.messages.proofs.send.Goals.{After-free_own-b, Else-b-eq0, Else-outside, Else-sender-eq0}

-- ---- the places where a line has let the send pass, each from a later one
-- ---- what is known there, of a machine that the words show
module _ (e : Else-sender-eq0) {m : Machine} (w : Shows e.args.t.now m) where
  by_current : e.current-sender.result ≡ current m
  by_current = e.current-sender.ensures m w tt

module _ (e : Else-outside) {m : Machine} (w : Shows (e).args.t.now m) where
  within : outside (e).args.a m.P ≡ false
  within = sym (rw (e.processes.ensures m w tt) at e.outside.ensures) ∙ e.if-outside.false

module _ (e : After-free_own-b) {m : Machine} (w : Shows (e).args.t.now m) (L : Legal m) where
  lowest : e.free_own-b.result ≡ free_own m e.current-sender.result
  lowest = e.free_own-b.ensures m w (may_own L (by_current (goal.at.After-free_own-b e).Else-sender-eq0 w) e.if-sender-eq0.false)

-- ---- the lines
pub returns-then-sender-eq0 : goal.returns-then-sender-eq0
returns-then-sender-eq0 c =
    refused_walked (λ m w L. send_by_none m _ _ (c.current-sender.ensures m w tt) c.if-sender-eq0.true)
    (omega arith) refl refl

pub returns-then-outside : goal.returns-then-outside
returns-then-outside c =
    let asked = c in
    let e = asked in
    refused_walked (λ m w L. (let o = rw (asked.processes.ensures m w tt) at asked.outside.ensures in
    send_outside m _ _ (by_current (goal.at.returns-then-outside c).Else-sender-eq0 w) e.if-sender-eq0.false (sym o ∙ c.if-outside.true)))
    (omega arith) refl refl

pub returns-then-a-sender : goal.returns-then-a-sender
returns-then-a-sender c =
    let e = c.before in
    refused_walked (λ m w L. send_to_oneself m _ _ (by_current (goal.at.returns-then-a-sender c).Else-sender-eq0 w) e.if-sender-eq0.false
    (within (goal.at.returns-then-a-sender c).Else-outside w) c.if-a-sender.true)
    (omega arith) refl refl

pub free_own-b-requires : goal.free_own-b-requires
free_own-b-requires c =
    let e = c.before in
    can e.requires (λ m w L. may_own L (by_current (goal.at.free_own-b-requires c).Else-sender-eq0 w) e.if-sender-eq0.false)

pub returns-then-b-eq0 : goal.returns-then-b-eq0
returns-then-b-eq0 c =
    let f = c.before in
    let e = f in
    refused_walked (λ m w L.
    send_without m _ _ (by_current (goal.at.returns-then-b-eq0 c).Else-sender-eq0 w) e.if-sender-eq0.false
    (within (goal.at.returns-then-b-eq0 c).Else-outside w) f.if-a-sender.false
    (lowest (goal.at.returns-then-b-eq0 c).After-free_own-b w L) c.if-b-eq0.true)
    (omega arith) refl refl

-- ---- the send
module _ (e : Else-b-eq0) {m : Machine} (w : Shows (e.before).args.t.now m) (L : Legal m) where
  may_go : MaySend (e.before).args.a e.free_own-b.result m
  may_go = may_send_lowest L _ (within (goal.at.Else-b-eq0 e).Else-outside w) (lowest (goal.at.Else-b-eq0 e).After-free_own-b w L) e.if-b-eq0.false

  accepted : (ws : Words) → refusal m (Send (e.before).args.a ws) ≡ 0
  accepted ws =
      let r = e.before in
      let o = e.before in
      send_accepted m _ ws (by_current (goal.at.Else-b-eq0 e).Else-sender-eq0 w) r.if-sender-eq0.false
      (within (goal.at.Else-b-eq0 e).Else-outside w) o.if-a-sender.false (lowest (goal.at.Else-b-eq0 e).After-free_own-b w L) e.if-b-eq0.false

pub send_in-position-requires : goal.send_in-position-requires
send_in-position-requires c = can (c.before).requires (λ m w L. may_go (goal.at.send_in-position-requires c).Else-b-eq0 w L)

pub done-requires : goal.done-requires
done-requires c =
    let sent = c in
    let e = sent in
    let p = (e.before).requires in
    record { m = _; shows = sent.send_in-position.ensures.words p.m p.shows (may_go (goal.at.done-requires c).Else-b-eq0 p.shows p.may); may = tt }

pub returns : goal.returns
returns c =
    let sent = c in
    let e = sent in
    let r = e in
    let sends = sent.send_in-position.ensures in
    record {
      serves = λ m w L. (let s = sends.words m w (may_go (goal.at.returns c).Else-b-eq0 w L) in
          let told = c.entered.ensures.answer ∙ c.done.ensures _ s tt in
          accepted_comes m _ (accepted (goal.at.returns c).Else-b-eq0 w L _)
          (rw (send_effect m _ _ (by_current (goal.at.returns c).Else-sender-eq0 w) (lowest (goal.at.returns c).After-free_own-b w L))
          (record { answer = told; words = s })));
      walks = λ m w L.
          send_walks m _ _ (by_current (goal.at.returns c).Else-sender-eq0 w) (lowest (goal.at.returns c).After-free_own-b w L)
          (accepted (goal.at.returns c).Else-b-eq0 w L _) (sends.arrives m w (may_go (goal.at.returns c).Else-b-eq0 w L)) c.entered.ensures.walk;
    }

-- `clean` meets its contract: no such process, or it halts and all buffers are cleaned. Assumes nothing.
use mathlib.Core.Bool.{false}
use mathlib.Core.Path.{◌≡◌, refl, sym, ap, ◌∙◌}
use Prim.Native.Nat.{ℕ}
use native.Mathlib.Omega.{arith}
use Rattle.machine.specs.Machine.{Machine, zeros}
use Rattle.machine.specs.Refusal.{outside}
use Rattle.machine.specs.Step.{done, cleaned, halted}
use Rattle.machine.specs.Legal.{Legal}
use Rattle.machine.specs.Words.{Shows}
use Rattle.table.specs.Promise.{Does}
use Rattle.table.proofs.LegalFits.{legal_stop}
use Rattle.answers.proofs.Promises.{can}
use Rattle.answers.proofs.Walks.{refused_walked}
use Rattle.clean.specs.Clean.{Stopped}
use Rattle.clean.proofs.Cleaning.{halted_changes, clean_barred, clean_done, clean_is, clean_stopped, clean_words, clean_walks}
use Rattle.clean.proofs.clean.Goals as goal
use Rattle.clean.proofs.clean.Goals.{After-halt, After-outside, Else-outside}

-- ---- the places behind the test and behind each call, each from the next
-- ---- what is known there, of a machine that the words show
module _ (e : After-outside) {m : Machine} (s : Shows e.args.t.now m) where
  tested : e.outside.result ≡ outside e.args.a m.P
  tested = e.outside.ensures ∙ ap (outside e.args.a) (e.processes.ensures m s tt)

module _ (e : Else-outside) {m : Machine} (s : Shows e.args.t.now m) where
  within : outside e.args.a m.P ≡ false
  within = sym (tested (goal.at.Else-outside e).After-outside s) ∙ e.if-outside.false

  stopped : Legal m → Stopped e.args.a (halted e.args.a m)
  stopped = clean_stopped m _ within

halts : (e : After-halt) → let a = e.args in Does a.t.now e.halt.new.t Legal (halted a.a)
halts e m s L = e.halt.ensures m s (legal_stop L _ (clean_is m _ (within (goal.at.After-halt e).Else-outside s) L))

-- ---- the calls
pub returns-then-outside : goal.returns-then-outside
returns-then-outside c =
    let e = c in
    refused_walked (λ m s L. clean_barred m _ (sym (tested (goal.at.returns-then-outside c).After-outside s) ∙ c.if-outside.true))
    (omega arith) refl refl

pub halt-requires : goal.halt-requires
halt-requires c = can c.requires (λ m s L. legal_stop L _ (clean_is m _ (within (goal.at.halt-requires c).Else-outside s) L))

pub clean_buffers-sweep-requires : goal.clean_buffers-sweep-requires
clean_buffers-sweep-requires c =
    let e = c in
    let p = e.requires in
    record {
      m = _;
      shows = halts (goal.at.clean_buffers-sweep-requires c).After-halt p.m p.shows p.may;
      may =
          stopped (goal.at.clean_buffers-sweep-requires c).Else-outside p.shows p.may;
    }

pub done-requires : goal.done-requires
done-requires c =
    let all = c in
    let e = all in
    let p = e.requires in
    record {
      m = _;
      shows = all.clean_buffers-sweep.ensures.words _ (halts (goal.at.done-requires c).After-halt p.m p.shows p.may)
          (stopped (goal.at.done-requires c).Else-outside p.shows p.may);
      may = tt;
    }

pub returns : goal.returns
returns c =
    let e = c in
    let all = c.clean_buffers-sweep.ensures in
    let a = e.args.a in
    record {
      serves = λ m s L. (let o = within (goal.at.returns c).Else-outside s in
          let rests = stopped (goal.at.returns c).Else-outside s L in
          let words = clean_words m a o L (all.words _ (halts (goal.at.returns c).After-halt m s L) rests) in
          let changed = all.changed _ (halts (goal.at.returns c).After-halt m s L) rests ∙ halted_changes a m in
          rw (clean_done m a o)
          (record { answer = c.done.ensures _ words tt ∙ ap (λ (k : ℕ). (done k 0 zeros (cleaned a m)).answer) changed; words = words }));
      walks = λ m s L. clean_walks m a (within (goal.at.returns c).Else-outside s) L
          (all.walk _ (halts (goal.at.returns c).After-halt m s L) (stopped (goal.at.returns c).Else-outside s L));
    }

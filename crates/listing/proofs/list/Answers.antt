-- `list` meets its contract: refusals 4 and 10, and the rows. Assumes nothing.
use mathlib.Core.Bool.{false}
use mathlib.Core.List.{List}
use mathlib.Core.Path.{◌≡◌, refl, sym, ◌∙◌}
use Prim.Native.Nat.{ℕ, ◌*◌, ◌/◌, ◌≤◌}
use native.Mathlib.Omega.{arith}
use lib.ListN.{length}
use borrow.Author.Tests.{ltb-true, ltb-false}
use Rattle.machine.specs.Machine.{Machine}
use Rattle.machine.specs.Words.{Shows}
use Rattle.machine.specs.Refusal.{outside, is_shown, shown, row_width}
use Rattle.answers.proofs.Promises.{can}
use Rattle.listing.proofs.Rows.{keep_few}
use Rattle.listing.proofs.ListStep.{list_no_process, list_no_room, list_done, refused_lists}
use Rattle.listing.proofs.list.Goals as goal
use Rattle.listing.proofs.list.Goals.{After-fill-end, After-is_short, Else-is_short}

pub returns-then-outside : goal.returns-then-outside
returns-then-outside c =
    refused_lists 4 refl (λ m w.
    list_no_process m _ _ (rw (c.processes.ensures m w tt) at (sym c.outside.ensures ∙ c.if-outside.true)))

-- what is lent, and what is asked for
abbrev lent : After-is_short → List ℕ
lent c = c.args.t.now

abbrev asked : After-is_short → ℕ
asked c = c.args.a

-- a is a process
inside : (c : After-is_short) (m : Machine) → Shows (lent c) m → outside (asked c) m.P ≡ false
inside c m w = rw (← (c.processes.ensures m w tt)) (sym c.outside.ensures ∙ c.if-outside.false)

pub returns-then-is_short : goal.returns-then-is_short
returns-then-is_short c =
    let a = c in
    refused_lists 10 refl (λ m w.
    list_no_room m _ _ (inside (goal.at.returns-then-is_short c).After-is_short m w)
    (ltb-true _ _ (sym (a.is_short.ensures m w tt) ∙ c.if-is_short.true)))

-- past the second test the room is enough
fits : (c : Else-is_short) (m : Machine) → Shows (lent (goal.at.Else-is_short c).After-is_short) m
    → row_width * length (shown m (asked (goal.at.Else-is_short c).After-is_short)) ≤ length c.args.room.now
fits c m w = ltb-false _ _ (sym (c.is_short.ensures m w tt) ∙ c.if-is_short.false)

-- the rows end behind five words for each
counted : (c : After-fill-end) (m : Machine) → Shows (lent (goal.at.After-fill-end c).After-is_short) m
    → c.fill-end.result / row_width ≡ length (shown m (asked (goal.at.After-fill-end c).After-is_short))
counted c m w = omega (arith, c.fill-end.ensures.end m w (fits (goal.at.After-fill-end c).Else-is_short m w))

pub overflow_cast-end : goal.overflow_cast-end
overflow_cast-end c =
    let a = c in
    let s = a in
    let p = s.requires in
    omega (arith, counted (goal.at.overflow_cast-end c).After-fill-end p.m p.shows, keep_few (is_shown p.m s.args.a) 1 p.m.B, p.may.fixed.B128)

pub returns : goal.returns
returns c =
    let f = c in
    let enough = fits (goal.at.returns c).Else-is_short in
    let a = f in
    record {
      comes = λ m w L. rw (list_done m _ _ (inside (goal.at.returns c).After-is_short m w) (enough m w))
          (record { answer = c.done.ensures m w tt ∙ rw (counted (goal.at.returns c).After-fill-end m w); words = w });
      room = λ m w L. rw (list_done m _ _ (inside (goal.at.returns c).After-is_short m w) (enough m w)) (f.fill-end.ensures.put m w (enough m w));
    }

-- `refusal` meets its contract: the rows 11 and 12 in their order. Assumes nothing.
use Prim.Native.Nat.{◌≤◌}
use native.Mathlib.Omega.{arith}
use mathlib.Core.Bool.{true, ◌&&◌}
use mathlib.Core.Path.{◌≡◌, sym, ◌∙◌}
use lib.ListN.{length}
use borrow.Author.Tests.{not-true, not-false, lt-ltb, le-ltb}
use Rattle.machine.specs.Refusal.{first}
use Rattle.machine.specs.Layout.{entries, sum, fives, layout_ok, setting_ok, layout_refusal}
use Rattle.machine.specs.Words.{size}
use Rattle.layout.proofs.Acceptance.{accepted}
use Rattle.laws.proofs.Laid.{tells_setting}
use Rattle.layout.proofs.refusal.Goals as goal
use Rattle.layout.proofs.refusal.Goals.{Else-not-acceptable, Else-not-setting_ok}

pub returns-then-not-setting_ok : goal.returns-then-not-setting_ok
unfolding layout_refusal first
returns-then-not-setting_ok c = rw (sym c.before.setting_ok.ensures ∙ not-true _ c.if-not-setting_ok.true-raw)

-- edition and counters pass
module _ (c : Else-not-setting_ok) where
  set : setting_ok c.before.before.before.before.args.edition c.before.before.before.before.args.counters.now ≡ true
  set = sym c.before.setting_ok.ensures ∙ not-false _ c.if-not-setting_ok.false-raw

  few : length c.before.before.before.before.args.counters.now ≤ 16
  few = ((tells_setting c.before.before.before.before.args.edition c.before.before.before.before.args.counters.now).holds set).few

pub returns-then-not-acceptable : goal.returns-then-not-acceptable
unfolding layout_refusal first
returns-then-not-acceptable c = rw (
  set (goal.at.returns-then-not-acceptable c).Else-not-setting_ok,
  sym c.before.acceptable.ensures ∙
      not-true _ c.if-not-acceptable.true-raw,
)

-- past row 11
module _ (c : Else-not-acceptable) where
  passed : (fives c.before.before.before.before.before.before.args.list.now
      && layout_ok (entries c.before.before.before.before.before.before.args.list.now)) ≡ true
  passed = sym c.before.acceptable.ensures ∙ not-false _ c.if-not-acceptable.false-raw

pub buffers-requires : goal.buffers-requires
buffers-requires c = let a = accepted _ (passed (goal.at.buffers-requires c).Else-not-acceptable) in omega arith

pub returns-then-room-list : goal.returns-then-room-list
unfolding layout_refusal first
returns-then-room-list c =
    let past1 = c.before.before.before.before in
    let start = past1.before.before.before.before in
    let a = accepted _ (passed (goal.at.returns-then-room-list c).Else-not-acceptable) in
    let l = entries start.args.list.now in
    let used = size (length l) (sum l) (length start.args.counters.now) in
    rw (
      set (goal.at.returns-then-room-list c).Else-not-setting_ok,
      passed (goal.at.returns-then-room-list c).Else-not-acceptable,
      lt-ltb start.args.room used (omega (arith, c.if-room-list.true, c.before.buffers.ensures.0)),
    )

pub returns : goal.returns
unfolding layout_refusal first
returns c =
    let past1 = c.before.before.before.before in
    let start = past1.before.before.before.before in
    let a = accepted _ (passed (goal.at.returns c).Else-not-acceptable) in
    let l = entries start.args.list.now in
    let used = size (length l) (sum l) (length start.args.counters.now) in
    rw (
      set (goal.at.returns c).Else-not-setting_ok,
      passed (goal.at.returns c).Else-not-acceptable,
      le-ltb start.args.room used (omega (arith, c.if-room-list.false, c.before.buffers.ensures.0)),
    )

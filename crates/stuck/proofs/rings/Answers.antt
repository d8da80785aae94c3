-- `rings` meets its contract: the two refusals in order, and the rings. Assumes nothing.
use mathlib.Core.Path.{refl, sym, ◌∙◌}
use borrow.Author.Tests.{not-true, not-false}
use Rattle.machine.specs.Sound.{Sound}
use Rattle.lists.proofs.Tests.{differ}
use Rattle.stuck.proofs.Answers.{rings_unsound, rings_short, rings_done, rings_may}
use Rattle.stuck.proofs.rings.Goals as goal
use Rattle.stuck.proofs.rings.Goals.{Else-not-sound}

-- past the first test the table is sound
is_sound : (c : Else-not-sound) → Sound c.before.before.before.before.args.table.now
is_sound c = c.before.sound.ensures.0 (not-false _ c.if-not-sound.false-raw)

pub returns-then-not-sound : goal.returns-then-not-sound
returns-then-not-sound c = rings_unsound (λ S. differ (sym (c.before.before.sound.ensures.1 S) ∙ not-true _ c.before.if-not-sound.true-raw))
    c.refused_rings.ensures

pub measure-extent-requires : goal.measure-extent-requires
measure-extent-requires c = (is_sound (goal.at.measure-extent-requires c).Else-not-sound, refl)

pub returns-then-room-words : goal.returns-then-room-words
returns-then-room-words c = let s = c.before.before in rings_short
    (is_sound (goal.at.returns-then-room-words c).Else-not-sound) s.measure-extent.ensures c.before.if-room-words.true c.refused_rings-then-room-words.ensures

pub fill-requires : goal.fill-requires
fill-requires c =
    let s = c.before.before.before in (
      is_sound (goal.at.fill-requires c).Else-not-sound,
      rings_may
          (is_sound (goal.at.fill-requires c).Else-not-sound) s.measure-extent.ensures c.before.before.if-room-words.false,
    )

pub returns : goal.returns
returns c =
    let s = c.before.before.before.before.before.before in
    rings_done (is_sound (goal.at.returns c).Else-not-sound) s.measure-extent.ensures c.before.before.before.before.before.if-room-words.false
    c.before.before.fill.ensures

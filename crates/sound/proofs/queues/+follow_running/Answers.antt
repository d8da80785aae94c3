-- `sound::queues::follow_running` meets its contract: four links in turn, then itself. Assumes nothing.
use mathlib.Core.Path.{refl}
use Rattle.sound.proofs.Following.{follow_ends, one_link, link_more, link_last}
use Rattle.sound.proofs.queues.+follow_running.Goals as goal

pub returns-then-at-eq0 : goal.returns-then-at-eq0
returns-then-at-eq0 t c =
    follow_ends _ _ _ _ _ _ _ _ c.if-at-eq0.true refl c.at_end.ensures

pub returns-then-first-eq0 : goal.returns-then-first-eq0
returns-then-first-eq0 t c =
    let first = one_link c.running_link-first.ensures.0 c.if-not-first.false in
    link_last _ _ _ first c.if-first-eq0.true refl c.at_end-then-first-eq0.ensures

pub returns-then-second-eq0 : goal.returns-then-second-eq0
returns-then-second-eq0 t c =
    let first = one_link c.running_link-first.ensures.0 c.if-not-first.false in
    let second = link_more first c.running_link-second.ensures.0 c.if-not-second.false in
    link_last _ _ _ second c.if-second-eq0.true refl c.at_end-then-second-eq0.ensures

pub returns-then-third-eq0 : goal.returns-then-third-eq0
returns-then-third-eq0 t c =
    let first = one_link c.running_link-first.ensures.0 c.if-not-first.false in
    let second = link_more first c.running_link-second.ensures.0 c.if-not-second.false in
    let third = link_more second c.running_link-third.ensures.0 c.if-not-third.false in
    link_last _ _ _ third c.if-third-eq0.true refl c.at_end-then-third-eq0.ensures

pub returns-then-fourth-eq0 : goal.returns-then-fourth-eq0
returns-then-fourth-eq0 t c =
    let first = one_link c.running_link-first.ensures.0 c.if-not-first.false in
    let second = link_more first c.running_link-second.ensures.0 c.if-not-second.false in
    let third = link_more second c.running_link-third.ensures.0 c.if-not-third.false in
    let fourth = link_more third c.running_link-fourth.ensures.0 c.if-not-fourth.false in
    link_last _ _ _ fourth c.if-fourth-eq0.true refl c.at_end-then-fourth-eq0.ensures
